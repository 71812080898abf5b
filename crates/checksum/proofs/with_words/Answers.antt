-- `checksum::with_words` meets its contract.
use Rattle.std.proofs.Common.{◌∙◌}
use Rattle.checksum.proofs.FoldLaws.{folded-later}
use Rattle.checksum.proofs.with_words.Goals as goal

pub returns : goal.returns
returns c = c.fold.ensures ∙ folded-later c.args.sum _ _ c.words.ensures.same
