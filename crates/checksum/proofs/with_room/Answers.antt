-- `checksum::with_room` meets its contract: a sum that is folded folds to itself.
use Rattle.std.proofs.Common.{ap, ◌∙◌, rules}
use Rattle.checksum.specs.Running.{folded}
use Rattle.checksum.proofs.FoldLaws.{folded-below, folded-word}
use Rattle.checksum.proofs.with_room.Goals as goal

pub returns : goal.returns
returns c =
    let n = c.args.total in
    record { same = ap folded c.fold.ensures ∙ folded-word (folded n) (folded-below n); low = search rules }
