use Rattle.std.proofs.Common.{◌∙◌}
use Rattle.mac.specs.Sha1Laws.{length-sha1}
use Rattle.mac.specs.HashContexts.{digest_room}
use Rattle.mac.specs.HashLaws.{cut}
use Rattle.mac.proofs.sha1.sha1.Goals as goal

pub returns : goal.returns
returns c = c.first.ensures ∙ cut digest_room 20 _ (length-sha1 _) c.hash.ensures
