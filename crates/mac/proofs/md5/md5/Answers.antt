use Rattle.std.proofs.Common.{◌∙◌}
use Rattle.mac.specs.Md5Laws.{length-md5}
use Rattle.mac.specs.HashContexts.{digest_room}
use Rattle.mac.specs.HashLaws.{cut}
use Rattle.mac.proofs.md5.md5.Goals as goal

pub returns : goal.returns
returns c = c.first.ensures ∙ cut digest_room 16 _ (length-md5 _) c.hash.ensures
