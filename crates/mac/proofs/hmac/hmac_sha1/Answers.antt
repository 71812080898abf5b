use Rattle.std.proofs.Common.{◌∙◌}
use Rattle.mac.specs.HmacLaws.{length-hmac_sha1}
use Rattle.mac.specs.HashContexts.{digest_room}
use Rattle.mac.specs.HashLaws.{cut}
use Rattle.mac.proofs.hmac.hmac_sha1.Goals as goal

pub returns : goal.returns
returns c = c.first.ensures ∙ cut digest_room 20 _ (length-hmac_sha1 _ _) c.hmac.ensures
