use Rattle.std.proofs.Common.{◌∙◌, rules}
use Rattle.mac.specs.HmacLaws.{length-hmac_sha256}
use Rattle.mac.specs.HashContexts.{digest_room}
use Rattle.mac.specs.HashLaws.{filled-full}
use Rattle.mac.proofs.hmac.hmac_sha256.Statement.{statement}
use Rattle.mac.proofs.hmac.hmac_sha256.Tie as tie

returns : tie.Need-returns
returns c = c.hmac.ensures ∙ filled-full digest_room _ (length-hmac_sha256 _ _)

pub hmac_sha256_spec : {M : Type 1} → statement M
hmac_sha256_spec = tie.close (tie.spec (λ c κs. search rules) returns)
