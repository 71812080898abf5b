use Rattle.std.proofs.Common.{◌∙◌, rules}
use Rattle.mac.specs.Sha256Laws.{length-sha256}
use Rattle.mac.specs.HashContexts.{digest_room}
use Rattle.mac.specs.HashLaws.{filled-full}
use Rattle.mac.proofs.sha256.sha256.Statement.{statement}
use Rattle.mac.proofs.sha256.sha256.Tie as tie

returns : tie.Need-returns
returns c = c.hash.ensures ∙ filled-full digest_room _ (length-sha256 _)

pub sha256_spec : {M : Type 1} → statement M
sha256_spec = tie.close (tie.spec (λ c κs. search rules) returns)
