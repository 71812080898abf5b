use Rattle.std.proofs.Common.{refl, ap, ◌∙◌, rules}
use Rattle.mac.specs.BlocksLaws.{whole-message}
use Rattle.mac.specs.Hmac.{filled}
use Rattle.mac.specs.HashContexts.{parts_of, digest_room}
use Rattle.mac.proofs.hash.hash.Statement.{statement}
use Rattle.mac.proofs.hash.hash.Tie as tie

returns : tie.Need-returns
returns c =
    let up = c.before in
    let n = up.before in
    let H = parts_of n.before.before.args.hash in
    c.finish.ensures ∙ ap (filled digest_room) (whole-message H _ n.new.ensures up.update.ensures refl)

pub hash_spec : {M : Type 1} → statement M
hash_spec = tie.close (tie.spec (λ c κs. search rules) (λ c κs. search rules) (λ c κs. search rules) returns)
