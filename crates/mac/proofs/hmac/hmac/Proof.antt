use Rattle.std.proofs.Common.{refl, ap, ◌∙◌, rules}
use Rattle.mac.specs.Hmac.{filled}
use Rattle.mac.specs.HmacLaws.{whole-message}
use Rattle.mac.specs.HashContexts.{parts_of, digest_room}
use Rattle.mac.specs.HashLaws.{short}
use Rattle.mac.proofs.hmac.hmac.Statement.{statement}
use Rattle.mac.proofs.hmac.hmac.Tie as tie

returns : tie.Need-returns
returns c =
    let up = c.before in
    let n = up.before in
    let a = n.before.before.before.args.hash in
    c.finish.ensures
    ∙ ap (filled digest_room) (whole-message (parts_of a) (short a) _ _ n.new.ensures up.update.ensures refl)

pub hmac_spec : {M : Type 1} → statement M
hmac_spec = tie.close (tie.spec (λ c κs. search rules) (λ c κs. search rules) (λ c κs. search rules) returns)
