use Rattle.std.proofs.Common.{take, sym, refl, ap, ◌∙◌}
use Rattle.mac.specs.Blocks.{absorb}
use Rattle.mac.specs.Hmac.{filled}
use Rattle.mac.specs.HmacLaws.{ended}
use Rattle.mac.specs.HashContexts.{parts_of, digest_room, hash_view, hmac_view}
use Rattle.mac.specs.HashLaws.{length-finished, cut}
use Rattle.mac.proofs.hmac.HmacContext.finish.Goals as goal

pub returns : goal.returns
returns c =
    let a = c.args.hash in
    let v = hmac_view a c.args.self in
    let n = c.digest_bytes in
    let inner = cut digest_room n.result _ (length-finished a v.inner ∙ sym n.ensures) c.finish-d.ensures in
    let outer = c.update.ensures ∙ ap (λ r. absorb (parts_of a) (hash_view a r) (take n.result c.finish-d.result)) c.behind_block.ensures in
    c.finish.ensures ∙ ap (filled digest_room) (ended (parts_of a) v inner outer refl)
