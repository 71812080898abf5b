use Rattle.std.proofs.Common.{◌≡◌, length, ap, ◌∙◌, rules}
use Rattle.mac.specs.Hmac.{filled}
use Rattle.mac.specs.BlocksLaws.{padded, ended}
use Rattle.mac.specs.HashContexts.{parts_of, digest_room, hash_view}
use Rattle.mac.proofs.hash.HashContext.finish.Goals as goal

pub returns : goal.returns
returns c =
    let self = c.args.self in
    let a = c.args.hash in
    let b = c.suffix-bits.result in
    let lb : length b ≡ 8 = search rules in
    let pad = padded (parts_of a) self.count b c.copy_at.new.dst lb c.suffix-bits.ensures c.copy_at.ensures in
    c.digest.ensures
    ∙ ap (filled digest_room) (ended (parts_of a) (hash_view a self) (hash_view a c.update-last.result) _ pad c.update-last.ensures)
