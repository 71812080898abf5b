use Rattle.std.proofs.Common.{refl, ap, ◌∙◌, arith}
use Rattle.mac.specs.Blocks.{hash}
use Rattle.mac.specs.Hmac.{filled}
use Rattle.mac.specs.HmacLaws.{short-key, long-key}
use Rattle.mac.specs.HashContexts.{parts_of}
use Rattle.mac.specs.HashLaws.{in-room, length-hash, filled_on}
use Rattle.mac.proofs.hmac.key_block.Goals as goal

pub returns-then-key-le64 : goal.returns-then-key-le64
unfolding filled
returns-then-key-le64 c = short-key (hash (parts_of c.args.hash)) 64 _ c.if-key-le64.true c.padded.ensures

pub returns : goal.returns
unfolding filled
returns c =
    let a = c.args.hash in
    let k = c.args.key.now in
    let on = filled_on 32 64 (hash (parts_of a) k) (omega (arith, length-hash a k, in-room a)) (omega arith) in
    long-key (hash (parts_of a)) 64 k c.if-key-le64.false refl (c.padded-2.ensures ∙ ap (filled 64) c.hash.ensures ∙ on)
