use Rattle.std.proofs.Common.{◌≡◌, Bool, ◌&&◌, length, refl, sym, ap, ◌∙◌, rules}
use Rattle.std.proofs.lemmas.Bool.{lt-leb}
use Rattle.mac.specs.Aes.{key_expansion, cipher}
use Rattle.digests.specs.Digests.{sixteen, room, into, aes128_into}
use Rattle.digests.proofs.Written.{refused, given, unsized, sized, full}
use Rattle.digests.proofs.aes128.Goals as goal

pub returns-then-key-ne16 : goal.returns-then-key-ne16
unfolding aes128_into
returns-then-key-ne16 c =
    let a = c.args in
    refused _ 16 (cipher (key_expansion a.key.now) a.block.now) a.out.now
    (unsized a.key.now (sixteen a.block.now && room 16 a.out.now) c.if-key-ne16.true)

pub returns-then-block-ne16 : goal.returns-then-block-ne16
unfolding aes128_into
returns-then-block-ne16 c =
    let a = c.args in
    refused _ 16 (cipher (key_expansion a.key.now) a.block.now) a.out.now
    (sized a.key.now (sixteen a.block.now && room 16 a.out.now) _ c.if-key-ne16.false
    (unsized a.block.now (room 16 a.out.now) c.if-block-ne16.true))

pub returns-then-out-lt16 : goal.returns-then-out-lt16
unfolding aes128_into
returns-then-out-lt16 c =
    let a = c.args in
    refused _ 16 (cipher (key_expansion a.key.now) a.block.now) a.out.now
    (sized a.key.now (sixteen a.block.now && room 16 a.out.now) _ c.if-key-ne16.false
    (sized a.block.now (room 16 a.out.now) _ c.if-block-ne16.false (lt-leb _ _ c.if-out-lt16.true)))

pub returns : goal.returns
unfolding aes128_into
returns c =
    let a = c.args in
    let long : length c.encrypt.result ≡ 16 = search rules in
    let k = full a.key.now c.if-key-ne16.false c.padded.ensures in
    let b = full a.block.now c.if-block-ne16.false c.padded-2.ensures in
    given 16 c.encrypt.result _ a.out.now long
    (c.encrypt.ensures ∙ (λ i. cipher ((c.expand_key-keys.ensures ∙ ap key_expansion k) i) (b i))) c.give.ensures
    ∙ ap (λ (t : Bool). into t 16 (cipher (key_expansion a.key.now) a.block.now) a.out.now)
    (sym (sized a.key.now (sixteen a.block.now && room 16 a.out.now) _ c.if-key-ne16.false
    (sized a.block.now (room 16 a.out.now) _ c.if-block-ne16.false refl)))
