use Rattle.std.proofs.Common.{◌≡◌, List, ℕ, Bool, length, refl, sym, ap, ◌∙◌, rules}
use Rattle.std.proofs.lemmas.Bool.{lt-leb}
use Rattle.mac.specs.Cmac.{cmac}
use Rattle.digests.specs.Digests.{room, into, cmac_into}
use Rattle.digests.proofs.Written.{refused, given, unsized, sized, full}
use Rattle.digests.proofs.aes128_cmac.Goals as goal

pub returns-then-key-ne16 : goal.returns-then-key-ne16
unfolding cmac_into
returns-then-key-ne16 c =
    refused _ 16 (cmac c.args.key.now c.args.message.now) c.args.out.now (unsized c.args.key.now (room 16 c.args.out.now) c.if-key-ne16.true)

pub returns-then-out-lt16 : goal.returns-then-out-lt16
unfolding cmac_into
returns-then-out-lt16 c =
    let a = c.args in
    refused _ 16 (cmac a.key.now a.message.now) a.out.now
    (sized a.key.now (room 16 a.out.now) _ c.if-key-ne16.false (lt-leb _ _ c.if-out-lt16.true))

pub returns : goal.returns
unfolding cmac_into
returns c =
    let a = c.args in
    let long : length c.cmac.result ≡ 16 = search rules in
    given 16 c.cmac.result _ a.out.now long
    (c.cmac.ensures ∙ ap (λ (k : List ℕ). cmac k a.message.now) (full a.key.now c.if-key-ne16.false c.padded.ensures)) c.give.ensures
    ∙ ap (λ (b : Bool). into b 16 (cmac a.key.now a.message.now) a.out.now) (sym (sized a.key.now (room 16 a.out.now) _ c.if-key-ne16.false refl))
