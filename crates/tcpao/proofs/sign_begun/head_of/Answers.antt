-- The header's bytes one by one: the law of SignedLaws.
use Rattle.std.proofs.Common.{◌≡◌, [], ◌∷◌, refl, sym, ◌∙◌, arith}
use Rattle.tcpao.specs.SignedBytes.{fixed_bytes, head_bytes}
use Rattle.tcpao.proofs.SignedLaws.{reads, reads-is}
use Rattle.tcpao.proofs.sign_begun.head_of.Goals as goal

pub returns : goal.returns
unfolding head_bytes fixed_bytes
returns c =
    let h = c.args.header.now in
    let front : c.copy_from_slice.new.self ≡ reads 20 0 h = c.copy_from_slice.ensures.after ∙ sym (reads-is 20 0 h (omega (arith, c.requires.0))) in
    let zeros : c.fill.new.self ≡ 0 ∷ 0 ∷ [] = rw front at (c.fill.ensures.after (λ y e. e)) in
    rw (front, zeros, c.copy_from_slice-2.ensures.after) refl
