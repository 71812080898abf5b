-- `wire::prefix::agrees` meets its contract: what is known of the bytes passed, and what the byte at hand adds.
use Rattle.std.proofs.Common.{◌-◌, ◌/◌, ◌∙◌, arith}
use lib.Bits.{and_mask}
use Rattle.wire.proofs.Bits.{front_is, agree-front, agree-more, agree-not, agree-unlike, agree-last}
use Rattle.wire.proofs.prefix.agrees.Goals as goal

pub returns-then-byte_at : goal.returns-then-byte_at
returns-then-byte_at c =
    agree-unlike _ _ (c.args.bits / 8 - 1) c.args.bits _ _ (omega arith) (omega arith) c.byte_at.ensures c.byte_at-then-whole-gt0.ensures
    c.if-byte_at.true (omega arith)

pub returns-then-not-same_throughout : goal.returns-then-not-same_throughout
returns-then-not-same_throughout c =
    agree-front _ _ c.min-both.result _
    (front_is _ _ _ _ _ _ _ (λ i. (c.type_inv.a i).fits) (λ i. (c.type_inv.b i).fits) c.min.ensures c.min-both.ensures c.same_throughout.ensures c.if-not-same_throughout.true)
    (omega arith)

pub loop-i-init : goal.loop-i-init
loop-i-init c =
    front_is _ _ _ _ _ _ _ (λ i. (c.type_inv.a i).fits) (λ i. (c.type_inv.b i).fits) c.min.ensures c.min-both.ensures c.same_throughout.ensures c.if-not-same_throughout.false

pub returns-then-byte_at-2 : goal.returns-then-byte_at-2
returns-then-byte_at-2 c = agree-not _ _ c.loop-i.i c.args.bits _ _ (omega arith) (omega arith) c.byte_at-in-loop-i.ensures c.byte_at-in-loop-i-2.ensures c.loop-i.invariant c.if-byte_at-2.true (omega arith)

pub loop-i-preserved : goal.loop-i-preserved
loop-i-preserved c = agree-more _ _ c.loop-i.i _ _ (omega arith) (omega arith) c.byte_at-in-loop-i.ensures c.byte_at-in-loop-i-2.ensures c.loop-i.invariant c.if-byte_at-2.false

pub returns : goal.returns
returns c =
    let p = c.args.bits in
    c.byte_agrees.ensures
    ∙ agree-last _ _ c.loop-i.i (p / 8) p _ _ _ (omega arith) (omega arith) c.byte_at-2.ensures c.byte_at-3.ensures (omega arith)
    (omega (arith, and_mask p 3)) (omega (arith, and_mask p 3)) c.loop-i.invariant
