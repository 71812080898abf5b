-- `wire::prefix::clear_past` meets its contract.
use Rattle.std.proofs.Common.{arith}
use Rattle.wire.proofs.Bits.{clear-turn, clear-not, clear_none}
use Rattle.wire.proofs.prefix.clear_past.Goals as goal

pub loop-byte-init : goal.loop-byte-init
loop-byte-init c = (omega arith, clear_none _ _)

pub returns-then-not-byte_clear : goal.returns-then-not-byte_clear
returns-then-not-byte_clear c =
    let l = c.loop-byte in
    clear-not _ _ l.byte-index c.loop-byte-test.true
    (clear-turn _ _ l.byte-index l.left _ _ _ (c.type_inv.a l.byte-index).fits l.invariant.0 c.min-n.ensures c.byte_clear.ensures c.if-not-byte_clear.true l.invariant.1)

pub loop-byte-preserved : goal.loop-byte-preserved
loop-byte-preserved c =
    let l = c.loop-byte in (
      omega (arith, c.min-n.ensures, l.invariant.0),
      clear-turn _ _ l.byte-index l.left _ _ _ (c.type_inv.a l.byte-index).fits l.invariant.0 c.min-n.ensures c.byte_clear.ensures c.if-not-byte_clear.false l.invariant.1,
    )
