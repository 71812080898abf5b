-- The loop's invariant: the bits of the bytes passed are clear, and `left` is what the prefix still keeps.
use Rattle.std.proofs.Common.{◌≡◌, ◌*◌, ◌-◌, true}
use Rattle.wire.specs.Prefix.{clear_to}
use Rattle.wire.proofs.prefix.clear_past.Given as goal

abbrev pub invariant-loop-byte : goal.invariant-loop-byte
invariant-loop-byte l = (l.left ≡ l.bits - 8 * l.byte-index) × (clear_to l.bits (8 * l.byte-index) l.a ≡ true)
