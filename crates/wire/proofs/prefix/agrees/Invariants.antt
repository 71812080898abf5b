-- The loop's invariant: the bits of the bytes passed agree.
use Rattle.std.proofs.Common.{◌≡◌, ◌*◌, true}
use Rattle.wire.specs.Prefix.{agree}
use Rattle.wire.proofs.prefix.agrees.Given as goal

abbrev pub invariant-loop-i : goal.invariant-loop-i
invariant-loop-i l = agree (8 * l.i) l.a l.b ≡ true
