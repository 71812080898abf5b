-- So many bits are left, and the first i bytes are done.
use Rattle.std.proofs.Common.{◌≡◌, ◌*◌, ◌-◌, length, take}
use Rattle.prepared.specs.Prepared.{clear}
use Rattle.prepared.proofs.clean.cleared.Given as goal

abbrev pub invariant-loop-i : goal.invariant-loop-i
invariant-loop-i l = (length l.out ≡ 16) × (l.left ≡ l.bits - 8 * l.i) × (take l.i l.out ≡ take l.i (clear l.bits l.a))
