use Rattle.mac.specs.Cmac.{double_at}
use Rattle.mac.proofs.BlockBytes.{Written}
use Rattle.mac.proofs.cmac.double.Given as goal

abbrev pub invariant-loop-i : goal.invariant-loop-i
invariant-loop-i l = Written (double_at l.l) l.r l.i
