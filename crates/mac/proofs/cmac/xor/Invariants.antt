use Rattle.mac.specs.Aes.{add_at_lem}
use Rattle.mac.proofs.BlockBytes.{Written}
use Rattle.mac.proofs.cmac.xor.Given as goal

abbrev pub invariant-loop-i : goal.invariant-loop-i
invariant-loop-i l = Written (add_at_lem l.x l.y) l.r l.i
