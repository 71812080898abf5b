use Rattle.std.proofs.Common.{length}
use Rattle.keys.proofs.Walk.{Walking}
use Rattle.keys.proofs.table.load.Given as goal

abbrev pub invariant-loop-rest : goal.invariant-loop-rest
invariant-loop-rest l = Walking l.table l.kind l.limit l.marks l.rest l.index

abbrev pub decreases-loop-rest : goal.decreases-loop-rest
decreases-loop-rest l = length l.rest
