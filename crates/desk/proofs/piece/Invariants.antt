-- Each call takes at least one byte.
use Rattle.std.proofs.Common.{◌≡◌, length}
use Rattle.desk.proofs.piece.Given as goal

abbrev pub invariant-loop-rest : goal.invariant-loop-rest
invariant-loop-rest g l = length l.table ≡ length l.initial.table

abbrev pub decreases-loop-rest : goal.decreases-loop-rest
decreases-loop-rest g l = length l.rest
