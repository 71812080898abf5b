-- From the last digit to the first. What is left to write, and what is written, is the number.
use Rattle.recording.proofs.Spelling.{Written}
use Rattle.recording.proofs.line.decimal.Given as goal

abbrev pub invariant-loop-i : goal.invariant-loop-i
invariant-loop-i l = Written l.n l.bytes l.i l.rest

abbrev pub decreases-loop-i : goal.decreases-loop-i
decreases-loop-i l = l.i
