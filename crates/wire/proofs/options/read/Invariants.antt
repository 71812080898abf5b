-- The loop's invariant: what was noted, and the reading from `at` on, make the whole reading.
use Rattle.std.proofs.Common.{length, ◌-◌}
use Rattle.wire.proofs.Reading.{Along}
use Rattle.wire.proofs.options.read.Given as goal

abbrev pub invariant-loop-at : goal.invariant-loop-at
invariant-loop-at l = Along l.area l.at l.seen.md5 l.seen.ao

abbrev pub decreases-loop-at : goal.decreases-loop-at
decreases-loop-at l = length l.area - l.at
