use Rattle.std.proofs.Common.{◌-◌}
use Rattle.prepared.specs.Scan.{candidate_of}
use Rattle.prepared.proofs.ScanSteps.{Passed}
use Rattle.prepared.proofs.stored.Stored.next.Given as goal

abbrev pub invariant-loop-i : goal.invariant-loop-i
invariant-loop-i l = Passed (candidate_of l.by l.self.bytes.now l.self.n l.w) l.from l.end l.i

abbrev pub decreases-loop-i : goal.decreases-loop-i
decreases-loop-i l = l.end - l.i
