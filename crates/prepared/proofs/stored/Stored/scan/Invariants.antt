-- No entry passed is a candidate.
use Rattle.prepared.specs.Scan.{candidate_of}
use Rattle.prepared.proofs.ScanSteps.{Passed}
use Rattle.prepared.proofs.stored.Stored.scan.Given as goal

abbrev pub invariant-loop-i : goal.invariant-loop-i
invariant-loop-i l = Passed (candidate_of l.by l.self.bytes.now l.self.n l.w) l.from l.end l.i
