-- No entry passed is a hit.
use Rattle.std.proofs.Common.{◌≡◌, ◌-◌}
use Rattle.prepared.specs.Scan.{wanted_of, hit}
use Rattle.prepared.proofs.ScanSteps.{Passed}
use Rattle.prepared.proofs.stored.Stored.search.Given as goal

abbrev pub invariant-loop-i : goal.invariant-loop-i
invariant-loop-i l = (l.wanted ≡ wanted_of l.pair) × Passed (hit l.by l.pair l.self.bytes.now l.self.n) l.first l.end l.from

abbrev pub decreases-loop-i : goal.decreases-loop-i
decreases-loop-i l = l.end - l.from
