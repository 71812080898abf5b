use Rattle.std.proofs.Common.{ℕ, ◌&&◌, eqb, get_or}
use Rattle.prepared.specs.Scan.{possible}
use Rattle.prepared.proofs.MarkLaws.{NoneBefore}
use Rattle.prepared.proofs.stored.some_named_can_match.Given as goal

abbrev pub invariant-loop-i : goal.invariant-loop-i
invariant-loop-i l = NoneBefore (λ (j : ℕ). eqb (get_or l.ids j 0) l.id && possible l.w.limit l.w.mark (get_or l.bits j 0) (get_or l.marks j 0)) l.some l.i
