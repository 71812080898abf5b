use Rattle.prepared.specs.Parts.{part_bytes_of, part_of}
use Rattle.prepared.proofs.LayLaws.{Putting}
use Rattle.prepared.proofs.image.put_parts.Given as goal

abbrev pub invariant-loop-entry : goal.invariant-loop-entry
invariant-loop-entry l =
    (goal.iterator-loop-entry).can_next l.entry-iterator × (goal.iterator-loop-entry).is_finite l.entry-iterator
    × Putting (part_of l.part) (part_bytes_of l.part) l.table l.initial.out l.at l.to l.entry-iterator l.out
