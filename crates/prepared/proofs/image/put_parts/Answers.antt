-- `Putting` says what the loop has put; the laws of LayLaws.antt are its turns.
use Rattle.std.proofs.Common.{◌∙◌, ◌∷◌, sym, ap}
use Rattle.keys.specs.declared.entry.Entry.{Entry}
use Rattle.prepared.specs.Parts.{part_bytes_of, part_of}
use Rattle.prepared.proofs.LayLaws.{putting-start, putting-next}
use Rattle.prepared.proofs.image.put_parts.Goals as goal

pub loop-entry-init : goal.loop-entry-init
loop-entry-init c =
    (tt, tt, putting-start (part_of c.args.part) (part_bytes_of c.args.part) c.args.table.now c.args.out.now c.args.at _ (c.into_iter-entry-iterator.ensures.into_iter_gives ∙ c.of-entry-items.ensures.all))

pub loop-entry-preserved : goal.loop-entry-preserved
loop-entry-preserved c = (
  tt,
  tt,
  putting-next c.loop-entry.invariant.2 c.entry.result c.next.new.self
      (c.in-Some.ensures.steps ∙ ap (λ (e : Entry). e ∷ c.next.new.self) (sym c.entry.ensures))
      c.requires _ _ c.part_bytes-size.ensures c.put_part.auto.out c.put_part.ensures,
)
