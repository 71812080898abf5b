-- The parts of the second table stand behind those of the first.
use Rattle.keys.specs.Entry.{entries}
use Rattle.prepared.specs.Parts.{part_bytes_of, part_of}
use Rattle.prepared.proofs.LayLaws.{both-put}
use Rattle.prepared.proofs.image.put_both.Goals as goal

pub returns : goal.returns
returns c =
    let a = c.args in
    let p = c.put_parts-keys_end in
    both-put (part_of a.part) (part_bytes_of a.part) (entries a.keys.now) (entries a.md5.now) a.out.now a.at c.requires _ _ p.ensures p.auto.out _ _ c.put_parts.ensures
