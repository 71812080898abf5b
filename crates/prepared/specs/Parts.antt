-- How `image` is written: part by part, each behind the one before. No reader needs this to know what a prepared table means.
use Rattle.std.specs.Prelude.{ℕ, List, length}
use Rattle.std.proofs.Math.Seq.{paste}
use Rattle.keys.specs.declared.entry.Entry.{Entry}
use Rattle.prepared.specs.Prepared.{send_part, recv_part, bits_part, mark_part, slot, back}
use Rattle.prepared.specs.declared.image.Part.{Part}
use Rattle.prepared.specs.declared.image.Part.TheVariants.{Send, Recv, Bits, Mark, Slot, Back}

abbrev pub part_bytes_of : Part → ℕ
part_bytes_of Send = 1
part_bytes_of Recv = 1
part_bytes_of Bits = 1
part_bytes_of Mark = 1
part_bytes_of Slot = 24
part_bytes_of Back = 101

abbrev pub part_of : Part → Entry → List ℕ
part_of Send e = send_part e
part_of Recv e = recv_part e
part_of Bits e = bits_part e
part_of Mark e = mark_part e
part_of Slot e = slot e
part_of Back e = back e

-- the whole of s at a place of o
abbrev pub put : List ℕ → ℕ → List ℕ → List ℕ
put o at s = paste o at s (length s)
