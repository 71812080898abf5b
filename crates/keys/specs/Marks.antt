-- What the loader's marks say: which SendIDs and RecvIDs the entries passed have.
use Rattle.std.specs.Prelude.{true, false, ◌≡◌, get_or}
use Rattle.keys.specs.declared.entry.Entry.{Entry}
use Rattle.keys.specs.declared.table.Marks.{Marks}

-- both IDs of an entry are marked
abbrev pub Marked : Marks → Entry → Type 0
Marked m e = (get_or m.sends e.ids.send false ≡ true) × (get_or m.recvs e.ids.recv false ≡ true)
