-- What preparing answers and writes: document 02, Ticket 8, "a prepared table that is built once from valid bytes".
use Rattle.std.specs.Prelude.{ℕ, ◌+◌, cond, List, ◌++◌, length, drop, leb, Ok, Err}
use Rattle.keys.specs.Entry.{entries}
use Rattle.prepared.specs.Prepared.{prepared_bytes, image}
use Rattle.tables.specs.Tables.{Admitted, refused_with, no_index, admitted}

-- the prepared table of two tables' bytes, and its length
abbrev pub prepared_of : List ℕ → List ℕ → List ℕ
prepared_of k m = image (entries k) (entries m)

abbrev pub prepared_length : List ℕ → List ℕ → ℕ
prepared_length k m = prepared_bytes (length (entries k) + length (entries m))

-- the tables' refusal; then 37 if the output has less room than the prepared table's size; else the size
abbrev pub with_room_of : Admitted → ℕ → ℕ → Admitted
with_room_of (Ok n) size room = cond (leb size room) (Ok size) (refused_with 37 no_index)
with_room_of (Err r) size room = Err r

unfoldable pub prepare_answer : List ℕ → List ℕ → ℕ → Admitted
prepare_answer k m room = with_room_of (admitted k m) (prepared_length k m) room

abbrev pub written : Admitted → List ℕ → List ℕ → List ℕ
written (Ok n) s out = s ++ drop (length s) out
written (Err r) s out = out

-- the output after the call: only the prepared table's own bytes are written, and a refusal writes none
unfoldable pub prepare_output : List ℕ → List ℕ → List ℕ → List ℕ
prepare_output k m out = written (prepare_answer k m (length out)) (prepared_of k m) out
