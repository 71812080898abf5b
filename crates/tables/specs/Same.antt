-- Prepared tables, as statements: document 02, Ticket 8. SameLaws proves them. Of bytes it is assumed that they are below 256 (`Octets`),
-- as every byte is.
use Rattle.std.specs.Prelude.{ℕ, ◌+◌, ◌*◌, ◌≤◌, ◌<◌, ◌≡◌, List, [], ◌⊎◌, length, take, drop}
use Rattle.octets.specs.Each.{Octets}
use Rattle.octets.specs.Octets.{get16}
use Rattle.keys.specs.Entry.{entries}
use Rattle.tables.specs.Tables.{no_index, admitted, tables_of}
use Rattle.tables.specs.Preparing.{prepared_of, prepare_answer, prepare_output}
use Rattle.tables.specs.declared.Index.{Index}
use Rattle.std.specs.Prelude.{Ok}
use Rattle.tables.specs.Tables.{refused_with}

-- "a call with it gives what the bytes would give": a prepared table means what the bytes mean that it was prepared from, and what a call
-- gives is a function of that
abbrev pub PreparedSame : Type 0
PreparedSame = (form : ℕ) (k m : List ℕ) (n : ℕ) → (form ≡ 0 → ⊥) → Octets k → Octets m → admitted k m ≡ Ok n
    → tables_of form (prepared_of k m) [] ≡ tables_of 0 k m

-- the same of the very bytes that preparing wrote
abbrev pub WrittenSame : Type 0
WrittenSame = (form : ℕ) (k m out : List ℕ) (size : ℕ) → (form ≡ 0 → ⊥) → Octets k → Octets m → prepare_answer k m (length out) ≡ Ok size
    → tables_of form (take size (prepare_output k m out)) [] ≡ tables_of 0 k m

-- What preparing answers and writes.

-- the length, with the numerals
abbrev pub size_of : List ℕ → List ℕ → ℕ
size_of k m = 4 + 129 * (length (entries k) + length (entries m))

-- "built once from valid bytes": where it is done, the prepared table stands at the output's front, and nothing else is written
abbrev pub PrepareWrites : Type 0
PrepareWrites = (k m out : List ℕ) (n : ℕ) → prepare_answer k m (length out) ≡ Ok n
    → (n ≡ size_of k m) × (take n (prepare_output k m out) ≡ prepared_of k m) × (drop n (prepare_output k m out) ≡ drop n out)
    × (length (prepare_output k m out) ≡ length out)

-- the tables' refusal comes first; then 37, exactly where the output is shorter
abbrev pub PrepareRefuses : Type 0
PrepareRefuses = (k m : List ℕ) (room n : ℕ) (i : Index) → admitted k m ≡ refused_with n i → prepare_answer k m room ≡ refused_with n i

abbrev pub PrepareShort : Type 0
PrepareShort = (k m : List ℕ) (room n : ℕ) → admitted k m ≡ Ok n → room < size_of k m → prepare_answer k m room ≡ refused_with 37 no_index

abbrev pub PrepareDone : Type 0
PrepareDone = (k m : List ℕ) (room n : ℕ) → admitted k m ≡ Ok n → size_of k m ≤ room → prepare_answer k m room ≡ Ok (size_of k m)

-- Which form is which: 0 the tables' own bytes, any other value a prepared table.

-- of form 0 the answer is that of Crossing.antt and Limit.antt, and the entries are those of the two buffers
abbrev pub BytesAnswer : Type 0
BytesAnswer = (k m : List ℕ)
    → ((tables_of 0 k m).answer ≡ admitted k m) × ((tables_of 0 k m).keys ≡ entries k) × ((tables_of 0 k m).md5s ≡ entries m)

-- all other values are one form
abbrev pub OtherForms : Type 0
OtherForms = (form other : ℕ) (b m : List ℕ) → (form ≡ 0 → ⊥) → (other ≡ 0 → ⊥) → tables_of form b m ≡ tables_of other b m

-- 44, with the numerals, of any bytes: a count is above 1,024, the length is not that of the counts, or a second buffer is not empty
abbrev pub Unfit : List ℕ → List ℕ → Type 0
Unfit b m =
    (1024 < get16 b 0) ⊎ ((1024 < get16 b 2) ⊎ (((length b ≡ 4 + 129 * (get16 b 0 + get16 b 2)) → ⊥) ⊎ (0 < length m)))

-- in every form but 0 it is given there, without an index, and nowhere else
abbrev pub RefusedUnfit : Type 0
RefusedUnfit = (form : ℕ) (b m : List ℕ) → (form ≡ 0 → ⊥) → (tables_of form b m).answer ≡ refused_with 44 no_index → Unfit b m

abbrev pub UnfitRefused : Type 0
UnfitRefused = (form : ℕ) (b m : List ℕ) → (form ≡ 0 → ⊥) → Unfit b m → (tables_of form b m).answer ≡ refused_with 44 no_index

-- the tables' own bytes are never given 44
abbrev pub BytesNot44 : Type 0
BytesNot44 = (k m : List ℕ) (i : Index) → (tables_of 0 k m).answer ≡ refused_with 44 i → ⊥
