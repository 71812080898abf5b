-- Prepared tables, of every call, as statements: document 02, Ticket 8, "a prepared table that is built once from valid bytes; a call with
-- it gives what the bytes would give". PreparedLaws proves them. That bytes are below 256 (`Octets`) is so of every byte.
use Rattle.std.specs.Prelude.{ℕ, Bool, ◌≡◌, List, [], Ok}
use Rattle.octets.specs.Each.{Octets}
use Rattle.tables.specs.Tables.{Tables}
use Rattle.tables.specs.Preparing.{prepared_of}
use Rattle.tables.specs.Valid.{ValidTables}
use Rattle.rules.specs.declared.State.{State}
use Rattle.rules.specs.Connection.{Arrival}
use Rattle.rules.specs.Calls.{judged, judged_syn, opened_passively, opened_actively, opened_actively_md5, asked, signed, output}
use Rattle.rules.specs.Lent.{Lent, tables}

-- valid bytes, and the prepared table of them, lent alone in a form other than 0
pub record PreparedFrom (bytes prepared : Lent) : Type 0 where
  pub bytes-form : bytes.form ≡ 0
  pub keys-octets : Octets bytes.keys
  pub md5-octets : Octets bytes.md5
  pub count : ℕ
  pub valid : (tables bytes).answer ≡ Ok count
  pub prepared-form : prepared.form ≡ 0 → ⊥
  pub written : prepared.keys ≡ prepared_of bytes.keys bytes.md5
  pub alone : prepared.md5 ≡ []

-- both mean the same, so that whatever is said of the one is true of the other: demands 2 and 3 too
abbrev pub PreparedMeans : Type 0
PreparedMeans = (b c : Lent) → PreparedFrom b c → tables c ≡ tables b

-- "demands 2 and 3 .. take neither a clashing table nor one refused with 44": this is neither
abbrev pub PreparedValid : Type 0
PreparedValid = (b c : Lent) → PreparedFrom b c → ValidTables (tables c)

-- with the tables t every call gives what it gives with u: answer, number, index, state and output
pub record SameCalls (t u : Tables) : Type 0 where
  pub checks : t.answer ≡ u.answer
  pub judges : (a : Arrival) (q : State) → judged t a q ≡ judged u a q
  pub judges-syn : (a : Arrival) (strict : Bool) → judged_syn t a strict ≡ judged_syn u a strict
  pub opens-passively : (a : Arrival) (isn : ℕ) (strict : Bool) → opened_passively t a isn strict ≡ opened_passively u a isn strict
  pub opens-actively : (local remote : List ℕ) (local_port remote_port isn send_id : ℕ)
      → opened_actively t local remote local_port remote_port isn send_id
      ≡ opened_actively u local remote local_port remote_port isn send_id
  pub opens-actively-md5 : (local remote : List ℕ) (local_port remote_port isn : ℕ)
      → opened_actively_md5 t local remote local_port remote_port isn ≡ opened_actively_md5 u local remote local_port remote_port isn
  pub asks : (id : ℕ) (q : State) → asked t id q ≡ asked u id q
  pub signs : (s out : List ℕ) (q : State) → (signed t s out q ≡ signed u s out q) × (output t s out q ≡ output u s out q)

-- "a call with it gives what the bytes would give"
abbrev pub PreparedCalls : Type 0
PreparedCalls = (b c : Lent) → PreparedFrom b c → SameCalls (tables c) (tables b)
