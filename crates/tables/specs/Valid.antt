-- Valid tables: document 01, "How much a contract must say" ("A table is valid if it gives none of 10 to 17"); document 02, Ticket 9: "the
-- MD5 table given beside the key table is not refused (10 to 17, 45)"; Ticket 8: "neither a clashing table nor one refused with 44".
-- Statements; ValidLaws proves them, ApartLaws those by socket pairs.
use Rattle.std.specs.Prelude.{ℕ, ◌<◌, ◌≤◌, true, false, ◌≡◌, List, ◌⊎◌, length}
use Rattle.octets.specs.Each.{Each, Octets}
use Rattle.keys.specs.Clash.{Formed, IsPair, NoConflict}
use Rattle.keys.specs.Match.{matches, overlap, clash}
use Rattle.keys.specs.Places.{At}
use Rattle.keys.specs.declared.entry.Entry.{Entry}
use Rattle.keys.specs.declared.entry.Pair.{Pair}
use Rattle.keys.specs.declared.table.TableKind.TheVariants.{Keys, Md5}
pub use Rattle.prepared.specs.Form.{Digest16}
use Rattle.tables.specs.Tables.{Tables, prepared_tables, tables_of, max_entries, no_index}
use Rattle.std.specs.Prelude.{Ok}
use Rattle.tables.specs.Tables.{refused_with}

-- no two entries at different places clash
abbrev pub NoClash : List Entry → Type 0
NoClash l = (i j : ℕ) (e f : Entry) → At l i e → At l j f → i < j → clash e f ≡ false

-- entries that valid bytes could hold: none of 13 to 16 applies to any
pub record Held (t : Tables) : Type 0 where
  pub proper : Each (Formed Keys) t.keys
  pub md5-proper : Each (Formed Md5) t.md5s
  pub md5-digest : Each Digest16 t.md5s

-- neither 17 nor 45 applies
pub record Apart (t : Tables) : Type 0 where
  pub keys : NoClash t.keys
  pub md5s : NoClash t.md5s
  pub uncrossed : (i j : ℕ) (e f : Entry) → At t.keys i e → At t.md5s j f → overlap e.selector f.selector ≡ false

-- in document 02's words (Ticket 9), no socket pair exists that both tables match
abbrev pub NoneCrossed : Tables → Type 0
NoneCrossed t = (i j : ℕ) (e f : Entry) (p : Pair) → At t.keys i e → At t.md5s j f → IsPair p
    → matches e.selector p ≡ true → matches f.selector p ≡ true → ⊥

-- `Apart` is put by the loader's tests. Of a prepared table it asks no more than the papers' words do: one of which no two entries match a
-- socket pair while they share SendID or share RecvID, and no pair is matched by a key entry and an MD5 entry, is apart
abbrev pub ApartByPairs : Type 0
ApartByPairs = (b m : List ℕ) → Octets b → NoConflict (prepared_tables b m).keys → NoConflict (prepared_tables b m).md5s
    → NoneCrossed (prepared_tables b m) → Apart (prepared_tables b m)

-- and no less, of any tables
abbrev pub ApartPairs : Type 0
ApartPairs = (t : Tables) → Apart t → NoConflict t.keys × NoConflict t.md5s × NoneCrossed t

pub record ValidTables (t : Tables) : Type 0 where
  pub taken : (n : ℕ) × (t.answer ≡ Ok n)
  pub held : Held t
  pub apart : Apart t

-- of bytes the answer decides it: tables that are refused with none of 10 to 17 and 45 are valid
abbrev pub ValidBytes : Type 0
ValidBytes = (k m : List ℕ) (n : ℕ) → (tables_of 0 k m).answer ≡ Ok n → ValidTables (tables_of 0 k m)

-- of a prepared table, and so of either form, it decides all but the clash and 45, which are not tested again
abbrev pub TakenHeld : Type 0
TakenHeld = (form : ℕ) (k m : List ℕ) (n : ℕ) → (tables_of form k m).answer ≡ Ok n → Held (tables_of form k m)

abbrev pub ValidApart : Type 0
ValidApart = (form : ℕ) (k m : List ℕ) (n : ℕ) → (tables_of form k m).answer ≡ Ok n → Apart (tables_of form k m)
    → ValidTables (tables_of form k m)

-- the number that is given is that of the key entries
abbrev pub ValidCount : Type 0
ValidCount = (form : ℕ) (k m : List ℕ) (n : ℕ) → (tables_of form k m).answer ≡ Ok n
    → (n ≡ length (tables_of form k m).keys) × (n ≤ max_entries) × (length (tables_of form k m).md5s ≤ max_entries)

-- in every form but 0 a prepared table is taken, with at most so many key entries, or refused with 44, and then no entry is named
abbrev pub PreparedAnswer : Type 0
PreparedAnswer = (form : ℕ) (b m : List ℕ) → (form ≡ 0 → ⊥)
    → ((tables_of form b m).answer ≡ refused_with 44 no_index) ⊎ ((n : ℕ) × ((tables_of form b m).answer ≡ Ok n) × (n ≤ max_entries))
