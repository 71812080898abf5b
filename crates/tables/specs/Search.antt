-- What a search finds, as statements. Of valid tables: at most one entry answers a pair and an ID, and where one does, the search gives it;
-- at most one MD5 entry matches a pair, and none where a key entry does. Of any tables: the first such entry, nothing but such an entry,
-- and nothing exactly where there is none. SearchLaws proves them.
use Rattle.std.specs.Prelude.{ℕ, ◌<◌, true, false, ◌≡◌, List}
use Rattle.keys.specs.Match.{matches}
use Rattle.keys.specs.Places.{At}
use Rattle.keys.specs.Table.{answers}
pub use Rattle.keys.specs.Table.{hit}
use Rattle.keys.specs.declared.entry.Entry.{Entry}
use Rattle.keys.specs.declared.entry.Pair.{Pair}
use Rattle.keys.specs.declared.table.By.{By}
use Rattle.keys.specs.declared.table.By.TheVariants.{Any, Send, Recv}
use Rattle.keys.specs.Table.{Found}
use Rattle.tables.specs.Tables.{Tables, send_entry, recv_entry, any_entry, md5_entry}
use Rattle.tables.specs.Valid.{ValidTables}

-- a search that names an ID
abbrev pub Named : By → Type 0
Named Any = ⊥
Named (Send id) = Unit {0}
Named (Recv id) = Unit {0}

-- in valid tables at most one key entry answers a pair and a SendID, and at most one a pair and a RecvID
abbrev pub AnswerUnique : Type 0
AnswerUnique = (t : Tables) (by : By) (p : Pair) (i j : ℕ) (e f : Entry) → ValidTables t → Named by → At t.keys i e → At t.keys j f
    → answers by p e ≡ true → answers by p f ≡ true → i ≡ j

-- so a search of valid tables finds the entry that answers
abbrev pub SendFound : Type 0
SendFound = (t : Tables) (p : Pair) (id i : ℕ) (e : Entry) → ValidTables t → At t.keys i e → matches e.selector p ≡ true
    → e.ids.send ≡ id → send_entry t p id ≡ hit i e

abbrev pub RecvFound : Type 0
RecvFound = (t : Tables) (p : Pair) (id i : ℕ) (e : Entry) → ValidTables t → At t.keys i e → matches e.selector p ≡ true
    → e.ids.recv ≡ id → recv_entry t p id ≡ hit i e

abbrev pub Md5Found : Type 0
Md5Found = (t : Tables) (p : Pair) (i : ℕ) (e : Entry) → ValidTables t → At t.md5s i e → matches e.selector p ≡ true
    → md5_entry t p ≡ hit i e

-- document 02, Ticket 8: "a search by pair and ID takes the first such entry", of any tables, whether entries clash or not
abbrev pub SendFirst : Type 0
SendFirst = (t : Tables) (p : Pair) (id i : ℕ) (e : Entry) → At t.keys i e → matches e.selector p ≡ true → e.ids.send ≡ id
    → ((j : ℕ) (f : Entry) → At t.keys j f → j < i → matches f.selector p ≡ true → f.ids.send ≡ id → ⊥)
    → send_entry t p id ≡ hit i e

abbrev pub RecvFirst : Type 0
RecvFirst = (t : Tables) (p : Pair) (id i : ℕ) (e : Entry) → At t.keys i e → matches e.selector p ≡ true → e.ids.recv ≡ id
    → ((j : ℕ) (f : Entry) → At t.keys j f → j < i → matches f.selector p ≡ true → f.ids.recv ≡ id → ⊥)
    → recv_entry t p id ≡ hit i e

abbrev pub Md5First : Type 0
Md5First = (t : Tables) (p : Pair) (i : ℕ) (e : Entry) → At t.md5s i e → matches e.selector p ≡ true
    → ((j : ℕ) (f : Entry) → At t.md5s j f → j < i → matches f.selector p ≡ true → ⊥)
    → md5_entry t p ≡ hit i e

-- What is found is such an entry: it stands in the table at the place that the index names, matches the pair, and has the ID. So nothing
-- is found where there is none.
pub record Holder (l : List Entry) (p : Pair) (r : Found) : Type 0 where
  pub place : At l r.index r.entry
  pub matched : matches r.entry.selector p ≡ true

abbrev pub SendHolder : Type 0
SendHolder = (t : Tables) (p : Pair) (id : ℕ) → (send_entry t p id).there ≡ true
    → Holder t.keys p (send_entry t p id) × ((send_entry t p id).entry.ids.send ≡ id)

abbrev pub RecvHolder : Type 0
RecvHolder = (t : Tables) (p : Pair) (id : ℕ) → (recv_entry t p id).there ≡ true
    → Holder t.keys p (recv_entry t p id) × ((recv_entry t p id).entry.ids.recv ≡ id)

abbrev pub Md5Holder : Type 0
Md5Holder = (t : Tables) (p : Pair) → (md5_entry t p).there ≡ true → Holder t.md5s p (md5_entry t p)

-- and where nothing is found there is none
abbrev pub SendNone : Type 0
SendNone = (t : Tables) (p : Pair) (id i : ℕ) (e : Entry) → (send_entry t p id).there ≡ false → At t.keys i e
    → matches e.selector p ≡ true → e.ids.send ≡ id → ⊥

abbrev pub RecvNone : Type 0
RecvNone = (t : Tables) (p : Pair) (id i : ℕ) (e : Entry) → (recv_entry t p id).there ≡ false → At t.keys i e
    → matches e.selector p ≡ true → e.ids.recv ≡ id → ⊥

abbrev pub Md5None : Type 0
Md5None = (t : Tables) (p : Pair) (i : ℕ) (e : Entry) → (md5_entry t p).there ≡ false → At t.md5s i e
    → matches e.selector p ≡ true → ⊥

-- "if any entry matches the pair": exactly where a key entry does
abbrev pub AnyHolder : Type 0
AnyHolder = (t : Tables) (p : Pair) → any_entry t p ≡ true → (i : ℕ) × (e : Entry) × At t.keys i e × (matches e.selector p ≡ true)

abbrev pub AnyOf : Type 0
AnyOf = (t : Tables) (p : Pair) (i : ℕ) (e : Entry) → At t.keys i e → matches e.selector p ≡ true → any_entry t p ≡ true

-- a pair that a key entry matches, no MD5 entry does
abbrev pub Uncrossed : Type 0
Uncrossed = (t : Tables) (p : Pair) (i : ℕ) (e : Entry) → ValidTables t → At t.keys i e → matches e.selector p ≡ true
    → (md5_entry t p).there ≡ false
