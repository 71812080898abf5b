-- 17 exactly, as statements: document 01, "Key table (house bytes)" ("a table otherwise well formed is refused with 17 exactly if ..") and
-- "Numbers given back" ("ID clash, at the later entry"); RFC 5925, section 3.1. LoadLaws proves them.
use Rattle.std.specs.Prelude.{ℕ, suc, ◌≤◌, ◌<◌, true, false, ◌≡◌, List, [], ◌∷◌, ◌++◌, ◌⊎◌, length, take}
use Rattle.octets.specs.Each.{Each, Octets}
use Rattle.octets.specs.Tests.{Test}
use Rattle.keys.specs.Entry.{Item, items, entries}
use Rattle.keys.specs.Match.{matches}
use Rattle.keys.specs.Places.{At}
use Rattle.keys.specs.Table.{kind_listed_of, entry_tests, loaded}
use Rattle.keys.specs.declared.entry.Entry.{Entry}
use Rattle.keys.specs.declared.entry.Pair.{Pair}
use Rattle.keys.specs.declared.table.TableKind.{TableKind}
use Rattle.keys.specs.declared.table.TableKind.TheVariants.{Md5}
use Rattle.keys.specs.Table.{fault}

abbrev pub Family : ℕ → Type 0
Family f = (f ≡ 4) ⊎ (f ≡ 6)

-- a socket pair: its family is IPv4 or IPv6, ports are below 65,536, and an address is the first four or all sixteen bytes of its field
pub record IsPair (p : Pair) : Type 0 where
  pub family : Family p.family
  pub local-port : p.local_port < 65536
  pub remote-port : p.remote_port < 65536
  pub local-length : length p.local ≡ 16
  pub remote-length : length p.remote ≡ 16
  pub local-octets : Octets p.local
  pub remote-octets : Octets p.remote

-- "a socket pair exists that two entries both match while they share SendID or share RecvID"
pub record Conflict (e f : Entry) : Type 0 where
  pub pair : Pair
  pub is-pair : IsPair pair
  pub first : matches e.selector pair ≡ true
  pub second : matches f.selector pair ≡ true
  pub shared : (e.ids.send ≡ f.ids.send) ⊎ (e.ids.recv ≡ f.ids.recv)

-- there are two such entries in the list; there are none
pub record Conflicting (l : List Entry) : Type 0 where
  pub earlier : ℕ
  pub later : ℕ
  pub one : Entry
  pub two : Entry
  pub at-earlier : At l earlier one
  pub at-later : At l later two
  pub order : earlier < later
  pub conflict : Conflict one two

abbrev pub NoConflict : List Entry → Type 0
NoConflict l = (j k : ℕ) (e f : Entry) → At l j e → At l k f → j < k → Conflict e f → ⊥

-- no test of the table of numbers applies
abbrev pub Passed : List (Test ℕ) → Type 0
Passed [] = Unit {0}
Passed (x ∷ l) = (x.applies ≡ false) × Passed l

-- an entry that by itself is given none of 13 to 16 in a table of the kind
abbrev pub Formed : TableKind → Entry → Type 0
Formed kind e = Passed (entry_tests kind e)

-- of an entry kind that the table has
abbrev pub Listed : TableKind → Item → Type 0
Listed kind x = kind_listed_of kind x ≡ true

-- every entry is whole and of a kind that the table has
abbrev pub Sound : TableKind → List Item → Type 0
Sound kind [] = Unit {0}
Sound kind (x ∷ l) = Listed kind x × (x.whole ≡ true) × Sound kind l

-- "a table otherwise well formed": none of 10 to 16 applies to any entry
pub record WellFormed (kind : TableKind) (limit : ℕ) (t : List ℕ) : Type 0 where
  pub sound : Sound kind (items 0 t)
  pub few : length (entries t) ≤ limit
  pub formed : Each (Formed kind) (entries t)

-- 17 at the entry i: it and those before it are well formed, none of those before it are in conflict, and one of them is in conflict with
-- it
pub record ClashAt (kind : TableKind) (limit : ℕ) (t : List ℕ) (i : ℕ) : Type 0 where
  pub before : List Entry
  pub entry : Entry
  pub after : List Entry
  pub split : entries t ≡ before ++ (entry ∷ after)
  pub index : length before ≡ i
  pub few : i < limit
  pub listed : Each (Listed kind) (take (suc i) (items 0 t))
  pub formed : Each (Formed kind) before
  pub itself : Formed kind entry
  pub apart : NoConflict before
  pub place : ℕ
  pub other : Entry
  pub at_place : At before place other
  pub conflict : Conflict other entry

-- "ID clash, at the later entry", exactly
abbrev pub RefusedClash : Type 0
RefusedClash = (kind : TableKind) (limit i : ℕ) (t : List ℕ) → Octets t → loaded kind limit t ≡ fault 17 i → ClashAt kind limit t i

abbrev pub ClashRefused : Type 0
ClashRefused = (kind : TableKind) (limit i : ℕ) (t : List ℕ) → Octets t → ClashAt kind limit t i → loaded kind limit t ≡ fault 17 i

-- "a table otherwise well formed is refused with 17 exactly if a socket pair exists that two entries both match while they share SendID or
-- share RecvID"
abbrev pub RefusedConflicting : Type 0
RefusedConflicting = (kind : TableKind) (limit i : ℕ) (t : List ℕ) → Octets t → loaded kind limit t ≡ fault 17 i → Conflicting (entries t)

abbrev pub ConflictingRefused : Type 0
ConflictingRefused = (kind : TableKind) (limit : ℕ) (t : List ℕ) → WellFormed kind limit t → Conflicting (entries t)
    → (i : ℕ) × (loaded kind limit t ≡ fault 17 i)

-- document 02, Ticket 9, of the MD5 table: "17 if two entries match one pair"
pub record BothMatch (l : List Entry) : Type 0 where
  pub earlier : ℕ
  pub later : ℕ
  pub one : Entry
  pub two : Entry
  pub at-earlier : At l earlier one
  pub at-later : At l later two
  pub order : earlier < later
  pub pair : Pair
  pub is-pair : IsPair pair
  pub first : matches one.selector pair ≡ true
  pub second : matches two.selector pair ≡ true

abbrev pub Md5RefusedBoth : Type 0
Md5RefusedBoth = (limit i : ℕ) (t : List ℕ) → Octets t → loaded Md5 limit t ≡ fault 17 i → BothMatch (entries t)

abbrev pub Md5BothRefused : Type 0
Md5BothRefused = (limit : ℕ) (t : List ℕ) → WellFormed Md5 limit t → BothMatch (entries t) → (i : ℕ) × (loaded Md5 limit t ≡ fault 17 i)
