-- What tables are refused with, as statements: document 02, Ticket 9, "Tables that both match some pair are refused with 45 at the first
-- such MD5 entry, behind the key table's and then the MD5 table's refusals". CrossingLaws proves them.
use Rattle.std.specs.Prelude.{ℕ, ◌<◌, true, ◌≡◌, List}
use Rattle.octets.specs.Each.{Octets}
use Rattle.keys.specs.Clash.{IsPair}
use Rattle.keys.specs.Entry.{entries}
use Rattle.keys.specs.Match.{matches}
use Rattle.keys.specs.Places.{At}
use Rattle.keys.specs.Table.{loaded}
use Rattle.keys.specs.declared.entry.Entry.{Entry}
use Rattle.keys.specs.declared.entry.Pair.{Pair}
use Rattle.keys.specs.declared.table.TableKind.{TableKind}
use Rattle.keys.specs.declared.table.TableKind.TheVariants.{Keys, Md5}
use Rattle.std.specs.Prelude.{Ok}
use Rattle.keys.specs.Table.{fault}
use Rattle.tables.specs.Tables.{max_entries, md5_index, admitted}
use Rattle.tables.specs.declared.Index.{Index}
use Rattle.tables.specs.Tables.{refused_with}

-- a socket pair exists that an entry of the key table and this MD5 entry both match
pub record Crossed (k : List ℕ) (e : Entry) : Type 0 where
  pub place : ℕ
  pub other : Entry
  pub at_place : At (entries k) place other
  pub pair : Pair
  pub is-pair : IsPair pair
  pub first : matches other.selector pair ≡ true
  pub second : matches e.selector pair ≡ true

-- a table that by itself is given none of 10 to 17
abbrev pub Alone : TableKind → List ℕ → Type 0
Alone kind t = (n : ℕ) × (loaded kind max_entries t ≡ Ok n)

-- 45 at the MD5 entry i: both tables by themselves are valid, it and a key entry match some socket pair, and none before it does
pub record CrossedAt (k m : List ℕ) (i : ℕ) : Type 0 where
  pub keys : Alone Keys k
  pub md5s : Alone Md5 m
  pub entry : Entry
  pub at_entry : At (entries m) i entry
  pub crossed : Crossed k entry
  pub before : (j : ℕ) (f : Entry) → At (entries m) j f → j < i → Crossed k f → ⊥

abbrev pub RefusedCrossed : Type 0
RefusedCrossed = (k m : List ℕ) (x : Index) → Octets k → Octets m → admitted k m ≡ refused_with 45 x → (x.table ≡ 1) × CrossedAt k m x.entry

abbrev pub CrossedRefused : Type 0
CrossedRefused = (k m : List ℕ) (i : ℕ) → Octets k → Octets m → CrossedAt k m i → admitted k m ≡ refused_with 45 (md5_index i)

-- The order, with the numerals: a table has at most 1,024 entries; the key table is table 0, the MD5 table 1.

-- the key table's refusal comes first, whatever the MD5 table is
abbrev pub KeysRefused : Type 0
KeysRefused = (k m : List ℕ) (n i : ℕ) → loaded Keys 1024 k ≡ fault n i → admitted k m ≡ refused_with n (record { table = 0; entry = i })

-- then the MD5 table's
abbrev pub Md5Refused : Type 0
Md5Refused = (k m : List ℕ) (c n i : ℕ) → loaded Keys 1024 k ≡ Ok c → loaded Md5 1024 m ≡ fault n i
    → admitted k m ≡ refused_with n (record { table = 1; entry = i })

-- and nothing but 45 behind: two valid tables of which no MD5 entry is crossed are taken, with the number of key entries
abbrev pub BothTaken : Type 0
BothTaken = (k m : List ℕ) (c d : ℕ) → Octets k → Octets m → loaded Keys 1024 k ≡ Ok c → loaded Md5 1024 m ≡ Ok d
    → ((j : ℕ) (f : Entry) → At (entries m) j f → Crossed k f → ⊥) → admitted k m ≡ Ok c
