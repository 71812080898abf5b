-- The limit, as statements: document 01, 12 "a 65th entry begins"; document 02, Ticket 8, "Refusal 12 moves to the 1,025th (Ticket 1's
-- program stays at 64 entries)". They say it without the loader's own tests: by a table that is valid with just so many entries, behind
-- which one byte more stands. LimitLaws proves them.
use Rattle.std.specs.Prelude.{ℕ, ◌≡◌, List, ◌∷◌, ◌++◌}
use Rattle.keys.specs.Table.{loaded}
use Rattle.keys.specs.declared.table.TableKind.{TableKind}
use Rattle.keys.specs.declared.table.TableKind.TheVariants.{Keys, Md5}
use Rattle.std.specs.Prelude.{Ok}
use Rattle.keys.specs.Table.{fault}
use Rattle.tables.specs.Tables.{admitted}
use Rattle.tables.specs.Tables.{refused_with}

-- Of either table and over any limit: where u is a valid table of exactly so many entries, one byte b more behind it, whatever follows,
-- is refused with 12, at the entry that b begins. Indexes are from 0, so the limit itself is that entry's.
abbrev pub LimitRefused : Type 0
LimitRefused = (kind : TableKind) (limit : ℕ) (u r : List ℕ) (b : ℕ) → loaded kind limit u ≡ Ok limit
    → loaded kind limit (u ++ (b ∷ r)) ≡ fault 12 limit

-- and no other table is refused with 12
abbrev pub RefusedLimit : Type 0
RefusedLimit = (kind : TableKind) (limit i : ℕ) (t : List ℕ) → loaded kind limit t ≡ fault 12 i
    → (i ≡ limit) × (u : List ℕ) × (b : ℕ) × (r : List ℕ) × (t ≡ u ++ (b ∷ r)) × (loaded kind limit u ≡ Ok limit)

-- With the numeral, of both tables of a call: behind 1,024 valid entries the 1,025th is refused as it begins.

-- the key table's, whatever the MD5 table is
abbrev pub KeysLimit : Type 0
KeysLimit = (u r m : List ℕ) (b : ℕ) → loaded Keys 1024 u ≡ Ok 1024
    → admitted (u ++ (b ∷ r)) m ≡ refused_with 12 (record { table = 0; entry = 1024 })

-- the MD5 table's, behind a valid key table
abbrev pub Md5Limit : Type 0
Md5Limit = (k u r : List ℕ) (c b : ℕ) → loaded Keys 1024 k ≡ Ok c → loaded Md5 1024 u ≡ Ok 1024
    → admitted k (u ++ (b ∷ r)) ≡ refused_with 12 (record { table = 1; entry = 1024 })
