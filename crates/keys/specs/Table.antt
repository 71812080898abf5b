-- What a list of entries answers, of the key table or of the MD5 table: the numbers 10 to 17 with the entry's index, and the searches.
-- Document 01, "Key table (house bytes)" and "Numbers given back"; document 02, Ticket 9: "with a table of its own in a form that you
-- document, under refusals 10 to 17". The MD5 table has the key table's entry bytes.
-- Nothing here reads bytes: specs/Entry.antt says what they mean.
use Rattle.std.specs.Prelude.{ℕ, zero, suc, ◌+◌, ◌*◌, Bool, true, false, cond, not, ◌&&◌, ◌||◌, List, [], ◌∷◌, ◌++◌, drop, replicate, ltb}
use Rattle.std.specs.Prelude.{eqb}
use Rattle.octets.specs.Tests.{Test, test, first}
use Rattle.wire.specs.Prefix.{clear_past_of}
use Rattle.keys.specs.Entry.{width, Item, items}
use Rattle.keys.specs.Match.{matches, overlap, clash}
use Rattle.keys.specs.declared.entry.Side.{Side}
use Rattle.keys.specs.declared.entry.Selector.{Selector}
use Rattle.keys.specs.declared.entry.Ids.{Ids}
use Rattle.keys.specs.declared.entry.Secret.{Secret}
use Rattle.keys.specs.declared.entry.Entry.{Entry}
use Rattle.keys.specs.declared.entry.Pair.{Pair}
use Rattle.keys.specs.declared.table.TableKind.{TableKind}
use Rattle.keys.specs.declared.table.TableKind.TheVariants.{Keys, Md5}
use Rattle.std.specs.Prelude.{Result, Ok, Err, Option, Some, None}
use Rattle.keys.specs.declared.table.Fault.{Fault}
use Rattle.keys.specs.declared.table.By.{By}
use Rattle.keys.specs.declared.table.By.TheVariants.{Any, Send, Recv}
use Rattle.keys.specs.declared.table.Hit.{Hit}

-- "The first that applies, in this order, is given"; 0 if none does
unfoldable pub number_of : List (Test ℕ) → ℕ
number_of l = first l 0

-- 13: "flags or algorithm not listed"; document 02, Ticket 4: "Refusal 13 also covers the new byte", "4 to 16"; Ticket 13: "Refusal 13
-- admits 3"; Ticket 10: "Refusal 13 admits both bits", 2 and 4
abbrev pub secret_tests : Secret → List (Test ℕ)
secret_tests s =
    test 13 (ltb 7 s.flags)
    ∷ test 13 (ltb s.algorithm 1)
    ∷ test 13 (ltb 3 s.algorithm)
    ∷ test 13 (ltb s.mac_bytes 4)
    ∷ test 13 (ltb 16 s.mac_bytes) ∷ []

-- 14: "low port above high"
abbrev pub port_range_tests : Selector → List (Test ℕ)
port_range_tests s = test 14 (ltb s.local.high s.local.low) ∷ test 14 (ltb s.remote.high s.remote.low) ∷ []

-- 15: "prefix above 32 or 128, or address bits set past it"
abbrev pub side_tests : ℕ → Side → List (Test ℕ)
side_tests f s = test 15 (ltb (8 * width f) s.bits) ∷ test 15 (not (clear_past_of s.bits s.address)) ∷ []

abbrev pub zeros : List ℕ → Bool
zeros [] = true
zeros (x ∷ l) = eqb x 0 && zeros l

-- 16: "key length 0 or above 80, or padding not zero"
abbrev pub master_key_tests : Secret → List (Test ℕ)
master_key_tests s =
    test 16 (ltb s.key_len 1) ∷ test 16 (ltb 80 s.key_len) ∷ test 16 (not (zeros (drop s.key_len s.key))) ∷ []

-- 13 of the MD5 table: flags 0, algorithm 19, SendID 0 and RecvID 0 are listed. So two of its entries share their IDs, and 17 is what
-- document 02 says: "17 if two entries match one pair".
abbrev pub md5_tests : Secret → Ids → List (Test ℕ)
md5_tests s i =
    test 13 (ltb 0 s.flags) ∷ test 13 (not (eqb s.algorithm 19)) ∷ test 13 (ltb 0 i.send) ∷ test 13 (ltb 0 i.recv) ∷ []

-- 13, by the kind of table
abbrev pub listed_tests : TableKind → Entry → List (Test ℕ)
listed_tests Keys e = secret_tests e.secret
listed_tests Md5 e = md5_tests e.secret e.ids

-- what is wrong with an entry by itself
abbrev pub entry_tests : TableKind → Entry → List (Test ℕ)
entry_tests kind e =
    listed_tests kind e
    ++ (port_range_tests e.selector
    ++ (side_tests e.selector.family e.selector.local
    ++ (side_tests e.selector.family e.selector.remote
    ++ master_key_tests e.secret)))

-- one of those before it clashes with an entry
unfoldable pub clashing : Entry → List Entry → Bool
clashing e [] = false
clashing e (f ∷ l) = clash f e || clashing e l

-- the kinds of entries that a kind of table has: the MD5 table 4 and 6 alone
abbrev pub kind_listed_of : TableKind → Item → Bool
kind_listed_of Keys x = x.kind-known
kind_listed_of Md5 x = x.kind-known && not x.extended

-- 11, 10: "unknown kind; entry cut"; then the entry by itself
abbrev pub own_tests : TableKind → Item → List (Test ℕ)
own_tests kind x = test 11 (not (kind_listed_of kind x)) ∷ test 10 (not x.whole) ∷ entry_tests kind x.entry

-- 17: "ID clash, at the later entry"
abbrev pub item_tests : TableKind → List Entry → Item → List (Test ℕ)
item_tests kind before x = own_tests kind x ++ (test 17 (clashing x.entry before) ∷ [])

-- 12 before all: "a 65th entry begins"
abbrev pub load_tests : TableKind → ℕ → ℕ → List Entry → Item → List (Test ℕ)
load_tests kind limit i before x = test 12 (eqb i limit) ∷ item_tests kind before x

-- what the loader answers: the table is valid and has so many entries, or it is refused with a number at the entry of an index
abbrev pub Loaded : Type 0
Loaded = Result ℕ Fault

abbrev pub fault : ℕ → ℕ → Loaded
fault n i = Err (record { number = n; index = i })

-- a number that is given refuses the table at the index; where it is 0, what follows decides
abbrev pub refusing : ℕ → ℕ → Loaded → Loaded
refusing zero i o = o
refusing (suc n) i o = fault (suc n) i

-- "table entries are taken one after another, each through to 17 against those before it, with the entry's index from 0"
unfoldable pub loaded_from : TableKind → ℕ → ℕ → List Entry → List Item → Loaded
loaded_from kind limit i before [] = Ok i
loaded_from kind limit i before (x ∷ l) =
    refusing (number_of (load_tests kind limit i before x)) i (loaded_from kind limit (i + 1) (before ++ (x.entry ∷ [])) l)

unfoldable pub loaded : TableKind → ℕ → List ℕ → Loaded
loaded kind limit t = loaded_from kind limit 0 [] (items 0 t)

-- what a search answers: whether anything is there, and where; the definitions above read the entry of either, and where nothing is
-- there every field is zero
pub record Found : Type 0 where
  pub there : Bool
  pub index : ℕ
  pub entry : Entry

-- nothing found: every field is zero
abbrev pub no_side : Side
no_side = record { low = 0; high = 0; bits = 0; address = replicate 16 0 }

unfoldable pub nobody : Found
nobody =
    record {
      there = false;
      index = 0;
      entry =
          record {
            selector = record { family = 0; local = no_side; remote = no_side };
            ids = record { send = 0; recv = 0 };
            secret = record { flags = 0; algorithm = 0; mac_bytes = 0; key_len = 0; key = replicate 80 0 };
          };
    }

-- the entry e, found at the place i
abbrev pub hit : ℕ → Entry → Found
hit i e = record { there = true; index = i; entry = e }

-- the first entry that passes a test; the list's first has the index i
unfoldable pub found : (Entry → Bool) → ℕ → List Entry → Found
found passes i [] = nobody
found passes i (e ∷ l) = cond (passes e) (hit i e) (found passes (i + 1) l)

unfoldable pub any_of : (Entry → Bool) → List Entry → Bool
any_of passes [] = false
any_of passes (e ∷ l) = passes e || any_of passes l

abbrev pub has_id_of : By → Ids → Bool
has_id_of Any i = true
has_id_of (Send id) i = eqb i.send id
has_id_of (Recv id) i = eqb i.recv id

-- an entry matching the pair that has the ID
unfoldable pub answers : By → Pair → Entry → Bool
answers by p e = has_id_of by e.ids && matches e.selector p

-- an entry matches some pair that a selector matches too
abbrev pub meets : Selector → Entry → Bool
meets s e = overlap e.selector s

-- some entry of a list does, of an entry's selector
unfoldable pub meets_any_of : List Entry → Entry → Bool
meets_any_of l e = any_of (meets e.selector) l

-- where a search found anything, if it did
abbrev pub place_of : Found → Option ℕ
place_of f = cond f.there (Some f.index) None

-- what a search of the code found, as the definitions above read it
abbrev pub found_of : Option Hit → Found
found_of (Some h) = hit h.index h.entry
found_of None = nobody
