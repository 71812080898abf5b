-- What the calls take of tables, and what they ask of them: document 01, "Key table (house bytes)" and "Numbers given back"; document 02,
-- Tickets 8 and 9. All that a call knows of its tables is a value of `Tables`: `tables_of` says what the two lent buffers mean, in either
-- form.
use Rattle.std.specs.Prelude.{ℕ, Bool, cond, ◌&&◌, List, length, eqb, Result, Ok, Err}
use Rattle.keys.specs.Entry.{entries}
use Rattle.keys.specs.Table.{Loaded, Found, loaded, found, any_of, answers, meets_any_of}
use Rattle.keys.specs.declared.entry.Entry.{Entry}
use Rattle.keys.specs.declared.entry.Pair.{Pair}
use Rattle.keys.specs.declared.table.TableKind.TheVariants.{Keys, Md5}
use Rattle.keys.specs.declared.table.By.TheVariants.{Any, Send, Recv}
use Rattle.prepared.specs.Prepared.{key_count_of, fits, key_part, md5_part}
pub use Rattle.prepared.specs.Prepared.{max_entries}
use Rattle.tables.specs.declared.Index.{Index}
use Rattle.tables.specs.declared.Refusal.{Refusal}
use Rattle.tables.specs.declared.Form.{Form}
use Rattle.tables.specs.declared.Form.TheVariants.{Bytes, Prepared}

-- what the tables answer: both are taken, and the key table has so many entries (of preparing: so many bytes were written); or they are
-- refused with a number at an entry
abbrev pub Admitted : Type 0
Admitted = Result ℕ Refusal

abbrev pub refused_with : ℕ → Index → Admitted
refused_with n i = Err (record { number = n; index = i })

-- the answer that stands before a call's own numbers, and the entries that its searches go over
pub record Tables : Type 0 where
  pub answer : Admitted
  pub keys : List Entry
  pub md5s : List Entry

-- where a number names no entry
abbrev pub no_index : Index
no_index = record { table = 0; entry = 0 }

abbrev pub key_index : ℕ → Index
key_index i = record { table = 0; entry = i }

abbrev pub md5_index : ℕ → Index
md5_index i = record { table = 1; entry = i }

-- the first MD5 entry that matches a pair which some key entry matches too
abbrev pub crossing : List Entry → List Entry → Found
crossing keys md5s = found (meets_any_of keys) 0 md5s

-- a table's refusal stands, with its entry's index; where it is valid, what follows decides
abbrev pub after_table : (ℕ → Index) → Loaded → (ℕ → Admitted) → Admitted
after_table at (Ok n) next = next n
after_table at (Err f) next = refused_with f.number (at f.index)

-- "Tables that both match some pair are refused with 45 at the first such MD5 entry"; n is how many key entries there are
abbrev pub after_crossing : Found → ℕ → Admitted
after_crossing x n = cond x.there (refused_with 45 (md5_index x.index)) (Ok n)

-- the MD5 table's refusals, then 45
unfoldable pub besides : List ℕ → List ℕ → ℕ → Admitted
besides k m n = after_table md5_index (loaded Md5 max_entries m) (λ _. after_crossing (crossing (entries k) (entries m)) n)

-- "behind the key table's and then the MD5 table's refusals"
unfoldable pub admitted : List ℕ → List ℕ → Admitted
admitted k m = after_table key_index (loaded Keys max_entries k) (besides k m)

-- what the bytes of a key table and of an MD5 table mean
abbrev pub bytes_tables : List ℕ → List ℕ → Tables
bytes_tables k m = record { answer = admitted k m; keys = entries k; md5s = entries m }

-- "A prepared table with a count or an entry that valid bytes could not hold is refused with 44, .. without an index"; so is one beside
-- which a second buffer is lent that is not empty, since that would not be looked at
unfoldable pub prepared_answer : List ℕ → List ℕ → Admitted
prepared_answer b m = cond (fits b && eqb (length m) 0) (Ok (key_count_of b)) (refused_with 44 no_index)

-- what a prepared table means, and any bytes beside it
unfoldable pub prepared_tables : List ℕ → List ℕ → Tables
prepared_tables b m = record { answer = prepared_answer b m; keys = key_part b; md5s = md5_part b }

-- what the two buffers mean in each form
abbrev pub tables_in : Form → List ℕ → List ℕ → Tables
tables_in Bytes k m = bytes_tables k m
tables_in Prepared k m = prepared_tables k m

-- what the two buffers mean that are lent in a form: 0 their tables' own bytes, any other value a prepared table
abbrev pub tables_of : ℕ → List ℕ → List ℕ → Tables
tables_of form k m = cond (eqb form 0) (bytes_tables k m) (prepared_tables k m)

-- the key entry that matches the pair and has the ID
abbrev pub send_entry : Tables → Pair → ℕ → Found
send_entry t p id = found (answers (Send id) p) 0 t.keys

abbrev pub recv_entry : Tables → Pair → ℕ → Found
recv_entry t p id = found (answers (Recv id) p) 0 t.keys

-- "if any entry matches the pair"
abbrev pub any_entry : Tables → Pair → Bool
any_entry t p = any_of (answers Any p) t.keys

-- the MD5 entry that matches the pair
abbrev pub md5_entry : Tables → Pair → Found
md5_entry t p = found (answers Any p) 0 t.md5s
