-- What tables are that are refused with no number.
use Rattle.std.specs.Prelude.{ℕ, ◌≤◌, Bool, true, false, ◌≡◌, refl, List, ◌⊎◌, length, eqb}
use Rattle.std.proofs.Common.{sym, ap, ◌∙◌, inl, inr, arith, ne_eqb}
use Rattle.std.proofs.Math.Path.{subst⁻¹}
use Rattle.keys.specs.Clash.{Formed}
use Rattle.keys.specs.Entry.{entries}
use Rattle.keys.proofs.FormedLaws.{KeyProper, key-proper, Md5Proper, md5-proper, md5-digests}
use Rattle.keys.proofs.FoundLaws.{found_none, any_none}
use Rattle.keys.proofs.LoadLaws.{valid-formed}
use Rattle.keys.specs.Places.{At}
use Rattle.keys.proofs.PlaceLaws.{each_at, apart-at}
use Rattle.keys.specs.Table.{loaded, meets, meets_any_of}
use Rattle.keys.specs.declared.entry.Entry.{Entry}
use Rattle.keys.specs.declared.table.TableKind.TheVariants.{Keys, Md5}
use Rattle.keys.specs.Table.{Loaded}
use Rattle.std.specs.Prelude.{Ok, Err}
use Rattle.prepared.specs.Prepared.{key_count_of, fits, key_part, md5_part}
use Rattle.prepared.specs.ReadLaws.{keys-formed, md5s-formed, counted}
use Rattle.tables.specs.Tables.{Tables, no_index, max_entries, crossing, besides, admitted, bytes_tables, prepared_answer, prepared_tables, tables_of}
use Rattle.tables.specs.Valid.{Digest16, Held, Apart, ValidBytes, TakenHeld, ValidApart, ValidCount, PreparedAnswer}
use Rattle.tables.specs.Tables.{refused_with}

-- each of the two tables is valid by itself, and no MD5 entry overlaps a key entry
pub record Taken (k m : List ℕ) (n : ℕ) : Type 0 where
  pub keys : loaded Keys max_entries k ≡ Ok n
  pub md5s : (j : ℕ) × (loaded Md5 max_entries m ≡ Ok j)
  pub uncrossed : (crossing (entries k) (entries m)).there ≡ false

pub admitted-taken : (k m : List ℕ) (n : ℕ) → admitted k m ≡ Ok n → Taken k m n
unfolding admitted besides
admitted-taken k m n e = go (loaded Keys max_entries k) (loaded Md5 max_entries m) (crossing (entries k) (entries m)).there refl refl refl
  where
    go : (x y : Loaded) (b : Bool) → loaded Keys max_entries k ≡ x → loaded Md5 max_entries m ≡ y
        → (crossing (entries k) (entries m)).there ≡ b → Taken k m n
    go (Err f) (Ok h) b p q r = let z : ◌≡◌ {A = ℕ} 0 1 = cc in absurd (omega arith)
    go (Err f) (Err f2) b p q r = let z : ◌≡◌ {A = ℕ} 0 1 = cc in absurd (omega arith)
    go (Ok i) (Err f) b p q r = let z : ◌≡◌ {A = ℕ} 0 1 = cc in absurd (omega arith)
    go (Ok i) (Ok j) true p q r = let z : ◌≡◌ {A = ℕ} 0 1 = cc in absurd (omega arith)
    go (Ok i) (Ok j) false p q r =
        let z : i ≡ n = cc in
        record { keys = p ∙ ap Ok z; md5s = (j, q); uncrossed = r }

pub taken-admitted : (k m : List ℕ) (n : ℕ) → Taken k m n → admitted k m ≡ Ok n
unfolding admitted besides
taken-admitted k m n t = cc (t.keys, t.md5s.1, t.uncrossed)

bytes_count : (k m : List ℕ) (n : ℕ) → admitted k m ≡ Ok n
    → (n ≡ length (entries k)) × (n ≤ max_entries) × (length (entries m) ≤ max_entries)
bytes_count k m n e =
    let t = admitted-taken k m n e in
    let a = valid-formed Keys max_entries n k t.keys in
    let b = valid-formed Md5 max_entries t.md5s.0 m t.md5s.1 in
    let c = a.1 in
    let d = a.0.few in
    (sym c, omega arith, b.0.few)

bytes-held : (k m : List ℕ) (n : ℕ) → admitted k m ≡ Ok n → Held (bytes_tables k m)
bytes-held k m n e =
    let t = admitted-taken k m n e in
    record {
      proper = (valid-formed Keys max_entries n k t.keys).0.formed;
      md5-proper = (valid-formed Md5 max_entries t.md5s.0 m t.md5s.1).0.formed;
      md5-digest = md5-digests max_entries t.md5s.0 m t.md5s.1;
    }

bytes_apart : (k m : List ℕ) (n : ℕ) → admitted k m ≡ Ok n → Apart (bytes_tables k m)
unfolding meets_any_of
bytes_apart k m n e =
    let t = admitted-taken k m n e in
    let a = valid-formed Keys max_entries n k t.keys in
    let b = valid-formed Md5 max_entries t.md5s.0 m t.md5s.1 in
    record {
      keys = λ i j e f p q h. apart-at a.2 p q h;
      md5s = λ i j e f p q h. apart-at b.2 p q h;
      uncrossed = λ i j e f p q. any_none (meets f.selector) (found_none (meets_any_of (entries k)) 0 t.uncrossed q) p;
    }

pub valid-bytes : ValidBytes
valid-bytes k m n e = record { taken = (n, e); held = bytes-held k m n e; apart = bytes_apart k m n e }

-- prepared tables

-- every form but 0 is one
pub other-form : (form : ℕ) (b m : List ℕ) → (form ≡ 0 → ⊥) → tables_of form b m ≡ prepared_tables b m
other-form form b m z = rw (ne_eqb form 0 z)

answered : (b m : List ℕ)
    → ((prepared_tables b m).answer ≡ refused_with 44 no_index) ⊎ ((n : ℕ) × ((prepared_tables b m).answer ≡ Ok n) × (n ≤ max_entries))
unfolding prepared_tables prepared_answer
answered b m = go (fits b) (eqb (length m) 0) refl refl
  where
    go : (x y : Bool) → fits b ≡ x → eqb (length m) 0 ≡ y
        → ((prepared_tables b m).answer ≡ refused_with 44 no_index) ⊎ ((n : ℕ) × ((prepared_tables b m).answer ≡ Ok n) × (n ≤ max_entries))
    go false y p q = inl (rw p)
    go true false p q = inl (rw (p, q))
    go true true p q = inr (key_count_of b, rw (p, q), (counted b p).2)

pub prepared-answer : PreparedAnswer
prepared-answer form b m z =
    subst⁻¹ (λ (t : Tables). (t.answer ≡ refused_with 44 no_index) ⊎ ((n : ℕ) × (t.answer ≡ Ok n) × (n ≤ max_entries)))
    (other-form form b m z) (answered b m)

prepared-held : (b m : List ℕ) → Held (prepared_tables b m)
unfolding prepared_tables
prepared-held b m = let f = md5s-formed b in record { proper = keys-formed b; md5-proper = f.0; md5-digest = f.1 }

prepared-count : (b m : List ℕ) (n : ℕ) → (prepared_tables b m).answer ≡ Ok n
    → (n ≡ length (prepared_tables b m).keys) × (n ≤ max_entries) × (length (prepared_tables b m).md5s ≤ max_entries)
unfolding prepared_tables prepared_answer
prepared-count b m n e = go (fits b) (eqb (length m) 0) refl refl
  where
    go : (x y : Bool) → fits b ≡ x → eqb (length m) 0 ≡ y
        → (n ≡ length (key_part b)) × (n ≤ max_entries) × (length (md5_part b) ≤ max_entries)
    go false y p q = let z : ◌≡◌ {A = ℕ} 0 1 = cc (rw p at e) in absurd (omega arith)
    go true false p q = let z : ◌≡◌ {A = ℕ} 0 1 = cc (rw (p, q) at e) in absurd (omega arith)
    go true true p q =
        let f : Ok (key_count_of b) ≡ Ok n = rw (p, q) at e in
        let z : key_count_of b ≡ n = cc in
        let c = counted b p in
        let l = c.0 in
        let d = c.1 in
        let u = c.2 in
        let v = c.3 in
        (omega arith, omega arith, omega arith)

-- either form

pub taken-held : TakenHeld
taken-held form k m n e = go (eqb form 0) refl
  where
    go : (b : Bool) → eqb form 0 ≡ b → Held (tables_of form k m)
    go true q = rw q (bytes-held k m n (rw q at e))
    go false q = rw q (prepared-held k m)

pub valid-apart : ValidApart
valid-apart form k m n e a = record { taken = (n, e); held = taken-held form k m n e; apart = a }

pub valid-count : ValidCount
valid-count form k m n e = go (eqb form 0) refl
  where
    go : (b : Bool) → eqb form 0 ≡ b
        → (n ≡ length (tables_of form k m).keys) × (n ≤ max_entries) × (length (tables_of form k m).md5s ≤ max_entries)
    go true q = rw q (bytes_count k m n (rw q at e))
    go false q = rw q (prepared-count k m n (rw q at e))

-- what every entry has that valid bytes could hold

module _ {t : Tables} (v : Held t) {i : ℕ} {e : Entry} where
  pub valid-key : At t.keys i e → KeyProper e
  valid-key a = key-proper e (each_at (Formed Keys) v.proper a)

  pub valid-md5 : At t.md5s i e → Md5Proper e
  valid-md5 a = md5-proper e (each_at (Formed Md5) v.md5-proper a)

  pub valid-digest : At t.md5s i e → Digest16 e
  valid-digest a = each_at Digest16 v.md5-digest a
