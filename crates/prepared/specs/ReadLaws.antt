-- Every stored byte string reads as an entry to which none of 13 to 16 applies. So 44 is left for the counts and the length.
use Prim.Native.Nat.{ℕ, suc, zero, ◌+◌, ◌*◌, ◌≤◌, ◌<◌}
use Rattle.std.specs.Prelude.{Bool, cond, ◌&&◌, ◌≡◌, List, [], length, drop, leb, eqb}
use Rattle.std.proofs.Math.Bool.{true, false}
use Rattle.std.proofs.Math.Path.{refl}
use Rattle.std.proofs.Common.{ap, arith, length-take, length-drop, leb-true, eqb-true}
use Rattle.octets.specs.Each.{Each}
use Rattle.keys.specs.Clash.{Formed}
use Rattle.keys.proofs.MatchLaws.{and-true}
use Rattle.keys.specs.declared.entry.Entry.{Entry}
use Rattle.keys.specs.declared.table.TableKind.{TableKind}
use Rattle.keys.specs.declared.table.TableKind.TheVariants.{Keys, Md5}
use Rattle.prepared.specs.Prepared.{max_entries, key_count_of, md5_count, total, prepared_bytes, fits, raw_secret, raw_entry}
use Rattle.prepared.specs.Prepared.{front_at_lem, back_at, stored_at, stored_from, key_part, md5_part}
use Rattle.prepared.specs.Form.{Digest16, KeysFormed, Md5sFormed, Counted}
use Rattle.prepared.specs.CleanLaws.{ProperIn, proper-formed, clean-in}

-- what is not refused with 44
pub record Fitting (b : List ℕ) : Type 0 where
  pub keys : key_count_of b ≤ max_entries
  pub md5s : md5_count b ≤ max_entries
  pub size : length b ≡ prepared_bytes (total b)

pub fits-are : (b : List ℕ) → fits b ≡ true → Fitting b
unfolding fits
fits-are b h =
    let size = eqb (length b) (prepared_bytes (total b)) in
    let p = and-true (leb (key_count_of b) max_entries) (leb (md5_count b) max_entries && size) h in
    let q = and-true (leb (md5_count b) max_entries) size p.1 in
    record {
      keys = leb-true (key_count_of b) max_entries p.0;
      md5s = leb-true (md5_count b) max_entries q.0;
      size = eqb-true (length b) (prepared_bytes (total b)) q.1;
    }

-- one entry of n

pub stored-in : (kind : TableKind) (b : List ℕ) (n i : ℕ) → prepared_bytes n ≤ length b → i < n → ProperIn kind (stored_at kind b n i)
unfolding stored_at raw_entry raw_secret
stored-in kind b n i h k =
    let at = 4 + 28 * n + 101 * i in
    let p = length-drop at b in
    let q = length-take 101 (drop at b) in
    let r = length-drop 21 (back_at b n i) in
    let s = length-take 80 (drop 21 (back_at b n i)) in
    clean-in kind (raw_entry (front_at_lem b n i) (back_at b n i)) (omega arith)

-- what holds of each entry that can be read holds of all that are there

abbrev pub Stored : TableKind → (Entry → Type 0) → List ℕ → Type 0
Stored kind P b = (n i : ℕ) → prepared_bytes n ≤ length b → i < n → P (stored_at kind b n i)

module _ (kind : TableKind) (P : Entry → Type 0) (b : List ℕ) (of : Stored kind P b) (n : ℕ) where
  stored-each : (k i : ℕ) → prepared_bytes n ≤ length b → i + k ≤ n → Each P (stored_from kind b n i k)
  unfolding stored_from
  stored-each zero i h l = tt
  stored-each (suc k) i h l = (of n i h (omega arith), stored-each k (i + 1) h (omega arith))

pub stored-length : (kind : TableKind) (b : List ℕ) (n k i : ℕ) → length (stored_from kind b n i k) ≡ k
unfolding stored_from
stored-length kind b n zero i = refl
stored-length kind b n (suc k) i = ap suc (stored-length kind b n k (i + 1))

module _ (P : Entry → Type 0) (b : List ℕ) where
  pub keys-each : Stored Keys P b → Each P (key_part b)
  unfolding key_part
  keys-each of = go (fits b) refl
    where
      go : (c : Bool) → fits b ≡ c → Each P (cond (fits b) (stored_from Keys b (total b) 0 (key_count_of b)) [])
      go false e = rw e tt
      go true e = let f = (fits-are b e).size in rw e (stored-each Keys P b of (total b) (key_count_of b) 0 (omega arith) (omega arith))

  pub md5s-each : Stored Md5 P b → Each P (md5_part b)
  unfolding md5_part
  md5s-each of = go (fits b) refl
    where
      go : (c : Bool) → fits b ≡ c → Each P (cond (fits b) (stored_from Md5 b (total b) (key_count_of b) (md5_count b)) [])
      go false e = rw e tt
      go true e =
          let f = (fits-are b e).size in
          rw e (stored-each Md5 P b of (total b) (md5_count b) (key_count_of b) (omega arith) (omega arith))

stored-formed : (kind : TableKind) (b : List ℕ) → Stored kind (Formed kind) b
stored-formed kind b n i h k = proper-formed kind (stored_at kind b n i) (stored-in kind b n i h k)

pub keys-formed : KeysFormed
keys-formed b = keys-each (Formed Keys) b (stored-formed Keys b)

pub md5s-formed : Md5sFormed
md5s-formed b =
    (md5s-each (Formed Md5) b (stored-formed Md5 b), md5s-each Digest16 b (λ n i h k. (stored-in Md5 b n i h k).1.1))

pub counted : Counted
unfolding key_part md5_part
counted b h =
    let f = fits-are b h in (
      rw h (stored-length Keys b (total b) (key_count_of b) 0),
      rw h (stored-length Md5 b (total b) (md5_count b) (key_count_of b)),
      f.keys,
      f.md5s,
    )
