-- What a table's bytes begin with: an entry that is there whole, or nothing that has a meaning. Assumes nothing.
use Rattle.std.specs.Prelude.{ℕ, zero, suc, ◌≤◌, ◌<◌, Bool, true, false, cond, ◌&&◌, ◌≡◌, refl, List, [], ◌∷◌, length, get_or, drop, leb}
use Rattle.std.proofs.Common.{arith}
use Rattle.std.proofs.lemmas.Bool.{le-leb, lt-leb}
use Rattle.keys.specs.Entry.{known_kind_of, body, size, entry_of, item, sound, items, entries_of, entries}
use Rattle.keys.proofs.EntryLaws.{items-from}

module _ (s : List ℕ) where
  pub sound-unknown : known_kind_of (get_or s 0 0) ≡ false → sound (item s) ≡ false
  unfolding item
  sound-unknown h = rw h

  pub sound-cut : length s < size (get_or s 0 0) → sound (item s) ≡ false
  unfolding item
  sound-cut h = go (known_kind_of (get_or s 0 0))
    where
      go : (b : Bool) → (b && leb (size (get_or s 0 0)) (length s)) ≡ false
      go true = lt-leb _ _ h
      go false = refl

  pub sound-is : known_kind_of (get_or s 0 0) ≡ true → size (get_or s 0 0) ≤ length s → sound (item s) ≡ true
  unfolding item
  sound-is k h = rw (k, le-leb _ _ h)

pub sound-empty : (s : List ℕ) → length s ≡ 0 → sound (item s) ≡ false
unfolding item known_kind_of
sound-empty [] e = refl
sound-empty (b ∷ s) e = absurd (omega arith)

pub sound-long : (s : List ℕ) → sound (item s) ≡ true → 0 < length s
sound-long [] h = let e = sound-empty [] refl in let z : ◌≡◌ {A = ℕ} 0 1 = cc in absurd (omega arith)
sound-long (b ∷ s) h = omega arith

-- the first entry, and those behind it
pub entries-first : (s : List ℕ) → sound (item s) ≡ true → entries s ≡ entry_of s ∷ entries (drop (size (get_or s 0 0)) s)
unfolding entries_of item
entries-first s h = rw (items-from s (sound-long s h), h)

pub entries-none : (s : List ℕ) → sound (item s) ≡ false → entries s ≡ []
unfolding entries_of items
entries-none [] h = refl
entries-none (b ∷ s) h = rw h

few : (n : ℕ) (t : List ℕ) → length (entries_of (items n t)) ≤ length t
unfolding items entries_of
few n [] = omega arith
few (suc n) (b ∷ t) = let h = few n t in omega arith
few zero (b ∷ t) = go (sound (item (b ∷ t))) (few (body b) t)
  where
    go : (c : Bool) → length (entries_of (items (body b) t)) ≤ length t
        → length (cond c ((item (b ∷ t)).entry ∷ entries_of (cond c (items (body b) t) [])) []) ≤ suc (length t)
    go true h = omega arith
    go false h = omega arith

pub entries-few : (t : List ℕ) → length (entries t) ≤ length t
entries-few t = few 0 t
