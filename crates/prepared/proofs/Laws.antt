-- Laws that the proofs of clean.rt share: addresses whose bits are cleared, and keys that are padded.
use Prim.Native.Nat.{ℕ, zero, suc, ◌+◌, ◌*◌, ◌-◌, ◌<◌, min}
use mathlib.Core.Path.{◌≡◌, sym, ap, ◌∙◌}
use mathlib.Core.List.{List, [], ◌∷◌, ◌++◌}
use native.Mathlib.Omega.{arith}
use native.Mathlib.Numerals.{add-one}
use native.Mathlib.Nat.{sub-zero, zero-add}
use lib.ListN.{length, get_or, take, drop, set, replicate}
use lib.Seq.{paste, take-length, take_all, take-suc, take-suc-set}
use Rattle.keys.specs.declared.entry.Side.{Side}
use Rattle.prepared.specs.Prepared.{kept, clear, clean_family, clean_side, clean_selector, raw_local, raw_remote, raw_selector}
use Rattle.prepared.specs.ClearLaws.{clear-length, clear_at}

-- an address, byte by byte

-- out has the first i bytes of a cleared address: l bits are left, m of them in this byte
module _ (out a : List ℕ) (n i : ℕ) (la : length a ≡ 16) (lo : length out ≡ 16) where
  pub clear_next : (l m v : ℕ) → i < 16 → l ≡ n - 8 * i → m ≡ min l 8 → v ≡ kept m (get_or a i 0)
      → take i out ≡ take i (clear n a) → take (i + 1) (set out i v) ≡ take (i + 1) (clear n a)
  clear_next l m v h le me ve q =
      let c = clear-length n a in
      let w : v ≡ get_or (clear n a) i 0 =
      ve ∙ ap (λ (k : ℕ). kept k (get_or a i 0)) (me ∙ ap (λ (k : ℕ). min k 8) le) ∙ sym (clear_at n a i (omega arith)) in
      rw add-one (take-suc-set out i v (omega arith) ∙ (λ j. q j ++ (w j ∷ [])) ∙ sym (take-suc (clear n a) i 0 (omega arith)))

  pub clear_whole : i ≡ 16 → take i out ≡ take i (clear n a) → out ≡ clear n a
  clear_whole e q =
      let c = clear-length n a in
      sym (take_all i out (omega arith)) ∙ q ∙ take_all i (clear n a) (omega arith)

-- a key

abbrev blank : ℕ → List ℕ
blank n = replicate n 0

pub drop-zeros : (n m : ℕ) → drop n (blank m) ≡ blank (m - n)
drop-zeros zero m = ap blank (sym (sub-zero m))
drop-zeros (suc n) zero = ap blank (let e : 0 ≡ 0 - suc n = omega arith in e)
drop-zeros (suc n) (suc m) = drop-zeros n m ∙ ap blank (let e : m - n ≡ suc m - suc n = omega arith in e)

-- s copied to the front of m zeros
pub laid : (m : ℕ) (s x : List ℕ) → x ≡ paste (blank m) 0 s (length s) → x ≡ s ++ blank (m - length s)
laid m s x e = e ∙ (λ i. take-length s i ++ dropped i)
  where
    dropped : drop (0 + length s) (blank m) ≡ blank (m - length s)
    dropped = ap (λ (k : ℕ). drop k (blank m)) (zero-add (length s)) ∙ drop-zeros (length s) m

-- a selector from its parts

pub selector-by : (f r : List ℕ) (g : ℕ) (l m : Side) → g ≡ clean_family (get_or f 3 0) → l ≡ clean_side g (raw_local f r)
    → m ≡ clean_side g (raw_remote f) → record { family = g; local = l; remote = m } ≡ clean_selector (raw_selector f r)
unfolding clean_selector raw_selector
selector-by f r g l m ge le me =
    λ i. record {
      family = ge i;
      local = (le ∙ ap (λ (k : ℕ). clean_side k (raw_local f r)) ge) i;
      remote = (me ∙ ap (λ (k : ℕ). clean_side k (raw_remote f)) ge) i;
    }
