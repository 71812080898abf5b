-- The list of the values of f at 0, 1, 2 .., written out: its element i is f i. Assumes nothing.
use Rattle.std.proofs.Common.{◌≡◌, ℕ, ◌<◌, T, List, map, length, get_or, sym, ap, ◌∙◌, arith, ext_get_or}
use lib.ListN.{length-map}
use Rattle.compression.specs.TableLaws.{agree, each, get_d_map}

-- the test that l is 0, 1, 2 .. computes where l is written out
abbrev pub Places : List ℕ → Type 0
Places l = T (agree (λ k. get_or l k 0) (λ k. k) (length l))

pub value-at : {A : Type 0} (d : A) (f : ℕ → A) (l : List ℕ) → Places l → (i : ℕ) → i < length l → get_or (map f l) i d ≡ f i
value-at d f l t i h = get_d_map d f l i h ∙ ap f (each (λ k. get_or l k 0) (λ k. k) (length l) t i h)

-- a list is its elements in order
pub elements : {A : Type 0} (d : A) (a : List A) (l : List ℕ) → Places l → length a ≡ length l → map (λ i. get_or a i d) l ≡ a
elements d a l t e = ext_get_or d (map (λ i. get_or a i d) l) a (length-map l (λ i. get_or a i d) ∙ sym e) at where
  at : (i : ℕ) → i < length (map (λ i. get_or a i d) l) → get_or (map (λ i. get_or a i d) l) i d ≡ get_or a i d
  at i h = value-at d (λ k. get_or a k d) l t i (omega (arith, length-map l (λ i. get_or a i d)))
