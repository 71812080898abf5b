-- `same_bytes` says exactly that two strings are equal.
-- Assumes nothing.
use Rattle.std.specs.Prelude.{ℕ, Bool, true, false, ◌&&◌, ◌≡◌, refl, List, [], ◌∷◌, eqb}
use Rattle.std.specs.Cmp.Lexicographic.{pointwise}
use Rattle.std.proofs.Common.{ap, subst, arith, eq-eqb, eqb-true}
use Rattle.wire.specs.Bytes.{same_bytes}

pub same_refl : (a : List ℕ) → same_bytes a a ≡ true
unfolding same_bytes
same_refl [] = refl
same_refl (x ∷ a) = rw (eq-eqb x x refl) (same_refl a)

pub same-of-eq : (a b : List ℕ) → a ≡ b → same_bytes a b ≡ true
same-of-eq a b e = subst (λ (l : List ℕ). same_bytes a l ≡ true) e (same_refl a)

pub eq-of-same : (a b : List ℕ) → same_bytes a b ≡ true → a ≡ b
unfolding same_bytes
eq-of-same [] [] e = refl
eq-of-same [] (y ∷ b) e = let z : ◌≡◌ {A = ℕ} 0 1 = cc in absurd (omega arith)
eq-of-same (x ∷ a) [] e = let z : ◌≡◌ {A = ℕ} 0 1 = cc in absurd (omega arith)
eq-of-same (x ∷ a) (y ∷ b) e = go (eqb x y) refl e (eq-of-same a b) where
  go : (t : Bool) → eqb x y ≡ t → (t && same_bytes a b) ≡ true → (same_bytes a b ≡ true → a ≡ b) → x ∷ a ≡ y ∷ b
  go true q r f = λ i. eqb-true x y q i ∷ f r i
  go false q r f = let z : ◌≡◌ {A = ℕ} 0 1 = cc in absurd (omega arith)

-- so of unequal strings it is false
pub not_same : (a b : List ℕ) → (a ≡ b → ⊥) → same_bytes a b ≡ false
not_same a b h = go (same_bytes a b) refl where
  go : (t : Bool) → same_bytes a b ≡ t → t ≡ false
  go true e = absurd (h (eq-of-same a b e))
  go false e = refl

-- the library's equality of slices is the same test
pub same_is : (a b : List ℕ) → pointwise eqb a b ≡ same_bytes a b
unfolding same_bytes
same_is [] [] = refl
same_is [] (y ∷ b) = refl
same_is (x ∷ a) [] = refl
same_is (x ∷ a) (y ∷ b) = ap (λ (r : Bool). eqb x y && r) (same_is a b)
