-- Two strings compared byte by byte, all of them: what the loop of `bytes::same_throughout` needs.
-- Assumes nothing.
use Rattle.std.specs.Prelude.{ℕ, Bool, true, false, ◌&&◌, ◌≡◌, refl, List, [], ◌∷◌, ◌⊎◌, length, eqb}
use Rattle.std.proofs.Common.{ap, sym, ◌∙◌, ⊎_elim, arith, ne_eqb, eqb-true}
use Rattle.std.proofs.lemmas.Bool.{eqb-false}
use lib.Bits.{bit_or, bit_xor, and_le_l, and_le_r, or_add_and, xor_add_and, xor_self}
use Rattle.wire.specs.Bytes.{same_bytes}
use Rattle.wire.proofs.BytesLaws.{not_same}

pub lengths : (a b : List ℕ) → (length a ≡ length b → ⊥) → false ≡ same_bytes a b
lengths a b h = sym (not_same a b (λ e. h (ap length e)))

-- a byte's difference is 0 exactly if the bytes are equal, and once it is not 0 it stays so
pub kept : (d x y : ℕ) → eqb (bit_or d (bit_xor x y)) 0 ≡ (eqb d 0 && eqb x y)
kept d x y = go (eqb d 0) (eqb x y) refl refl where
  zero_of : bit_or d (bit_xor x y) ≡ 0 → (d ≡ 0) × (x ≡ y)
  zero_of e =
      let o = or_add_and d (bit_xor x y) in
      let l = and_le_l d (bit_xor x y) in
      let r = and_le_r d (bit_xor x y) in
      (omega arith, omega (arith, xor_add_and x y, and_le_l x y, and_le_r x y))

  go : (p q : Bool) → eqb d 0 ≡ p → eqb x y ≡ q → eqb (bit_or d (bit_xor x y)) 0 ≡ (p && q)
  go true true e f = rw (eqb-true d 0 e, eqb-true x y f, xor_self)
  go true false e f = ne_eqb _ _ (λ r. eqb-false x y f (zero_of r).1)
  go false q e f = ne_eqb _ _ (λ r. eqb-false d 0 e (zero_of r).0)

regroup : (p q r : Bool) → ((p && q) && r) ≡ (p && (q && r))
regroup true q r = refl
regroup false q r = refl

-- of a and b what is left is r and q, and what stood before it differs exactly if d is not 0
pub record Compared (a b r q : List ℕ) (d : ℕ) : Type 0 where
  pub long : length r ≡ length q
  pub rest : (eqb d 0 && same_bytes r q) ≡ same_bytes a b

pub start : (a b r q : List ℕ) → r ≡ a → q ≡ b → length a ≡ length b → Compared a b r q 0
start a b r q e f h = record { long = ap length e ∙ h ∙ sym (ap length f); rest = λ i. same_bytes (e i) (f i) }

pub turn : (a b r q s t : List ℕ) (d x y : ℕ) → r ≡ x ∷ s → q ≡ y ∷ t → Compared a b r q d → Compared a b s t (bit_or d (bit_xor x y))
unfolding same_bytes
turn a b r q s t d x y e f c =
    let l : length s ≡ length t = omega (arith, ap length e, ap length f, c.long) in
    record { long = l; rest = rw (kept d x y, regroup) ((λ i. eqb d 0 && same_bytes (sym e i) (sym f i)) ∙ c.rest) }

all_true : (x : Bool) → (x && true) ≡ x
all_true true = refl
all_true false = refl

-- of two strings of one length both are empty where one is
none_left : (r q : List ℕ) → length r ≡ length q → (r ≡ []) ⊎ (q ≡ []) → same_bytes r q ≡ true
unfolding same_bytes
none_left [] [] l h = refl
none_left [] (y ∷ q) l h = absurd (omega arith)
none_left (x ∷ r) [] l h = absurd (omega arith)
none_left (x ∷ r) (y ∷ q) l h = ⊎_elim (λ (e : x ∷ r ≡ []). cc) (λ (e : y ∷ q ≡ []). cc) h

pub done : (a b r q : List ℕ) (d : ℕ) → (r ≡ []) ⊎ (q ≡ []) → Compared a b r q d → eqb d 0 ≡ same_bytes a b
done a b r q d h c = sym (all_true (eqb d 0)) ∙ rw (← none_left r q c.long h) c.rest
