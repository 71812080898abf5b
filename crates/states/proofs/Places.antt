-- What the tests of `locate`, and the slot of a drop's number, say of the definitions.
use Rattle.std.proofs.Common.{◌≡◌, ℕ, ◌+◌, ◌-◌, ◌^◌, ◌<◌, ◌≤◌, min, Bool, true, false, ltb, List, get_or, set, refl, sym, ap, ◌∙◌, subst, arith, le-ltb, lt-ltb, le-leb, ltb-true, ltb-false}
use borrow.Author.Tests.{lt-leb}
use Rattle.rules.specs.Position.{Place}
use Rattle.std.specs.Prelude.{Option, Some, None, SomeIff}
use Rattle.rules.specs.Connection.{located, value, stop, bump, slots, slot, count_at_lem, count_drop_of}
use Rattle.rules.proofs.CountLaws.{slot-below}
use Rattle.rules.specs.Answers.{place_answer, position_number}
use Rattle.rules.specs.Position.{wrapping_difference, position}
use Rattle.rules.proofs.PositionLaws.{place-answer}

-- d is the wrapping difference of s and the reference
module _ (reference s d : ℕ) (q : wrapping_difference s reference ≡ d) where
  pub ahead-at : d < 2 ^ 31 → reference + d < 2 ^ 64 → Some (reference + d) ≡ position reference s
  unfolding position
  ahead-at h k = simp (q, lt-ltb _ _ h, lt-ltb _ _ k, position)

  pub ahead-nowhere : d < 2 ^ 31 → 2 ^ 64 ≤ reference + d → None ≡ position reference s
  unfolding position
  ahead-nowhere h k = simp (q, lt-ltb _ _ h, le-ltb _ _ k, position)

  pub behind-at : 2 ^ 31 < d → 2 ^ 32 - d ≤ reference → d ≤ 2 ^ 32 → Some (reference - (2 ^ 32 - d)) ≡ position reference s
  unfolding position
  behind-at h k t = simp (q, le-ltb d (2 ^ 31) (omega arith), lt-ltb _ _ h, le-leb _ _ k, position) (ap Some (omega arith))

  pub behind-nowhere : 2 ^ 31 < d → reference < 2 ^ 32 - d → None ≡ position reference s
  unfolding position
  behind-nowhere h k = simp (q, le-ltb d (2 ^ 31) (omega arith), lt-ltb _ _ h, lt-leb _ _ k, position)

  pub half-nowhere : d ≡ 2 ^ 31 → None ≡ position reference s
  unfolding position
  half-nowhere h = simp (q, le-ltb d (2 ^ 31) (omega arith), le-ltb (2 ^ 31) d (omega arith), position)

  -- the number is there exactly where it fits
  pub ahead-is : (o : Option ℕ) → d < 2 ^ 31 → SomeIff o (reference + d < 2 ^ 64) (reference + d) → o ≡ position reference s
  ahead-is (Some x) h (k, e) = ap Some e ∙ ahead-at h k
  ahead-is None h n = ahead-nowhere h (omega arith)

  pub behind-is : (o : Option ℕ) → 2 ^ 31 < d → d ≤ 2 ^ 32 → SomeIff o (2 ^ 32 - d ≤ reference) (reference - (2 ^ 32 - d)) → o ≡ position reference s
  behind-is (Some x) h t (k, e) = ap Some e ∙ behind-at h k t
  behind-is None h t n = behind-nowhere h (omega arith)

-- what the slot of a number says of its count

-- a count that the library's sum stops
pub stopped : (n : ℕ) → n < 2 ^ 64 → min (n + 1) (2 ^ 64 - 1) ≡ bump n
stopped n h = go (ltb n stop) refl
  where
    go : (b : Bool) → ltb n stop ≡ b → min (n + 1) (2 ^ 64 - 1) ≡ bump n
    go true e = rw e (omega (arith, ltb-true n stop e))
    go false e = rw e (omega (arith, ltb-false n stop e))

pub counted-at : (n i : ℕ) {r : Place} → r ≡ slot n → r ≡ Some i → i < slots
counted-at n i p q =
    let e : slot n ≡ Some i = sym p ∙ q in
    subst (λ (k : ℕ). k < slots) (ap value e) (slot-below n (ap located e))

pub count-is : (n i v : ℕ) (ds : List ℕ) {r : Place} → r ≡ slot n → r ≡ Some i → v ≡ bump (get_or ds i 0) → set ds i v ≡ count_drop_of n ds
unfolding count_drop_of
count-is n i v ds p q e = ap (set ds i) e ∙ ap (λ (x : Place). count_at_lem x ds) (sym q ∙ p)

pub uncounted-is : (n : ℕ) (ds : List ℕ) {r : Place} → r ≡ slot n → r ≡ None → ds ≡ count_drop_of n ds
unfolding count_drop_of
uncounted-is n ds p q = ap (λ (x : Place). count_at_lem x ds) (sym q ∙ p)

-- what a position answers
pub numbered : (reference s : ℕ) {r : Place} → r ≡ position reference s
    → (r ≡ position reference s) × ((n : ℕ) → place_answer n r ≡ position_number n reference s)
numbered reference s e = (e, λ n. ap (place_answer n) e ∙ place-answer n (position reference s))
