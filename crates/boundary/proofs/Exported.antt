-- What a call's answer and a lent buffer come to, by the length of the state buffer b. The call below returns a value of the type J: `of`
-- is its answer, `bytes` what it leaves in the state buffer. Assumes nothing.
use Rattle.std.specs.Prelude.{ℕ, ◌≡◌, refl, Bool, true, false, cond, not, List, length, Result, Ok, Err}
use Rattle.std.proofs.Common.{sym, ap, ◌∙◌, eqb-true}
use borrow.Author.Tests.{eq-eqb, ne_eqb, eqb-false, not-true, not-false}
use Rattle.tables.specs.declared.Refusal.{Refusal}
use Rattle.rules.specs.Answers.{Answer, answer}
use Rattle.rules.specs.Connection.{empty}
use Rattle.rules.specs.Results.{settled_as}
use Rattle.rules.specs.declared.State.{State}
use Rattle.states.specs.Layout.{is_state_of, state_bytes, encode_of}
use Rattle.boundary.specs.Word.{word, of_settled}
use Rattle.boundary.specs.Exports.{answered, changed, opens, left_by, leaves}

-- a buffer of another length, and one of a state's
pub unchanged : (b x y : List ℕ) → (length b ≡ state_bytes → ⊥) → y ≡ changed b x y
unfolding changed
unchanged b x y h = rw (ne_eqb _ _ h) refl

pub made : (b x y : List ℕ) → length b ≡ state_bytes → x ≡ changed b x y
unfolding changed
made b x y h = rw (eq-eqb _ _ h) refl

pub other : (b : List ℕ) (r : Bool) → r ≡ is_state_of b → not r ≡ true → length b ≡ state_bytes → ⊥
other b r e h = eqb-false (length b) state_bytes (sym e ∙ not-true r h)

pub whole : (b : List ℕ) (r : Bool) → r ≡ is_state_of b → not r ≡ false → length b ≡ state_bytes
whole b r e h = eqb-true (length b) state_bytes (sym e ∙ not-false r h)

module _ {J : Type 0} (of : J → Answer) (bytes : J → List ℕ) (b : List ℕ) (k : J) where
  pub refused : (r : ℕ) → (length b ≡ state_bytes → ⊥) → r ≡ word (answer 18 0) → (r ≡ answered b (of k)) × (b ≡ changed b (bytes k) b)
  unfolding answered
  refused r h e = (rw (ne_eqb _ _ h) e, unchanged b (bytes k) b h)

  pub done : (j : J) (r : ℕ) (x : List ℕ) → length b ≡ state_bytes → j ≡ k → r ≡ word (of j) → x ≡ bytes j
      → (r ≡ answered b (of k)) × (x ≡ changed b (bytes k) b)
  unfolding answered
  done j r x h p e q = (rw (eq-eqb _ _ h) (e ∙ ap (λ (i : J). word (of i)) p), q ∙ (ap bytes p ∙ made b (bytes k) b h))

-- both as an export
pub left : {r s : ℕ} {x y : List ℕ} → (r ≡ s) × (x ≡ y) → leaves r x ≡ leaves s y
left p = λ i. leaves (p.0 i) (p.1 i)

-- An opening, or the operator's call, beside the state q that was there: the answer does not speak of q, the buffer is left as the
-- exports say where the call writes only what it opens, and where it writes back what it was given.

pub alike : (q : State) (r : Result State Refusal) → of_settled (settled_as empty r) ≡ of_settled (settled_as q r)
alike q (Ok s) = refl
alike q (Err e) = refl

pub opened : (b : List ℕ) (r : Result State Refusal)
    → left_by b r ≡ cond (opens (settled_as empty r).answer) (encode_of (settled_as empty r).state) b
opened b (Ok s) = refl
opened b (Err e) = refl

pub held : (b : List ℕ) (q : State) (r : Result State Refusal) → encode_of q ≡ b → left_by b r ≡ encode_of (settled_as q r).state
held b q (Ok s) h = refl
held b q (Err e) h = sym h
