-- Laws of `specs/Lines.antt`, for what cuts a text at a byte. Assumes nothing.
use Rattle.std.proofs.Common.{◌≡◌, ℕ, suc, ◌+◌, Bool, true, false, cond, not, eqb, ltb, Option, Some, None, List, length, take, drop, refl, sym, ap, ◌∙◌, arith, ltb-false}
use Rattle.std.proofs.lemmas.Option.{cond_some, none-some}
use Rattle.std.proofs.lemmas.List.Recursion.{is_position_or_len}
use Rattle.std.proofs.lemmas.List.Sums.{prefix_len-le-length}
use Rattle.std.specs.List.{position_or_len}
use Rattle.columns.specs.Lines.{before, column}

pub before_is : (b : ℕ) (s : List ℕ) → before b s ≡ position_or_len (λ x. eqb x b) s
unfolding before
before_is b s = is_position_or_len (before b) (λ x. eqb x b) refl (λ x xs. let e : suc (before b xs) ≡ 1 + before b xs = omega arith in ap (cond (eqb x b) 0) e) s

-- what `position` gives of the first b
abbrev pub place : (b : ℕ) (s : List ℕ) → Option ℕ
place b s = cond (ltb (position_or_len (λ x. eqb x b) s) (length s)) (Some (position_or_len (λ x. eqb x b) s)) None

pub place_found : (b : ℕ) (s : List ℕ) (i : ℕ) → place b s ≡ Some i → before b s ≡ i
place_found b s i e = before_is b s ∙ (cond_some _ _ _ e).1

pub place_none : (b : ℕ) (s : List ℕ) → place b s ≡ None → before b s ≡ length s
place_none b s e = rw (before_is b s) (go (ltb (position_or_len (λ x. eqb x b) s) (length s)) refl e)
  where
    go : (r : Bool) → ltb (position_or_len (λ x. eqb x b) s) (length s) ≡ r → cond r (Some (position_or_len (λ x. eqb x b) s)) None ≡ None → position_or_len (λ x. eqb x b) s ≡ length s
    go true q h = absurd (none-some _ (sym h))
    go false q h = omega (arith, ltb-false _ _ q, prefix_len-le-length (λ x. not (eqb x b)) s)

pub column-next : (k : ℕ) (s : List ℕ) → column (suc k) s ≡ column k (drop (suc (before 32 s)) s)
unfolding column
column-next k s = refl

pub column-last : (s : List ℕ) → column 0 s ≡ take (before 32 s) s
unfolding column
column-last s = refl
