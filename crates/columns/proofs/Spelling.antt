-- Laws of `specs/Hex.antt`, for what reads a text two digits at a time. Assumes nothing.
use Rattle.std.proofs.Common.{◌≡◌, ℕ, ◌+◌, ◌*◌, ◌/◌, ◌%◌, ◌<◌, ◌≤◌, Bool, true, false, ◌&&◌, List, [], ◌∷◌, ◌++◌, cond, Some, None, length, get_or, drop, refl, sym, ap, ◌∙◌, arith, tests, append_assoc, append-nil}
use Rattle.std.proofs.Math.Seq.{paste}
use Rattle.std.proofs.lemmas.List.Edits.{paste_all}
use Rattle.std.proofs.lemmas.Option.{cond_some, none-some}
use mathlib.Core.Bool.{false≢true}
use Rattle.columns.specs.Hex.{is_digit_of, digit, all_digits_of, bytes, paired, spells, fits, filled}

pub bytes_next : (t : List ℕ) → 2 ≤ length t → bytes t ≡ (digit (get_or t 0 0) * 16 + digit (get_or t 1 0)) ∷ bytes (drop 2 t)
unfolding bytes
bytes_next [] h = absurd (omega arith)
bytes_next (a ∷ []) h = absurd (omega arith)
bytes_next (a ∷ (b ∷ t)) h = refl

pub digits_next : (t : List ℕ) → 2 ≤ length t → all_digits_of t ≡ (is_digit_of (get_or t 0 0) && (is_digit_of (get_or t 1 0) && all_digits_of (drop 2 t)))
unfolding all_digits_of
digits_next [] h = absurd (omega arith)
digits_next (a ∷ []) h = absurd (omega arith)
digits_next (a ∷ (b ∷ t)) h = refl

pub bytes_none : (t : List ℕ) → length t < 2 → bytes t ≡ []
unfolding bytes
bytes_none [] h = refl
bytes_none (a ∷ []) h = refl
bytes_none (a ∷ (b ∷ t)) h = absurd (omega arith)

-- one step of the reading: two digits more are read, and what is behind them is left
pub read_on : (t r a b behind : List ℕ) (v : ℕ) → bytes t ≡ a ++ bytes r → 2 ≤ length r → v ≡ digit (get_or r 0 0) * 16 + digit (get_or r 1 0) → b ≡ a ++ v ∷ [] → behind ≡ drop 2 r → bytes t ≡ b ++ bytes behind
read_on t r a b behind v e h f g k = rw (k, g, append_assoc a (v ∷ []) (bytes (drop 2 r)), f, e, bytes_next r h) refl

pub digits_on : (t r behind : List ℕ) → all_digits_of t ≡ all_digits_of r → 2 ≤ length r → (is_digit_of (get_or r 0 0) && is_digit_of (get_or r 1 0)) ≡ true → behind ≡ drop 2 r → all_digits_of t ≡ all_digits_of behind
digits_on t r behind e h d k = e ∙ digits_next r h ∙ both (is_digit_of (get_or r 0 0)) (is_digit_of (get_or r 1 0)) (all_digits_of (drop 2 r)) d ∙ rw k refl
  where
    both : (x y z : Bool) → (x && y) ≡ true → (x && (y && z)) ≡ z
    both true true z q = refl
    both true false z q = absurd (false≢true q)
    both false y z q = absurd (false≢true q)

pub read_up : (t r a : List ℕ) → bytes t ≡ a ++ bytes r → length r ≡ 0 → bytes t ≡ a
read_up t r a e h = e ∙ ap (λ l. a ++ l) (bytes_none r (omega arith)) ∙ append-nil a

pub digits_none : (t : List ℕ) → length t ≡ 0 → all_digits_of t ≡ true
unfolding all_digits_of
digits_none [] h = refl
digits_none (a ∷ t) h = absurd (omega arith)

pub paired_undigit : (t : List ℕ) (n : ℕ) → all_digits_of t ≡ false → paired t n ≡ false
unfolding paired
paired_undigit t n h = grind (arith, tests)

pub paired_odd : (t : List ℕ) (n : ℕ) → length t % 2 ≡ 1 → paired t n ≡ false
unfolding paired
paired_odd t n h = grind (arith, tests)

pub paired_long : (t : List ℕ) (n : ℕ) → n < length t / 2 → paired t n ≡ false
unfolding paired
paired_long t n h = grind (arith, tests)

pub paired_good : (t : List ℕ) (n : ℕ) → length t % 2 ≡ 0 → all_digits_of t ≡ true → length t / 2 ≤ n → paired t n ≡ true
unfolding paired
paired_good t n e h k = grind (arith, tests)

pub fits_empty : (t : List ℕ) (n : ℕ) → length t ≡ 0 → fits t n ≡ false
unfolding fits spells
fits_empty t n h = grind (arith, tests)

pub fits_dash : (t : List ℕ) (n : ℕ) → length t ≡ 1 → get_or t 0 0 ≡ 45 → fits t n ≡ true
unfolding fits spells
fits_dash t n h e = grind (arith, tests)

pub fits_other : (t : List ℕ) (n : ℕ) → length t ≡ 1 → (get_or t 0 0 ≡ 45 → ⊥) → fits t n ≡ false
unfolding fits spells
fits_other t n h e = grind (arith, tests)

pub fits_pairs : (t : List ℕ) (n : ℕ) → 2 ≤ length t → fits t n ≡ paired t n
unfolding fits spells paired
fits_pairs t n h = grind (arith, tests)

pub length_bytes : (t : List ℕ) → length (bytes t) ≡ length t / 2
unfolding bytes
length_bytes [] = refl
length_bytes (a ∷ []) = refl
length_bytes (a ∷ (b ∷ t)) = let h : length (bytes t) ≡ length t / 2 = length_bytes t in omega arith

pub filled_some : (t out x : List ℕ) (n k : ℕ) → length out ≡ n → cond (fits t n) (Some (bytes t)) None ≡ Some x → k ≡ length x → x ++ drop k out ≡ filled t out
unfolding filled
filled_some t out x n k l e h =
    let q = cond_some (fits t n) (bytes t) x e in
    let m : length t / 2 ≡ k = sym (length_bytes t) ∙ ap length q.1 ∙ sym h in
    let from : 0 + length t / 2 ≡ k = omega arith in
    let p : paste out 0 (bytes t) (length t / 2) ≡ x ++ drop k out = paste_all out 0 (bytes t) (length t / 2) (sym (length_bytes t)) ∙ (λ j. q.1 j ++ drop (from j) out) in
    rw (l, q.0) (sym p)

pub filled_none : (t out : List ℕ) (n : ℕ) → length out ≡ n → cond (fits t n) (Some (bytes t)) None ≡ None → out ≡ filled t out
unfolding filled
filled_none t out n l e = rw l (go (fits t n) e)
  where
    go : (b : Bool) → cond b (Some (bytes t)) None ≡ None → out ≡ cond b (paste out 0 (bytes t) (length t / 2)) out
    go true h = absurd (none-some _ (sym h))
    go false h = refl

pub ruleset read_pairs = (bytes_next, read_up, digits_next, bytes_none, digits_none, paired_undigit, paired_odd, paired_long, paired_good)

pub ruleset read_whole = (bytes_none, fits_empty, fits_dash, fits_other, fits_pairs)
