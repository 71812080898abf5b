-- Numbers as text.
use Rattle.std.proofs.Common.{◌≡◌, ℕ, suc, ◌+◌, ◌-◌, ◌/◌, ◌%◌, ◌<◌, ◌≤◌, Bool, true, false, ltb, List, [], ◌∷◌, ◌++◌, length, drop, set, sym, refl, ap, ◌∙◌, append_assoc, append-nil, arith, length-set, drop-cons, get_or-set_same, drop-set-lt, ltb-true, le-ltb, lt-ltb}
use lib.Seq.{drop-length}
use Rattle.recording.specs.Lines.{digits, decimal}

-- one digit more, and the last one
digits_more : (k n : ℕ) → 10 ≤ n → digits (suc k) n ≡ digits k (n / 10) ++ ((48 + n % 10) ∷ [])
unfolding digits
digits_more k n h = rw (le-ltb n 10 h)

digits-one : (n : ℕ) → digits 1 n ≡ (48 + n % 10) ∷ []
unfolding digits
digits-one n = go (ltb n 10) refl
  where
    go : (b : Bool) → ltb n 10 ≡ b → digits 1 n ≡ (48 + n % 10) ∷ []
    go true e = let l = ltb-true n 10 e in rw e (ap (λ (x : ℕ). (48 + x) ∷ []) (let z : n ≡ n % 10 = omega arith in z))
    go false e = rw e

digits-small : (k n : ℕ) → n < 10 → digits (suc k) n ≡ (48 + n % 10) ∷ []
unfolding digits
digits-small k n h = rw (lt-ltb n 10 h) (ap (λ (x : ℕ). (48 + x) ∷ []) (let z : n ≡ n % 10 = omega arith in z))

-- a digit written before those that are there
drop-set : (l : List ℕ) (i a : ℕ) → i < length l → drop i (set l i a) ≡ a ∷ drop (suc i) l
drop-set l i a h =
    let s : length (set l i a) ≡ length l = length-set l i a in
    drop-cons (set l i a) i 0 (omega arith) ∙ (λ j. get_or-set_same l i a 0 h j ∷ drop-set-lt (suc i) l i a (omega arith) j)

-- what is left to write, and what is written, is the number
abbrev pub Written : ℕ → List ℕ → ℕ → ℕ → Type 0
Written n bytes i rest = (1 ≤ i) × (i ≤ 20) × (length bytes ≡ 20) × (decimal n ≡ digits i rest ++ drop i bytes)

pub none_written : (n : ℕ) (b : List ℕ) → length b ≡ 20 → Written n b 20 n
unfolding decimal
none_written n b l =
    let e : drop 20 b ≡ [] = ap (λ (k : ℕ). drop k b) (sym l) ∙ drop-length b in
    (omega arith, omega arith, l, sym (append-nil (digits 20 n)) ∙ ap (λ (z : List ℕ). digits 20 n ++ z) (sym e))

-- the i-th place from the front is the next
next_place : (n : ℕ) (b : List ℕ) (i rest : ℕ) → Written n b i rest → drop (i - 1) (set b (i - 1) (48 + rest % 10)) ≡ (48 + rest % 10) ∷ drop i b
next_place n b i rest w =
    let s : suc (i - 1) ≡ i = omega (arith, w.0) in
    drop-set b (i - 1) (48 + rest % 10) (omega (arith, w.0, w.1, w.2)) ∙ ap (λ (k : ℕ). (48 + rest % 10) ∷ drop k b) s

pub more-written : (n : ℕ) (b : List ℕ) (i rest : ℕ) → Written n b i rest → 1 < i → 10 ≤ rest → Written n (set b (i - 1) (48 + rest % 10)) (i - 1) (rest / 10)
more-written n b i rest w h r =
    let s : i ≡ suc (i - 1) = omega arith in
    let d : digits i rest ≡ digits (i - 1) (rest / 10) ++ ((48 + rest % 10) ∷ []) = ap (λ (k : ℕ). digits k rest) s ∙ digits_more (i - 1) rest r in (
      omega arith,
      omega (arith, w.1),
      length-set b (i - 1) (48 + rest % 10) ∙ w.2,
      w.3
          ∙ ap (λ (z : List ℕ). z ++ drop i b) d
          ∙ append_assoc (digits (i - 1) (rest / 10)) ((48 + rest % 10) ∷ []) (drop i b)
          ∙ ap (λ (z : List ℕ). digits (i - 1) (rest / 10) ++ z) (sym (next_place n b i rest w)),
    )

-- the last digit, where there is room for no other, or none is left
last-place : (n : ℕ) (b : List ℕ) (i rest : ℕ) → Written n b i rest → digits i rest ≡ (48 + rest % 10) ∷ []
    → (drop (i - 1) (set b (i - 1) (48 + rest % 10)) ≡ decimal n) × (i - 1 ≤ 20)
last-place n b i rest w h = (next_place n b i rest w ∙ sym (w.3 ∙ ap (λ (z : List ℕ). z ++ drop i b) h), omega (arith, w.1))

pub one_left : (n : ℕ) (b : List ℕ) (i rest : ℕ) → Written n b i rest → i ≤ 1 → (drop (i - 1) (set b (i - 1) (48 + rest % 10)) ≡ decimal n) × (i - 1 ≤ 20)
one_left n b i rest w h = let s : i ≡ 1 = omega (arith, w.0) in last-place n b i rest w (ap (λ (k : ℕ). digits k rest) s ∙ digits-one rest)

pub none_left : (n : ℕ) (b : List ℕ) (i rest : ℕ) → Written n b i rest → rest < 10 → (drop (i - 1) (set b (i - 1) (48 + rest % 10)) ≡ decimal n) × (i - 1 ≤ 20)
none_left n b i rest w h =
    let s : i ≡ suc (i - 1) = omega (arith, w.0) in
    last-place n b i rest w (ap (λ (k : ℕ). digits k rest) s ∙ digits-small (i - 1) rest h)
