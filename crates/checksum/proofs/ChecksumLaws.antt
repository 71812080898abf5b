-- Laws of the checksum: the sum in closed form, over pieces, and with its field written.
-- Assumes nothing.
use Prim.Native.Nat.{ℕ, zero, suc, ◌+◌, ◌-◌, ◌/◌, ◌%◌, ◌^◌, ◌<◌, ◌≤◌}
use Rattle.std.specs.Prelude.{Bool, true, cond, ◌≡◌, length, get_or, take, eqb}
use Rattle.std.proofs.Math.Bool.{false}
use Rattle.std.proofs.Math.Path.{refl, ap}
use Rattle.std.proofs.Common.{sym, ◌∙◌, arith, length-append, length-drop, length-take-le, take_at, drop_at, eqb-true, eq-eqb, ne_eqb}
use mathlib.Core.List.{List, [], ◌∷◌, ◌++◌, append_assoc}
use Rattle.std.proofs.Math.ListN.{drop}
use Rattle.std.proofs.lemmas.Bool.{eqb-false}
use Rattle.octets.specs.Octets.{bytes16}
use Rattle.checksum.specs.declared.Sum.{Sum}
use Rattle.checksum.specs.Checksum.{word, ones_add, ones_sum, complement, checksum_of, replaced, checksummed}
use Rattle.checksum.specs.Running.{word_sum, after, folded, begun, added, padded}
use Rattle.checksum.proofs.FoldLaws.{folded_more, folded-below, folded-word, full-folded, folded-full, add-folded, folded-again}

-- The closed form: 0 where every word is 0, else 1 + (S - 1) mod 65535 of the plain sum S.

word_below : (a b : ℕ) → word a b < 2 ^ 16
word_below a b = omega arith

pub ones-folded : (l : List ℕ) → ones_sum l ≡ folded (word_sum false l)
unfolding ones_sum word_sum
ones-folded [] = sym (folded-word 0 (omega arith))
ones-folded (z ∷ []) = sym (ap folded (omega arith) ∙ folded-word (ones_sum (z ∷ [])) (omega arith))
ones-folded (a ∷ b ∷ l) =
    ap (ones_add (word a b)) (ones-folded l) ∙ add-folded (word a b) (word_sum false l) (word_below a b) ∙ ap folded (omega arith)

pub ones-closed : (l : List ℕ) → 0 < word_sum false l → ones_sum l ≡ 1 + (word_sum false l - 1) % 65535
ones-closed l h = ones-folded l ∙ folded_more (word_sum false l) h

pub ones_below : (l : List ℕ) → ones_sum l < 2 ^ 16
ones_below l = omega (arith, ones-folded l, folded-below (word_sum false l))

-- FFFF: "all 1 bits"
pub full-sum : (l : List ℕ) → ones_sum l ≡ 65535 → (0 < word_sum false l) × (word_sum false l % 65535 ≡ 0)
full-sum l e = full-folded (word_sum false l) (sym (ones-folded l) ∙ e)

pub sum-full : (l : List ℕ) → 0 < word_sum false l → word_sum false l % 65535 ≡ 0 → ones_sum l ≡ 65535
sum-full l h e = ones-folded l ∙ folded-full (word_sum false l) h e

pub checksum-below : (l : List ℕ) → checksum_of l < 2 ^ 16
unfolding checksum_of
checksum-below l = omega arith

-- a sum FFFF has the checksum 0000
pub checksum-zero : (l : List ℕ) → ones_sum l ≡ 65535 → checksum_of l ≡ 0
unfolding checksum_of
checksum-zero l e = omega arith

-- RFC 1071 §3: the sum of 00 01 f2 03 f4 f5 f6 f7 is dd f2
example-sum : ones_sum (0x00 ∷ 0x01 ∷ 0xf2 ∷ 0x03 ∷ 0xf4 ∷ 0xf5 ∷ 0xf6 ∷ 0xf7 ∷ []) ≡ 0xddf2
unfolding ones_sum
example-sum = refl

-- Pieces.

pub sum-append : (odd : Bool) (a b : List ℕ) → word_sum odd (a ++ b) ≡ word_sum odd a + word_sum (after odd a) b
unfolding word_sum after
sum-append odd [] b = omega arith
sum-append false (x ∷ a) b = omega (arith, sum-append true a b)
sum-append true (x ∷ a) b = omega (arith, sum-append false a b)

pub after-append : (odd : Bool) (a b : List ℕ) → after odd (a ++ b) ≡ after (after odd a) b
unfolding after
after-append odd [] b = refl
after-append false (x ∷ a) b = after-append true a b
after-append true (x ∷ a) b = after-append false a b

-- which half of a word comes next, by the length
other_half : (n a b : ℕ) → a + b ≡ 1 → eqb (n % 2) a ≡ eqb (suc n % 2) b
other_half n a b h = go (eqb (n % 2) a) refl
  where
    go : (t : Bool) → eqb (n % 2) a ≡ t → eqb (n % 2) a ≡ eqb (suc n % 2) b
    go true e = let k = eqb-true (n % 2) a e in e ∙ sym (eq-eqb (suc n % 2) b (omega arith))
    go false e = e ∙ sym (ne_eqb (suc n % 2) b (λ k. eqb-false (n % 2) a e (omega arith)))

pub after-length : (odd : Bool) (l : List ℕ) → after odd l ≡ eqb (length l % 2) (cond odd 0 1)
unfolding after
after-length false [] = refl
after-length true [] = refl
after-length false (x ∷ l) = after-length true l ∙ other_half (length l) 0 1 refl
after-length true (x ∷ l) = after-length false l ∙ other_half (length l) 1 0 refl

pub after-even : (odd : Bool) (l : List ℕ) → length l % 2 ≡ 0 → after odd l ≡ odd
unfolding after
after-even odd [] e = refl
after-even odd (x ∷ []) e = absurd (omega arith)
after-even false (x ∷ y ∷ l) e = after-even false l (omega arith)
after-even true (x ∷ y ∷ l) e = after-even true l (omega arith)

-- pieces one after another are the pieces joined, for every value of a sum
pub added-append : (s : Sum) (a b : List ℕ) → added (added s a) b ≡ added s (a ++ b)
added-append s a b = λ i. record { sum = joined i; odd = sym (after-append s.odd a b) i }
  where
    joined : (added (added s a) b).sum ≡ (added s (a ++ b)).sum
    joined =
        folded-again (s.sum + word_sum s.odd a) (word_sum (after s.odd a) b)
        ∙ ap folded (omega (arith, sum-append s.odd a b))

-- and from the start they are RFC 1071's sum
pub added-all : (l : List ℕ) → (added begun l).sum ≡ ones_sum l
added-all l = ap folded (omega arith) ∙ sym (ones-folded l)

pub checksum-all : (l : List ℕ) → complement (added begun l).sum ≡ checksum_of l
unfolding checksum_of
checksum-all l = ap complement (added-all l)

-- a piece that begins a word
pub sum-even : (a b : List ℕ) → length a % 2 ≡ 0 → word_sum false (a ++ b) ≡ word_sum false a + word_sum false b
sum-even a b e = sum-append false a b ∙ ap (λ (odd : Bool). word_sum false a + word_sum odd b) (after-even false a e)

-- so pieces of even lengths may come last: of p, h and d in this order, where h is added behind d
pub added-last : (p h d : List ℕ) → length p % 2 ≡ 0 → length h % 2 ≡ 0
    → (added (padded (added (added begun p) d)) h).sum ≡ ones_sum (p ++ (h ++ d))
added-last p h d e f =
    ap (λ (s : Sum). folded (s.sum + word_sum false h)) (added-append begun p d)
    ∙ folded-again (0 + word_sum false (p ++ d)) (word_sum false h)
    ∙ ap folded (omega (arith, sum-even p d e, sum-even p (h ++ d) e, sum-even h d f))
    ∙ sym (ones-folded (p ++ (h ++ d)))

-- one octet that is not 0 is enough
pub sum-positive : (odd : Bool) (l : List ℕ) (i : ℕ) → 0 < get_or l i 0 % 256 → 0 < word_sum odd l
unfolding word_sum
sum-positive odd [] i h = absurd (omega arith)
sum-positive false (b ∷ l) zero h = omega arith
sum-positive true (b ∷ l) zero h = omega arith
sum-positive false (b ∷ l) (suc i) h = omega (arith, sum-positive true l i h)
sum-positive true (b ∷ l) (suc i) h = omega (arith, sum-positive false l i h)

-- Octets replaced, inside s: what stands around them stays.

module _ (at : ℕ) (l s : List ℕ) (inside : at + length l ≤ length s) where
  front : length (take at s) ≡ at
  front = length-take-le at s (omega arith)

  pub take-replaced : take at (replaced at l s) ≡ take at s
  take-replaced = take_at (take at s) (l ++ drop (at + length l) s) at front

  pub drop-replaced : drop (at + length l) (replaced at l s) ≡ drop (at + length l) s
  drop-replaced =
      ap (drop (at + length l)) (sym (append_assoc (take at s) l (drop (at + length l) s)))
      ∙ drop_at (take at s ++ l) (drop (at + length l) s) (at + length l) (omega (arith, length-append (take at s) l, front))

  pub length-replaced : length (replaced at l s) ≡ length s
  length-replaced =
      let a = length-append (take at s) (l ++ drop (at + length l) s) in
      let b = length-append l (drop (at + length l) s) in
      omega (arith, a, b, front, length-drop (at + length l) s)

-- replaced again by as many, only the last are there
pub replaced-again : (at : ℕ) (l m s : List ℕ) → length m ≡ length l → at + length l ≤ length s
    → replaced at m (replaced at l s) ≡ replaced at m s
replaced-again at l m s e inside = λ i. take-replaced at l s inside i ++ (m ++ rest i)
  where
    rest : drop (at + length m) (replaced at l s) ≡ drop (at + length m) s
    rest = rw e (drop-replaced at l s inside)

-- The checksum's field, at an even place behind an even number of octets.

-- the octets of a word make it again
pub word-octets : (x : ℕ) → x < 2 ^ 16 → word (x / 2 ^ 8 % 256) (x % 256) ≡ x
word-octets x h =
    let low : x % 256 % 256 ≡ x % 256 = omega arith in
    let high : x / 2 ^ 8 % 256 % 256 ≡ x / 2 ^ 8 = omega arith in
    omega arith

-- what the complement x of a sum n, with its carries brought back, adds makes it a multiple of FFFF
completed : (n x : ℕ) → 0 < n → x ≡ 65535 - folded n → (n + word (x / 2 ^ 8 % 256) (x % 256)) % 65535 ≡ 0
completed n x h e =
    let w = word-octets x (omega arith) in
    let m : (n + x) % 65535 ≡ 0 = omega (arith, folded_more n h) in
    ap (λ (k : ℕ). (n + k) % 65535) w ∙ m

-- what is written is no longer, and another pair of octets takes its place
module _ (at : ℕ) (before s : List ℕ) (inside : at + 2 ≤ length s) where
  pub length-checksummed : length (checksummed at before s) ≡ length s
  unfolding checksummed
  length-checksummed = length-replaced at (bytes16 (checksum_of (before ++ replaced at (0 ∷ 0 ∷ []) s))) s inside

  pub replaced-checksummed : (c d : ℕ) → replaced at (c ∷ d ∷ []) (checksummed at before s) ≡ replaced at (c ∷ d ∷ []) s
  unfolding checksummed
  replaced-checksummed c d =
      replaced-again at (bytes16 (checksum_of (before ++ replaced at (0 ∷ 0 ∷ []) s))) (c ∷ d ∷ []) s refl inside

module _ (at : ℕ) (before s : List ℕ) (even : length before % 2 ≡ 0) (place : at % 2 ≡ 0) (inside : at + 2 ≤ length s) where
  around : (l : List ℕ) → word_sum false (before ++ (take at s ++ l)) ≡ word_sum false before + word_sum false (take at s) + word_sum false l
  around l =
      let n : length (take at s) % 2 ≡ 0 = omega (arith, length-take-le at s (omega arith)) in
      omega (arith, sum-even before (take at s ++ l) even, sum-even (take at s) l n)

  -- the sum with any two octets in the field: the sum with zeros in it, and their word more
  pub field-sum : (c d : ℕ)
      → word_sum false (before ++ replaced at (c ∷ d ∷ []) s) ≡ word_sum false (before ++ replaced at (0 ∷ 0 ∷ []) s) + word c d
  unfolding word_sum
  field-sum c d = omega (arith, around (c ∷ d ∷ drop (at + 2) s), around (0 ∷ 0 ∷ drop (at + 2) s))

  -- "If the result is all 1 bits .., the check succeeds": it does for the checksum generated, whatever stood in the field
  pub checksummed-right : 0 < word_sum false before → ones_sum (before ++ checksummed at before s) ≡ 65535
  unfolding checksummed checksum_of
  checksummed-right h =
      let z : List ℕ = before ++ replaced at (0 ∷ 0 ∷ []) s in
      let x : ℕ = checksum_of z in
      let n : 0 < word_sum false z = omega (arith, around (0 ∷ 0 ∷ drop (at + 2) s)) in
      let e : x ≡ 65535 - folded (word_sum false z) = ap (λ (k : ℕ). 65535 - k) (ones-folded z) in
      let f = field-sum (x / 2 ^ 8 % 256) (x % 256) in
      sum-full (before ++ replaced at (bytes16 x) s) (omega (arith, f)) (ap (λ (k : ℕ). k % 65535) f ∙ completed (word_sum false z) x n e)
