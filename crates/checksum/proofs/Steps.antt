-- The steps of the code: it adds two words side by side, and numbers that stand for a sum in its place.
-- Assumes nothing.
use Prim.Native.Nat.{ℕ, zero, suc, ◌+◌, ◌*◌, ◌-◌, ◌%◌, ◌^◌, ◌<◌, ◌≤◌}
use mathlib.Core.Bool.{Bool, true, false, cond, not, beq}
use mathlib.Core.Path.{◌≡◌, refl, sym, ap, ◌∙◌, subst, subst⁻¹}
use mathlib.Core.List.{List, [], ◌∷◌, ◌++◌}
use native.Mathlib.Omega.{arith}
use lib.Dec.{eqb}
use lib.ListN.{length, get_or, take, drop}
use lib.Seq.{take_all}
use Rattle.octets.specs.Octets.{be32, get32, padded_of}
use Rattle.octets.specs.Each.{Octets}
use Rattle.checksum.specs.declared.Sum.{Sum}
use Rattle.checksum.specs.Checksum.{word}
use Rattle.checksum.specs.Running.{word_sum, after, folded, added}
use Rattle.checksum.proofs.FoldLaws.{folded-word, folded-same, folded-later, folded-high}
use Rattle.checksum.proofs.ChecksumLaws.{after-length}

-- two words side by side fold to their sum
side_by_side : (a b c d n : ℕ) → a < 256 → b < 256 → c < 256 → d < 256
    → folded (be32 a b c d + n) ≡ folded (word a b + word c d + n)
side_by_side a b c d n ha hb hc hd =
    ap folded (omega arith) ∙ folded-high (a * 256 + b) (c * 256 + d + n) ∙ ap folded (omega arith)

filled : (a b c d : ℕ) {n : ℕ} → a < 256 → b < 256 → c < 256 → d < 256 → n ≡ word a b + word c d → folded (be32 a b c d) ≡ folded n
filled a b c d ha hb hc hd e = ap folded (omega arith) ∙ side_by_side a b c d 0 ha hb hc hd ∙ ap folded (omega arith)

-- What is known in the loop over pairs of words, four octets each: the total and what is left make the whole, and `last` is what is left
-- in the end.
pub record Summing (s : List ℕ) (total : ℕ) (rest last : List ℕ) (size : ℕ) : Type 0 where
  pub sums : folded (total + word_sum false rest) ≡ folded (word_sum false s)
  pub ends : last ≡ drop (length rest - length rest % 4) rest
  pub octets : Octets rest
  pub fours : size ≡ 4

pub start : (s r last : List ℕ) (size : ℕ) → r ≡ s → Octets s → last ≡ drop (length s - length s % 4) s → size ≡ 4 → Summing s 0 r last size
start s r last size e o d z = subst⁻¹ (λ (l : List ℕ). Summing s 0 l last size) e (record { sums = ap folded (omega arith); ends = d; octets = o; fours = z })

-- one step: t stands for the total so far, v is the pair x
pub step : (s x r q last : List ℕ) (total t v m n : ℕ) → Summing s total r last m → n ≡ m → r ≡ x ++ q → length x ≡ m → folded t ≡ folded total
    → v ≡ get32 x 0 → Summing s (t + v) q last n
unfolding word_sum
step s (a ∷ b ∷ c ∷ d ∷ []) r q last total t v m n k z e h f g =
    let o : Octets (a ∷ b ∷ c ∷ d ∷ q) = subst Octets e k.octets in
    let w : word_sum false r ≡ word a b + word c d + word_sum false q = ap (word_sum false) e ∙ omega arith in
    let p : length (a ∷ b ∷ c ∷ d ∷ q) - length (a ∷ b ∷ c ∷ d ∷ q) % 4 ≡ suc (suc (suc (suc (length q - length q % 4)))) = omega arith in
    record {
      sums =
          ap folded (omega (arith, g))
          ∙ side_by_side a b c d (t + word_sum false q) (o 0) (o 1) (o 2) (o 3)
          ∙ ap folded (omega (arith, w))
          ∙ folded-same t total (word_sum false r) f
          ∙ k.sums;
      ends = k.ends ∙ ap (λ (l : List ℕ). drop (length l - length l % 4) l) e ∙ ap (λ (i : ℕ). drop i (a ∷ b ∷ c ∷ d ∷ q)) p;
      octets = λ i. o (suc (suc (suc (suc i))));
      fours = z ∙ k.fours;
    }
step s [] r q last total t v m n k z e h f g = absurd (omega (arith, k.fours))
step s (a ∷ []) r q last total t v m n k z e h f g = absurd (omega (arith, k.fours))
step s (a ∷ b ∷ []) r q last total t v m n k z e h f g = absurd (omega (arith, k.fours))
step s (a ∷ b ∷ c ∷ []) r q last total t v m n k z e h f g = absurd (omega (arith, k.fours))
step s (a ∷ b ∷ c ∷ d ∷ e₀ ∷ x) r q last total t v m n k z e h f g = absurd (omega (arith, k.fours))

-- the last step: v stands for what is left, t for the total so far
pub last_step : (s r last : List ℕ) (total t v m : ℕ) → Summing s total r last m → length r < m → folded t ≡ folded total
    → folded v ≡ folded (word_sum false last) → folded (t + v) ≡ folded (word_sum false s)
last_step s r last total t v m k h e f =
    let n : length r - length r % 4 ≡ 0 = omega (arith, k.fours) in
    let l : last ≡ r = k.ends ∙ ap (λ (i : ℕ). drop i r) n in
    folded-same t total v e ∙ folded-later total v (word_sum false r) (f ∙ ap (λ (i : List ℕ). folded (word_sum false i)) l) ∙ k.sums

-- at most four octets, and zeros for those that are missing
pub padded : (s : List ℕ) → Octets s → length s ≤ 4 → folded (get32 (padded_of 4 s) 0) ≡ folded (word_sum false s)
unfolding word_sum
padded [] o h = refl
padded (a ∷ []) o h = filled a 0 0 0 (o 0) (omega arith) (omega arith) (omega arith) (omega arith)
padded (a ∷ b ∷ []) o h = filled a b 0 0 (o 0) (o 1) (omega arith) (omega arith) (omega arith)
padded (a ∷ b ∷ c ∷ []) o h = filled a b c 0 (o 0) (o 1) (o 2) (omega arith) (omega arith)
padded (a ∷ b ∷ c ∷ d ∷ []) o h = filled a b c d (o 0) (o 1) (o 2) (o 3) (omega arith)
padded (a ∷ b ∷ c ∷ d ∷ e ∷ s) o h = absurd (omega arith)

-- no piece at all
pub none : (s : List ℕ) (odd : Bool) (sum : ℕ) → length s ≡ 0 → sum < 2 ^ 16 → sum ≡ folded (sum + word_sum odd s)
unfolding word_sum
none [] odd sum e h = sym (ap folded (omega arith) ∙ folded-word sum h)
none (b ∷ s) odd sum e h = absurd (omega arith)

-- a piece that begins with a word's second octet: that octet, and v stands for the rest
pub half : (s : List ℕ) (sum v : ℕ) → Octets s → 1 ≤ length s → folded v ≡ folded (word_sum false (take (length s - 1) (drop 1 s)))
    → folded (sum + get_or s 0 0 + v) ≡ folded (sum + word_sum true s)
unfolding word_sum
half [] sum v o h e = absurd (omega arith)
half (b ∷ s) sum v o h e =
    let l : take (length (b ∷ s) - 1) s ≡ s = take_all (length (b ∷ s) - 1) s (omega arith) in
    folded-later (sum + b) v (word_sum false s) (e ∙ ap (λ (r : List ℕ). folded (word_sum false r)) l) ∙ ap folded (omega (arith, o 0))

-- inside a word an odd number of octets ends outside, and the other way round
flips : (n : ℕ) (odd : Bool) → not (beq odd (eqb (n % 2) 1)) ≡ eqb (n % 2) (cond odd 0 1)
flips n odd = go (n % 2) odd (omega arith) where
  go : (r : ℕ) (b : Bool) → r < 2 → not (beq b (eqb r 1)) ≡ eqb r (cond b 0 1)
  go zero true h = refl
  go zero false h = refl
  go (suc zero) true h = refl
  go (suc zero) false h = refl
  go (suc (suc r)) b h = absurd (omega arith)

-- a sum under way, whose new sum is v
pub both : (s : Sum) (l : List ℕ) (v : ℕ) (odd : Bool) → s.odd ≡ odd → v ≡ folded (s.sum + word_sum odd l)
    → record { sum = v; odd = not (beq s.odd (eqb (length l % 2) 1)) } ≡ added s l
both s l v odd e f = λ i. record { sum = p i; odd = q i }
  where
    p : v ≡ folded (s.sum + word_sum s.odd l)
    p = f ∙ ap (λ (b : Bool). folded (s.sum + word_sum b l)) (sym e)

    q : not (beq s.odd (eqb (length l % 2) 1)) ≡ after s.odd l
    q = flips (length l) s.odd ∙ sym (after-length s.odd l)
