-- The checksum that signing writes is the definition's: it is computed over the pseudo-header, the data and then the header, with zeros
-- behind it. Assumes nothing.
use Prim.Native.Nat.{ℕ, zero, suc, ◌+◌, ◌%◌, ◌≤◌}
use mathlib.Core.Bool.{Bool, true, false}
use mathlib.Core.Path.{◌≡◌, refl, sym, ap, ap₂, ◌∙◌}
use mathlib.Core.List.{List, [], ◌∷◌, ◌++◌, append_assoc}
use native.Mathlib.Omega.{arith}
use lib.ListN.{length, take, drop, replicate}
use lib.Seq.{take_at, take-append-le, drop-append-le}
use Rattle.octets.specs.Octets.{bytes16}
use Rattle.checksum.specs.declared.Sum.{Sum}
use Rattle.checksum.specs.Checksum.{ones_sum, complement, checksum_of, replaced, checksummed}
use Rattle.checksum.specs.Running.{word_sum, after, folded, begun, added, padded}
use Rattle.checksum.proofs.ChecksumLaws.{sum-append, added-last, length-replaced}
use Rattle.tcpao.specs.SignBegin.{checked_header}

abbrev zeros : ℕ → List ℕ
zeros n = replicate n 0

-- zeros count nothing
sum_zeros : (odd : Bool) (n : ℕ) → word_sum odd (zeros n) ≡ 0
unfolding word_sum
sum_zeros odd zero = refl
sum_zeros false (suc n) = omega (arith, sum_zeros true n)
sum_zeros true (suc n) = omega (arith, sum_zeros false n)

zeros-behind : (u : Sum) (h : List ℕ) (n : ℕ) → (added u (h ++ zeros n)).sum ≡ (added u h).sum
zeros-behind u h n = ap folded (omega (arith, sum-append u.odd h (zeros n), sum_zeros (after u.odd h) n))

-- octets replaced in what stands in front
replaced-front : (at : ℕ) (l a b : List ℕ) → at + length l ≤ length a → replaced at l (a ++ b) ≡ replaced at l a ++ b
replaced-front at l a b h =
    ap₂ (λ (x y : List ℕ). x ++ (l ++ y)) (take-append-le at a b (omega arith)) (drop-append-le (at + length l) a b h)
    ∙ ap (λ (x : List ℕ). take at a ++ x) (sym (append_assoc l (drop (at + length l) a) b))
    ∙ sym (append_assoc (take at a) (l ++ drop (at + length l) a) b)

-- the pseudo-header p, the header h with zeros for its checksum, the data d
module _ (p h d : List ℕ) (even : length p % 2 ≡ 0) (words : length h % 2 ≡ 0) (long : 18 ≤ length h)
    (blank : replaced 16 (0 ∷ 0 ∷ []) h ≡ h) where
  sum_is : (n : ℕ) {u : Sum} → u ≡ added (added begun p) d
      → complement (added (padded u) (h ++ zeros n)).sum ≡ checksum_of (p ++ replaced 16 (0 ∷ 0 ∷ []) (h ++ d))
  unfolding checksum_of
  sum_is n {u = u} is =
      let clear : replaced 16 (0 ∷ 0 ∷ []) (h ++ d) ≡ h ++ d =
      replaced-front 16 (0 ∷ 0 ∷ []) h d long ∙ ap (λ (l : List ℕ). l ++ d) blank in
      ap complement
      (zeros-behind (padded u) h n ∙ ap (λ (v : Sum). (added (padded v) h).sum) is ∙ added-last p h d even words
      ∙ ap (λ (l : List ℕ). ones_sum (p ++ l)) (sym clear))

  put : (c n : ℕ) → take (length h) (take 16 (h ++ zeros n) ++ bytes16 c ++ drop 18 (h ++ zeros n)) ++ d ≡ replaced 16 (bytes16 c) (h ++ d)
  put c n =
      ap (λ (l : List ℕ). take (length h) l ++ d)
      (append_assoc (take 16 (h ++ zeros n)) (bytes16 c) (drop 18 (h ++ zeros n)) ∙ replaced-front 16 (bytes16 c) h (zeros n) long)
      ∙ ap (λ (l : List ℕ). l ++ d)
      (take_at (replaced 16 (bytes16 c) h) (zeros n) (length h) (length-replaced 16 (bytes16 c) h long))
      ∙ sym (replaced-front 16 (bytes16 c) h d long)

  pub checked-is : (n : ℕ) {u : Sum} → u ≡ added (added begun p) d
      → take (length h) (checked_header (h ++ zeros n) u) ++ d ≡ checksummed 16 p (h ++ d)
  unfolding checksummed
  checked-is n {u = u} is =
      put (complement (added (padded u) (h ++ zeros n)).sum) n ∙ ap (λ (c : ℕ). replaced 16 (bytes16 c) (h ++ d)) (sum_is n is)
