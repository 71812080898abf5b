-- Laws of `folded`, over plain numbers: end-around carry is addition modulo 65535 in which only 0 is 0.
-- Assumes nothing.
use Rattle.std.specs.Prelude.{ℕ, zero, suc, ◌+◌, ◌*◌, ◌-◌, ◌%◌, ◌^◌, ◌<◌, ◌≡◌, refl}
use Rattle.std.proofs.Common.{sym, ap, ◌∙◌, arith, ne_eqb}
use Rattle.checksum.specs.Checksum.{ones_add}
use Rattle.checksum.specs.Running.{folded}

-- what it is, in its two cases
pub folded-zero : folded 0 ≡ 0
unfolding folded
folded-zero = refl

pub folded_more : (n : ℕ) → 0 < n → folded n ≡ 1 + (n - 1) % 65535
unfolding folded
folded_more n h = rw (ne_eqb n 0 (λ e. omega arith))

-- it has sixteen bits, and keeps a word as it is
pub folded-below : (n : ℕ) → folded n < 2 ^ 16
folded-below zero = omega (arith, folded-zero)
folded-below (suc n) = omega (arith, folded_more (suc n) (omega arith))

pub folded-word : (w : ℕ) → w < 2 ^ 16 → folded w ≡ w
folded-word zero h = folded-zero
folded-word (suc w) h = omega (arith, folded_more (suc w) (omega arith))

-- FFFF comes of the multiples of it, but not of 0
pub full-folded : (n : ℕ) → folded n ≡ 65535 → (0 < n) × (n % 65535 ≡ 0)
full-folded zero e = absurd (omega (arith, folded-zero))
full-folded (suc n) e = let f = folded_more (suc n) (omega arith) in (omega arith, omega arith)

pub folded-full : (n : ℕ) → 0 < n → n % 65535 ≡ 0 → folded n ≡ 65535
folded-full n h e = omega (arith, folded_more n h)

-- one addition with end-around carry, over plain numbers
carried : (w n r : ℕ) → w < 2 ^ 16 → r ≡ 1 + n % 65535 → ones_add w r ≡ 1 + (w + n) % 65535
carried w n r h e = omega arith

-- a word added so to what is folded is a word added before folding
pub add-folded : (w n : ℕ) → w < 2 ^ 16 → ones_add w (folded n) ≡ folded (w + n)
add-folded w zero h = ap (ones_add w) folded-zero ∙ omega (arith, folded-word (w + 0) (omega arith))
add-folded w (suc n) h =
    carried w n (folded (suc n)) h (omega (arith, folded_more (suc n) (omega arith))) ∙ omega (arith, folded_more (w + suc n) (omega arith))

-- a part that is folded first changes nothing
pub folded-again : (m n : ℕ) → folded (folded m + n) ≡ folded (m + n)
folded-again zero n = ap (λ (k : ℕ). folded (k + n)) folded-zero
folded-again (suc m) n =
    let f = folded_more (suc m) (omega arith) in
    let g = folded_more (folded (suc m) + n) (omega arith) in
    let h = folded_more (suc m + n) (omega arith) in
    omega arith

-- so a part may be any number that folds to the same
pub folded-same : (m n k : ℕ) → folded m ≡ folded n → folded (m + k) ≡ folded (n + k)
folded-same m n k e = sym (folded-again m k) ∙ ap (λ (f : ℕ). folded (f + k)) e ∙ folded-again n k

pub folded-later : (k m n : ℕ) → folded m ≡ folded n → folded (k + m) ≡ folded (k + n)
folded-later k m n e = ap folded (omega arith) ∙ folded-same m n k e ∙ ap folded (omega arith)

-- what stands above sixteen bits counts as if it stood below
pub folded-high : (h n : ℕ) → folded (65536 * h + n) ≡ folded (h + n)
folded-high zero n = refl
folded-high (suc h) n =
    omega (arith, folded_more (65536 * suc h + n) (omega arith), folded_more (suc h + n) (omega arith))
