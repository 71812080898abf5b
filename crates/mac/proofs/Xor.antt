-- XOR is associative: the lowest binary digit, and the rest by induction. Assumes nothing.
use Rattle.std.proofs.Common.{◌≡◌, ℕ, zero, suc, ◌+◌, ◌/◌, ◌%◌, ◌^◌, ◌<◌, ◌≤◌, sym, refl, ap, ◌∙◌, arith}
use lib.Bits.{bit_xor, xor_comm, xor_shr, xor_mod}

digits : (a b c : ℕ) → a < 2 → b < 2 → c < 2 → bit_xor (bit_xor a b) c ≡ bit_xor a (bit_xor b c)
digits zero b c p q r = refl
digits (suc zero) zero c p q r = refl
digits (suc zero) (suc zero) zero p q r = refl
digits (suc zero) (suc zero) (suc zero) p q r = refl
digits (suc zero) (suc zero) (suc (suc c)) p q r = absurd (omega arith)
digits (suc zero) (suc (suc b)) c p q r = absurd (omega arith)
digits (suc (suc a)) b c p q r = absurd (omega arith)

same : (x y : ℕ) → x / 2 ^ 1 ≡ y / 2 ^ 1 → x % 2 ^ 1 ≡ y % 2 ^ 1 → x ≡ y
same x y p q = omega arith

assoc-to : (n a b c : ℕ) → a ≤ n → b ≤ n → c ≤ n → bit_xor (bit_xor a b) c ≡ bit_xor a (bit_xor b c)
assoc-to zero a b c p q r =
    let x : a ≡ 0 = omega arith in
    let y : b ≡ 0 = omega arith in
    let z : c ≡ 0 = omega arith in (λ i. bit_xor (bit_xor (x i) (y i)) (z i)) ∙ (λ i. bit_xor (sym x i) (bit_xor (sym y i) (sym z i)))
assoc-to (suc n) a b c p q r =
    same (bit_xor (bit_xor a b) c) (bit_xor a (bit_xor b c))
    (xor_shr (bit_xor a b) c 1 ∙ ap (λ (x : ℕ). bit_xor x (c / 2 ^ 1)) (xor_shr a b 1)
    ∙ assoc-to n (a / 2 ^ 1) (b / 2 ^ 1) (c / 2 ^ 1) (omega arith) (omega arith) (omega arith)
    ∙ sym (xor_shr a (bit_xor b c) 1 ∙ ap (λ (x : ℕ). bit_xor (a / 2 ^ 1) x) (xor_shr b c 1)))
    (xor_mod (bit_xor a b) c 1 ∙ ap (λ (x : ℕ). bit_xor x (c % 2 ^ 1)) (xor_mod a b 1)
    ∙ digits (a % 2 ^ 1) (b % 2 ^ 1) (c % 2 ^ 1) (omega arith) (omega arith) (omega arith)
    ∙ sym (xor_mod a (bit_xor b c) 1 ∙ ap (λ (x : ℕ). bit_xor (a % 2 ^ 1) x) (xor_mod b c 1)))

assoc : (a b c : ℕ) → bit_xor (bit_xor a b) c ≡ bit_xor a (bit_xor b c)
assoc a b c = assoc-to (a + b + c) a b c (omega arith) (omega arith) (omega arith)

-- the first of four goes last
pub around : (a b c d : ℕ) → bit_xor (bit_xor (bit_xor a b) c) d ≡ bit_xor (bit_xor (bit_xor b c) d) a
around a b c d = ap (λ (x : ℕ). bit_xor x d) (assoc a b c) ∙ assoc a (bit_xor b c) d ∙ xor_comm a (bit_xor (bit_xor b c) d)
