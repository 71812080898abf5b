-- Laws of `clear`: how long an address stays, what each of its bytes becomes, and that its first bits stay.
use Rattle.std.specs.Prelude.{ℕ, suc, zero, ◌+◌, ◌*◌, ◌-◌, ◌/◌, ◌%◌, ◌^◌, ◌≤◌, ◌<◌, min, Bool, true, false, ◌≡◌, refl, List, [], ◌∷◌, length, get_or, ltb}
use Rattle.std.proofs.Common.{sym, ap, ◌∙◌, arith, shr-shr, ltb-true, ltb-false}
use Rattle.std.proofs.Math.ListN.{get_or-eq_default}
use Rattle.std.proofs.lemmas.Nat.{shl-shr}
use Rattle.wire.specs.Prefix.{bit, agree}
use Rattle.wire.specs.PrefixLaws.{agree-by}
use Rattle.prepared.specs.Prepared.{kept, clear}

pub clear-length : (n : ℕ) (s : List ℕ) → length (clear n s) ≡ length s
unfolding clear
clear-length n [] = refl
clear-length n (x ∷ s) = ap suc (clear-length (n - 8) s)

pub clear_at : (n : ℕ) (s : List ℕ) (i : ℕ) → i < length s → get_or (clear n s) i 0 ≡ kept (min (n - 8 * i) 8) (get_or s i 0)
unfolding clear
clear_at n [] i h = absurd (omega arith)
clear_at n (x ∷ s) zero h = ap (λ (k : ℕ). kept (min k 8) x) (let e : n ≡ n - 8 * 0 = omega arith in e)
clear_at n (x ∷ s) (suc i) h =
    clear_at (n - 8) s i (omega arith)
    ∙ ap (λ (k : ℕ). kept (min k 8) (get_or s i 0)) (let e : n - 8 - 8 * i ≡ n - 8 * suc i = omega arith in e)

-- the bits from the kth lowest on
pub kept_high : (x k j : ℕ) → k ≤ j → x / 2 ^ k * 2 ^ k / 2 ^ j ≡ x / 2 ^ j
kept_high x k j h =
    let e : j ≡ k + (j - k) = omega arith in
    ap (λ (m : ℕ). x / 2 ^ k * 2 ^ k / 2 ^ m) e
    ∙ sym (shr-shr (x / 2 ^ k * 2 ^ k) k (j - k))
    ∙ ap (λ (m : ℕ). m / 2 ^ (j - k)) (shl-shr (x / 2 ^ k) k)
    ∙ shr-shr x k (j - k)
    ∙ ap (λ (m : ℕ). x / 2 ^ m) (sym e)

pub clear-keeps : (n : ℕ) (s : List ℕ) (i : ℕ) → i < n → bit (clear n s) i ≡ bit s i
clear-keeps n s i h = go (ltb (i / 8) (length s)) refl
  where
    go : (b : Bool) → ltb (i / 8) (length s) ≡ b → bit (clear n s) i ≡ bit s i
    go true e =
        let l = ltb-true (i / 8) (length s) e in
        ap (λ (v : ℕ). v / 2 ^ (7 - i % 8) % 2) (clear_at n s (i / 8) l)
        ∙ ap (λ (v : ℕ). v % 2) (kept_high (get_or s (i / 8) 0) (8 - min (n - 8 * (i / 8)) 8) (7 - i % 8) (omega arith))
    go false e =
        let l = ltb-false (i / 8) (length s) e in
        let m = clear-length n s in
        ap (λ (v : ℕ). v / 2 ^ (7 - i % 8) % 2) (get_or-eq_default (clear n s) 0 (omega arith) ∙ sym (get_or-eq_default s 0 l))

pub clear-agree : (n : ℕ) (a b : List ℕ) → agree n (clear n a) b ≡ agree n a b
clear-agree n a b = agree-by n (clear n a) a b (λ i h. clear-keeps n a i h)
