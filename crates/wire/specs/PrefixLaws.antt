-- Laws of prefixes, for what stands above.
-- Assumes nothing: lists and numbers of any size.
use Rattle.std.specs.Prelude.{ℕ, suc, zero, ◌*◌, ◌-◌, ◌/◌, ◌%◌, ◌^◌, ◌≤◌, ◌<◌, min, Bool, true, false, ◌&&◌, ◌||◌, ◌≡◌, refl, List, ◌⊎◌, length, take, eqb, ltb}
use Rattle.std.proofs.Common.{sym, ap, ◌∙◌, inl, inr, ⊎_elim, get_or-take, arith, eq-or-lt_of_le, eq-eqb, eqb-true, lt-ltb, le-ltb, ltb-true, ltb-false}
use Rattle.std.proofs.Math.ListN.{get_or-eq_default}
use Rattle.std.proofs.Math.Nat.{zero-div}
use Rattle.wire.specs.Prefix.{bit, agree, clear_to, clear_past_of}

both : {p q : Bool} → p ≡ true → q ≡ true → (p && q) ≡ true
both e f = rw (e, f)

left : (p q : Bool) → (p && q) ≡ true → p ≡ true
left true q e = refl
left false q e = e

right : (p q : Bool) → (p && q) ≡ true → q ≡ true
right true q e = e
right false q e = let z : ◌≡◌ {A = ℕ} 0 1 = cc in absurd (omega arith)

before : (a b : ℕ) → (a < b) ⊎ (b ≤ a)
before a b = go (ltb a b) refl where
  go : (t : Bool) → ltb a b ≡ t → (a < b) ⊎ (b ≤ a)
  go true e = inl (ltb-true a b e)
  go false e = inr (ltb-false a b e)

-- `agree p a b` holds exactly if each bit before p is the same in a and b
pub agree-bit : (p : ℕ) (a b : List ℕ) → agree p a b ≡ true → (i : ℕ) → i < p → bit a i ≡ bit b i
unfolding agree
agree-bit zero a b e i h = absurd (omega arith)
agree-bit (suc p) a b e i h =
    ⊎_elim (λ (q : i ≡ p). rw q (eqb-true (bit a p) (bit b p) (right (agree p a b) _ e))) (λ (l : i < p). agree-bit p a b (left _ _ e) i l)
    (eq-or-lt_of_le (omega arith))

pub agree-all : (p : ℕ) (a b : List ℕ) → ((i : ℕ) → i < p → bit a i ≡ bit b i) → agree p a b ≡ true
unfolding agree
agree-all zero a b f = refl
agree-all (suc p) a b f = both (agree-all p a b (λ i h. f i (omega arith))) (eq-eqb _ _ (f p (omega arith)))

pub agree_refl : (p : ℕ) (a : List ℕ) → agree p a a ≡ true
agree_refl p a = agree-all p a a (λ i h. refl)

pub agree-sym : (p : ℕ) (a b : List ℕ) → agree p a b ≡ true → agree p b a ≡ true
agree-sym p a b e = agree-all p b a (λ i h. sym (agree-bit p a b e i h))

-- fewer bits agree too
pub agree_less : (p q : ℕ) (a b : List ℕ) → q ≤ p → agree p a b ≡ true → agree q a b ≡ true
agree_less p q a b h e = agree-all q a b (λ i l. agree-bit p a b e i (omega arith))

-- where a agrees with x in n bits and b in m, a and b agree in the smaller number of bits
pub agree-meet : (n m : ℕ) (a b x : List ℕ) → agree n a x ≡ true → agree m b x ≡ true → agree (min n m) a b ≡ true
agree-meet n m a b x e f =
    agree-all (min n m) a b (λ i l. agree-bit n a x e i (omega arith) ∙ sym (agree-bit m b x f i (omega arith)))

-- only the first p bits count
pub agree-by : (p : ℕ) (a b x : List ℕ) → ((i : ℕ) → i < p → bit a i ≡ bit b i) → agree p a x ≡ agree p b x
unfolding agree
agree-by zero a b x f = refl
agree-by (suc p) a b x f = λ j. agree-by p a b x (λ i h. f i (omega arith)) j && eqb (f p (omega arith) j) (bit x p)

-- so an address cut behind its prefix agrees as the whole does
pub agree-take : (p n : ℕ) (a x : List ℕ) → p ≤ 8 * n → agree p (take n a) x ≡ agree p a x
agree-take p n a x h = agree-by p (take n a) a x (λ i l. ap (λ (k : ℕ). k / 2 ^ (7 - i % 8) % 2) (get_or-take n a (i / 8) 0 (omega arith)))

past : (p n : ℕ) → p ≤ n → (r : Bool) → (ltb n p || r) ≡ r
past p n h r = rw (le-ltb n p h)

clear-to : (p n : ℕ) (s : List ℕ) → clear_to p n s ≡ true → (i : ℕ) → p ≤ i → i < n → bit s i ≡ 0
unfolding clear_to
clear-to p zero s e i k h = absurd (omega arith)
clear-to p (suc n) s e i k h =
    ⊎_elim (λ (q : i ≡ n). rw q (eqb-true (bit s n) 0 (sym (past p n (omega arith) _) ∙ right (clear_to p n s) _ e))) (λ (l : i < n). clear-to p n s (left _ _ e) i k l)
    (eq-or-lt_of_le (omega arith))

-- `clear_past_of p s` holds exactly if every bit from p on is zero
pub clear-bit : (p : ℕ) (s : List ℕ) → clear_past_of p s ≡ true → (i : ℕ) → p ≤ i → bit s i ≡ 0
clear-bit p s e i k =
    ⊎_elim (λ (l : i < 8 * length s). clear-to p (8 * length s) s e i k l)
    (λ (l : 8 * length s ≤ i). ap (λ (x : ℕ). x / 2 ^ (7 - i % 8) % 2) (get_or-eq_default s 0 (omega arith)) ∙ rw zero-div)
    (before i (8 * length s))

clear-from : (p n : ℕ) (s : List ℕ) → ((i : ℕ) → p ≤ i → bit s i ≡ 0) → clear_to p n s ≡ true
unfolding clear_to
clear-from p zero s f = refl
clear-from p (suc n) s f =
    both (clear-from p n s f)
    (⊎_elim (λ (l : n < p). rw (lt-ltb n p l)) (λ (l : p ≤ n). past p n l _ ∙ eq-eqb (bit s n) 0 (f n l)) (before n p))

pub clear-all : (p : ℕ) (s : List ℕ) → ((i : ℕ) → p ≤ i → bit s i ≡ 0) → clear_past_of p s ≡ true
clear-all p s f = clear-from p (8 * length s) s f
