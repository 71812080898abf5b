-- Laws of lists that are tables: a rule of every number below n by one computed test, and the values of f along a list. Assumes nothing.
use Rattle.std.specs.Prelude.{◌≡◌, ℕ, zero, suc, ◌<◌, ◌≤◌, Bool, true, false, ◌&&◌, T, List, [], ◌∷◌, map, length, ◌==◌, nat_lt, slice_index, slice_index_or, refl}
use Rattle.std.proofs.Common.{subst, arith, ltb-true, ltb-false, eqb→eq}

-- the test: f and g agree at 0 to n - 1
abbrev pub agree : (ℕ → ℕ) → (ℕ → ℕ) → ℕ → Bool
agree f g zero = true
agree f g (suc n) = f n == g n && agree f g n

first : (b c : Bool) → T (b && c) → T b
first true c t = tt
first false c t = t

rest : (b c : Bool) → T (b && c) → T c
rest true c t = t
rest false c t = absurd t

-- where the test is passed, f and g agree at each number below n
pub each : (f g : ℕ → ℕ) (n : ℕ) → T (agree f g n) → (k : ℕ) → k < n → f k ≡ g k
each f g zero t k h = absurd (omega arith)
each f g (suc n) t k h = go (nat_lt k n) refl (each f g n (rest (f n == g n) (agree f g n) t) k) where
  go : (b : Bool) → nat_lt k n ≡ b → (k < n → f k ≡ g k) → f k ≡ g k
  go true e below = below (ltb-true k n e)
  go false e below =
      let l : n ≤ k = ltb-false k n e in
      let q : n ≡ k = omega arith in
      subst (λ (m : ℕ). f m ≡ g m) q (eqb→eq (f n) (g n) (first (f n == g n) (agree f g n) t))

-- element i of the values of f
pub get_d_map : {A : Type 0} (d : A) (f : ℕ → A) (l : List ℕ) (i : ℕ) → i < length l → slice_index_or (map f l) i d ≡ f (slice_index l i)
get_d_map d f [] i h = absurd (omega arith)
get_d_map d f (x ∷ l) zero h = refl
get_d_map d f (x ∷ l) (suc i) h = get_d_map d f l i (omega arith)
