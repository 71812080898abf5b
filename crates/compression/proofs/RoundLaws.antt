-- Rounds over sixteen words at a time, as the code comes to them, over any hash's round. Assumes nothing.
use Rattle.std.proofs.Common.{◌≡◌, ℕ, zero, suc, ◌+◌, ◌-◌, ◌%◌, ◌*◌, ◌<◌, ◌≤◌, List, length, map, get_or, sym, refl, ap, ◌∙◌, add-zero, add-suc, zero-add, arith}
use Rattle.std.specs.List.{range_with_len}
use Rattle.std.proofs.lemmas.List.FromFn.{fill_by_all}
use Rattle.compression.specs.Schedule.{rounds, rounds_in}
use Rattle.compression.proofs.Ring.{Mix, From, from_at}

module _ (R : ℕ → ℕ → List ℕ → List ℕ) where
  -- Of sixteen words: no round yet, one more, four times four.
  module _ (p : ℕ → ℕ) where
    pub in-none : (t : ℕ) (w s : List ℕ) → s ≡ rounds_in R p t (t - t) w s
    unfolding rounds_in
    in-none t w s = let z : t - t ≡ 0 = omega arith in rw z refl

    pub in-more : (at t : ℕ) (w s₀ s r : List ℕ) → at ≤ t → s ≡ rounds_in R p at (t - at) w s₀ → r ≡ R t (get_or w (p t) 0) s
        → r ≡ rounds_in R p at (t + 1 - at) w s₀
    unfolding rounds_in
    in-more at t w s₀ s r h e er =
        let n : t + 1 - at ≡ suc (t - at) = omega arith in
        let m : at + (t - at) ≡ t = omega arith in
        rw (n, m, ← e) er

    pub in-four : (at t : ℕ) (w s₀ s : List ℕ) → t ≡ at + 4 → s ≡ rounds_in R p at (t - at) w s₀ → s ≡ rounds_in R p at 4 w s₀
    in-four at t w s₀ s h e = let n : t - at ≡ 4 = omega arith in rw n at e

    in-on : (t m n : ℕ) (w s : List ℕ) → rounds_in R p (t + m) n w (rounds_in R p t m w s) ≡ rounds_in R p t (m + n) w s
    unfolding rounds_in
    in-on t m zero w s = rw add-zero refl
    in-on t m (suc n) w s =
        let e : t + m + n ≡ t + (m + n) = omega arith in
        rw (add-suc, e, ← in-on t m n w s) refl

    pub in-sixteen : (at : ℕ) (w s a b c d : List ℕ) → a ≡ rounds_in R p at 4 w s → b ≡ rounds_in R p (at + 4) 4 w a
        → c ≡ rounds_in R p (at + 8) 4 w b → d ≡ rounds_in R p (at + 12) 4 w c → d ≡ rounds_in R p at 16 w s
    in-sixteen at w s a b c d ea eb ec ed =
        let eb' : b ≡ rounds_in R p at 8 w s = eb ∙ ap (rounds_in R p (at + 4) 4 w) ea ∙ in-on at 4 4 w s in
        let ec' : c ≡ rounds_in R p at 12 w s = ec ∙ ap (rounds_in R p (at + 8) 4 w) eb' ∙ in-on at 8 4 w s in
        ed ∙ ap (rounds_in R p (at + 12) 4 w) ec' ∙ in-on at 12 4 w s

    -- they are those of the list W where that has the same words
    pub in-same : (t n : ℕ) (w W s : List ℕ) → ((i : ℕ) → i < n → get_or w (p (t + i)) 0 ≡ get_or W (t + i) 0)
        → rounds_in R p t n w s ≡ rounds R t n W s
    unfolding rounds rounds_in
    in-same t zero w W s e = refl
    in-same t (suc n) w W s e = rw (e n (omega arith), in-same t n w W s (λ i h. e i (omega arith))) refl

  -- Rounds behind rounds.
  pub rounds-on : (t m n : ℕ) (W s : List ℕ) → rounds R (t + m) n W (rounds R t m W s) ≡ rounds R t (m + n) W s
  unfolding rounds
  rounds-on t m zero W s = rw add-zero refl
  rounds-on t m (suc n) W s =
      let e : t + m + n ≡ t + (m + n) = omega arith in
      rw (add-suc, e, ← rounds-on t m n W s) refl

  -- None yet, and sixteen more, with the words of the schedule W from place 16 q on.
  pub rounds-none : (t : ℕ) (W s : List ℕ) → s ≡ rounds R t 0 W s
  unfolding rounds
  rounds-none t W s = refl

  pub sixteen-more : (S : Mix) (at q n : ℕ) (w W s x y : List ℕ) → at ≡ 16 * q → From S at n w W → x ≡ rounds R 0 at W s
      → y ≡ rounds_in R (λ t. t % 16) at 16 w x → y ≡ rounds R 0 (at + 16) W s
  sixteen-more S at q n w W s x y e p ex ey =
      ey
      ∙ in-same (λ t. t % 16) at 16 w W x (λ i h. ap (λ (k : ℕ). get_or w k 0) (place i h) ∙ sym (from_at S at n i w W p h))
      ∙ ap (rounds R at 16 W) ex
      ∙ ap (λ (t : ℕ). rounds R t 16 W (rounds R 0 at W s)) (sym (zero-add at))
      ∙ rounds-on 0 at 16 W s
    where
      place : (i : ℕ) → i < 16 → (at + i) % 16 ≡ i
      place i h = omega arith

-- a list is its elements in order
pub listed : (n : ℕ) (s : List ℕ) → length s ≡ n → map (λ i. get_or s i 0) (range_with_len 0 n) ≡ s
listed n s h = sym (fill_by_all (λ i. get_or s i 0) s n 0 h (λ k l. refl))
