-- Laws of the counts: what a list of verdicts makes of them. Demand 3 and the history of calls both go by `Counts`.
-- Assumes that a state has as many counts as its type says.
use Rattle.std.specs.Prelude.{ℕ, zero, suc, ◌+◌, ◌-◌, ◌≤◌, ◌<◌, min, max, ◌≡◌, refl, ◌⊎◌, Bool, true, false, cond, List, [], ◌∷◌, ◌++◌}
use Rattle.std.specs.Prelude.{length, get_or, set, ltb, eqb, Some, None}
use Rattle.std.proofs.Common.{ap, sym, ◌∙◌, inl, inr, ⊎_elim, arith, length-set, get_or-set_same, get_or-set_other, ltb-true, ltb-false, eqb-true, ne_eqb}
use Rattle.std.proofs.lemmas.Bool.{eqb-false}
use Rattle.octets.specs.Each.{Each}
use Rattle.rules.specs.Position.{Place}
use Rattle.rules.specs.declared.Verdict.{Verdict}
use Rattle.rules.specs.declared.Verdict.TheVariants.{Accept, Drop}
use Rattle.rules.specs.declared.State.{State}
use Rattle.rules.specs.Connection.{located, value, stop, bump, counted_numbers, slots, later, place_in, slot, is_counted, count_at_lem}
use Rattle.rules.specs.Connection.{count_drop_of, with_accepted_of, with_drop_of}
use Rattle.rules.specs.Demand3.{sum}
use Rattle.rules.specs.History.{accepts, drops, counted_drops, drop_count}

-- a count n after k more: it stops at the stop
abbrev pub raised : ℕ → ℕ → ℕ
raised k n = max n (min stop (n + k))

raised-add : (j k n : ℕ) → raised k (raised j n) ≡ raised (j + k) n
raised-add j k n = omega arith

bump-raises : (n : ℕ) → bump n ≡ raised 1 n
bump-raises n = go (ltb n stop) refl
  where
    go : (b : Bool) → ltb n stop ≡ b → bump n ≡ raised 1 n
    go true e = rw e (omega (arith, ltb-true n stop e))
    go false e = rw e (omega (arith, ltb-false n stop e))

abbrev Below : List ℕ → Type 0
Below ds = Each (λ (n : ℕ). n < stop) ds

-- a number at any place of a list of smaller numbers
pub each_below : (n : ℕ) (l : List ℕ) → Each (λ (x : ℕ). x < n) l → 0 < n → (i : ℕ) → get_or l i 0 < n
each_below n [] b h i = h
each_below n (x ∷ l) b h zero = b.0
each_below n (x ∷ l) b h (suc i) = each_below n l b.1 h i

-- k numbers from a on
row : ℕ → ℕ → List ℕ
row a zero = []
row a (suc k) = a ∷ row (a + 1) k

pos : (a n : ℕ) → a ≤ n → (n ≡ a → ⊥) → a + 1 ≤ n
pos a n h d = go (ltb a n) refl
  where
    go : (b : Bool) → ltb a n ≡ b → a + 1 ≤ n
    go true e = omega (arith, ltb-true a n e)
    go false e = absurd (d (omega (arith, ltb-false a n e)))

-- a number's place in a list lies in it, and is no other number's
later-below : (p : Place) (k : ℕ) → value p < k → value (later p) < suc k
later-below (Some i) k h = omega arith
later-below None k h = omega arith

later-located : (p : Place) → located (later p) ≡ true → located p ≡ true
later-located (Some i) e = refl
later-located None e = e

place-below : (n : ℕ) (l : List ℕ) → located (place_in n l) ≡ true → value (place_in n l) < length l
place-below n [] e = let z : ◌≡◌ {A = ℕ} 0 1 = cc in absurd (omega arith)
place-below n (m ∷ l) e = go (eqb n m) refl (place-below n l)
  where
    go : (b : Bool) → eqb n m ≡ b → (located (place_in n l) ≡ true → value (place_in n l) < length l) → value (place_in n (m ∷ l)) < suc (length l)
    go true q ih = rw q (omega arith)
    go false q ih = rw q (later-below (place_in n l) (length l) (ih (later-located (place_in n l) (rw q at e))))

-- the element at a number's place is the number
place_is : (n : ℕ) (l : List ℕ) → located (place_in n l) ≡ true → get_or l (value (place_in n l)) 0 ≡ n
place_is n [] e = let z : ◌≡◌ {A = ℕ} 0 1 = cc in absurd (omega arith)
place_is n (m ∷ l) e = go (eqb n m) (place_in n l) refl refl (place_is n l)
  where
    go : (b : Bool) (p : Place) → eqb n m ≡ b → place_in n l ≡ p → (located (place_in n l) ≡ true → get_or l (value (place_in n l)) 0 ≡ n)
        → get_or (m ∷ l) (value (place_in n (m ∷ l))) 0 ≡ n
    go true p q r ih = rw q (sym (eqb-true n m q))
    go false (Some i) q r ih = rw (q, r) (rw r at (ih (rw r)))
    go false None q r ih = let z : ◌≡◌ {A = ℕ} 0 1 = cc (rw (q, r) at e) in absurd (omega arith)

pub slot-below : (n : ℕ) → is_counted n ≡ true → value (slot n) < slots
unfolding slot
slot-below n e = place-below n counted_numbers e

slot-one : (n m : ℕ) → is_counted n ≡ true → is_counted m ≡ true → value (slot n) ≡ value (slot m) → n ≡ m
unfolding slot
slot-one n m e f q = sym (place_is n counted_numbers e) ∙ ap (λ (i : ℕ). get_or counted_numbers i 0) q ∙ place_is m counted_numbers f

-- by numbers, as the code goes
in_row : (k a n : ℕ) (r : List ℕ) → a ≤ n → n < a + k → place_in n (row a k ++ r) ≡ Some (n - a)
unfolding row
in_row zero a n r h l = absurd (omega arith)
in_row (suc k) a n r h l = go (eqb n a) refl (λ p q. in_row k (a + 1) n r p q)
  where
    go : (b : Bool) → eqb n a ≡ b → (a + 1 ≤ n → n < a + 1 + k → place_in n (row (a + 1) k ++ r) ≡ Some (n - (a + 1)))
        → place_in n (row a (suc k) ++ r) ≡ Some (n - a)
    go true q ih = let e = eqb-true n a q in rw (q, row) (ap Some (omega arith))
    go false q ih =
        let d : a + 1 ≤ n = pos a n h (eqb-false n a q) in
        rw (q, row) (ap later (ih d (omega arith)) ∙ ap Some (omega arith))

-- a place, so many elements on
later_by : ℕ → Place → Place
later_by zero p = p
later_by (suc k) p = later (later_by k p)

past_row : (k a n : ℕ) (r : List ℕ) → (n < a) ⊎ (a + k ≤ n) → place_in n (row a k ++ r) ≡ later_by k (place_in n r)
unfolding row later_by
past_row zero a n r h = refl
past_row (suc k) a n r h = go (eqb n a) refl (past_row k (a + 1) n r)
  where
    go : (b : Bool) → eqb n a ≡ b → ((n < a + 1) ⊎ (a + 1 + k ≤ n) → place_in n (row (a + 1) k ++ r) ≡ later_by k (place_in n r))
        → place_in n (row a (suc k) ++ r) ≡ later_by (suc k) (place_in n r)
    go true q ih = let e = eqb-true n a q in absurd (⊎_elim (λ (l : n < a). omega arith) (λ (l : a + suc k ≤ n). omega arith) h)
    go false q ih = rw (q, row) (ap later (ih (⊎_elim (λ (l : n < a). inl (omega arith)) (λ (l : a + suc k ≤ n). inr (omega arith)) h)))

pub slot_is : (n : ℕ) → 20 ≤ n → n < 30 → slot n ≡ Some (n - 20)
unfolding slot row
slot_is n h l = in_row 10 20 n (40 ∷ 46 ∷ 47 ∷ []) h (omega arith)

pub slot-40 : slot 40 ≡ Some 10
unfolding slot
slot-40 = refl

pub slot-46 : slot 46 ≡ Some 11
unfolding slot
slot-46 = refl

pub slot-47 : slot 47 ≡ Some 12
unfolding slot
slot-47 = refl

pub slot-44 : slot 44 ≡ None
unfolding slot
slot-44 = refl

pub slot-45 : slot 45 ≡ None
unfolding slot
slot-45 = refl

-- a number that is none of them
pub slot-none : (n : ℕ) → (n < 20) ⊎ (30 ≤ n) → (n ≡ 40 → ⊥) → (n ≡ 46 → ⊥) → (n ≡ 47 → ⊥) → slot n ≡ None
unfolding slot row later_by
slot-none n h a b c =
    past_row 10 20 n (40 ∷ 46 ∷ 47 ∷ []) (⊎_elim (λ (l : n < 20). inl l) (λ (l : 30 ≤ n). inr (omega arith)) h)
    ∙ (λ j. later_by 10 (cond (ne_eqb n 40 a j) (Some 0) (later (cond (ne_eqb n 46 b j) (Some 0) (later (cond (ne_eqb n 47 c j) (Some 0) None))))))

pub length-count : (n : ℕ) (ds : List ℕ) → length (count_drop_of n ds) ≡ length ds
unfolding count_drop_of
length-count n ds = go (slot n)
  where
    go : (p : Place) → length (count_at_lem p ds) ≡ length ds
    go (Some i) = length-set ds i _
    go None = refl

-- a drop's own count is one more, the others stay
count-slot : (n m : ℕ) (ds : List ℕ) → length ds ≡ slots → is_counted m ≡ true
    → get_or (count_drop_of n ds) (value (slot m)) 0 ≡ raised (cond (eqb n m) 1 0) (get_or ds (value (slot m)) 0)
unfolding count_drop_of
count-slot n m ds h k = go (slot n) (eqb n m) refl refl
  where
    go : (p : Place) (c : Bool) → slot n ≡ p → eqb n m ≡ c
        → get_or (count_at_lem (slot n) ds) (value (slot m)) 0 ≡ raised (cond (eqb n m) 1 0) (get_or ds (value (slot m)) 0)
    go (Some i) true p q =
        let e : i ≡ value (slot m) = ap value (sym p ∙ ap slot (eqb-true n m q)) in
        let b = slot-below m k in
        rw (p, q, e) (get_or-set_same ds (value (slot m)) (bump (get_or ds (value (slot m)) 0)) 0 (omega arith) ∙ bump-raises (get_or ds (value (slot m)) 0))
    go (Some i) false p q =
        rw (p, q) (get_or-set_other ds i (value (slot m)) _ 0 (λ d. eqb-false n m q (slot-one n m (ap located p) k (ap value p ∙ sym d))) ∙ omega arith)
    go None true p q = let z : ◌≡◌ {A = ℕ} 0 1 = cc (ap located p, k, eqb-true n m q) in absurd (omega arith)
    go None false p q = rw (p, q) (omega arith)

-- where no count is at its stop afterwards, none was, and the sum is one more
set_sum : (ds : List ℕ) (i : ℕ) → i < length ds → Below (set ds i (bump (get_or ds i 0))) → Below ds × (sum (set ds i (bump (get_or ds i 0))) ≡ sum ds + 1)
set_sum [] i h e = absurd (omega arith)
set_sum (d ∷ ds) zero h e = let r = bump-raises d in ((omega arith, e.1), omega arith)
set_sum (d ∷ ds) (suc i) h e = let ih = set_sum ds i (omega arith) e.1 in ((e.0, ih.0), omega arith)

count-sum : (n : ℕ) (ds : List ℕ) → length ds ≡ slots → Below (count_drop_of n ds) → Below ds × (sum (count_drop_of n ds) ≡ sum ds + cond (is_counted n) 1 0)
unfolding count_drop_of
count-sum n ds h e = go (slot n) refl
  where
    go : (p : Place) → slot n ≡ p → Below ds × (sum (count_at_lem (slot n) ds) ≡ sum ds + cond (located (slot n)) 1 0)
    go (Some i) p =
        let b : i < slots = rw p at (slot-below n (ap located p)) in
        rw p (set_sum ds i (omega arith) (rw p at e))
    go None p = rw p (rw p at e, omega arith)

-- What the verdicts vs make of the counts of s: those of e.
pub record Counts (s : State) (vs : List Verdict) (e : State) : Type 0 where
  pub accepted : e.accepted ≡ raised (accepts vs) s.accepted
  pub dropped : (n : ℕ) → is_counted n ≡ true → drop_count n e ≡ raised (drops n vs) (drop_count n s)
  pub began : Below e.drops → Below s.drops
  pub total : Below e.drops → sum e.drops ≡ sum s.drops + counted_drops vs

pub count_none : (s : State) → Counts s [] s
count_none s = record { accepted = omega arith; dropped = λ n k. omega arith; began = λ b. b; total = λ b. omega arith }

-- each verdict once open
module _ (s : State) (vs : List Verdict) (e : State) where
  pub count-accept : (x id extension : ℕ) → Counts (with_accepted_of x id s) vs e → Counts s (Accept extension ∷ vs) e
  count-accept x id extension c =
      record {
        accepted = c.accepted ∙ ap (raised (accepts vs)) (bump-raises s.accepted) ∙ raised-add 1 (accepts vs) s.accepted;
        dropped = c.dropped;
        began = c.began;
        total = c.total;
      }

  pub count-drop : (n : ℕ) → length s.drops ≡ slots → Counts (with_drop_of n s) vs e → Counts s (Drop n ∷ vs) e
  count-drop n h c =
      record {
        accepted = c.accepted;
        dropped = λ m k. c.dropped m k ∙ ap (raised (drops m vs)) (count-slot n m s.drops h k) ∙ raised-add (cond (eqb n m) 1 0) (drops m vs) (drop_count m s);
        began = λ b. (count-sum n s.drops h (c.began b)).0;
        total = λ b. omega (arith, c.total b, (count-sum n s.drops h (c.began b)).1);
      }
