-- Laws of `first` and `checked`: which tests failed where an outcome was given, and what holds of every outcome.
-- Assumes nothing.
use Rattle.std.specs.Prelude.{ℕ, ◌≡◌, refl, Bool, true, false, cond, ◌&&◌, List, [], ◌∷◌, ◌++◌, Result, Ok, Err}
use Rattle.std.specs.Result.{result_and}
use Rattle.std.proofs.Common.{ap, sym, ◌∙◌, arith}
use Rattle.octets.specs.Tests.{any, Test, tests, joined, first, checked}

module _ {O : Type 0} where
  -- no test of the list applies
  abbrev pub NoneApplies : List (Test O) → Type 0
  NoneApplies [] = Unit {0}
  NoneApplies (t ∷ l) = (t.applies ≡ false) × NoneApplies l

  -- then what stands behind them is given
  pub first-none : (l : List (Test O)) (o : O) → NoneApplies l → first l o ≡ o
  first-none [] o p = refl
  first-none (t ∷ l) o p = rw p.0 (first-none l o p.1)

  pub first-append : (a b : List (Test O)) (o : O) → first (a ++ b) o ≡ first a (first b o)
  first-append [] b o = refl
  first-append (t ∷ a) b o = rw (first-append a b o)

  -- whether every outcome of the list passes f
  abbrev pub each_gives : (O → Bool) → List (Test O) → Bool
  each_gives f [] = true
  each_gives f (t ∷ l) = f t.gives && each_gives f l

  -- then what is given passes f, if what stands behind the tests does
  pub first_passes : (f : O → Bool) (l : List (Test O)) (o : O) → each_gives f l ≡ true → f o ≡ true → f (first l o) ≡ true
  first_passes f [] o e p = p
  first_passes f (t ∷ l) o e p = go (f t.gives) t.applies refl refl (first_passes f l o)
    where
      go : (b c : Bool) → f t.gives ≡ b → t.applies ≡ c → (each_gives f l ≡ true → f o ≡ true → f (first l o) ≡ true) → f (first (t ∷ l) o) ≡ true
      go false c q r ih = let z : ◌≡◌ {A = ℕ} 0 1 = cc (rw q at e) in absurd (omega arith)
      go true true q r ih = rw r q
      go true false q r ih = rw r (ih (rw q at e) p)

  -- and where what is given does not pass f, none of them applied
  pub none-applied : (f : O → Bool) (l : List (Test O)) (o : O) → each_gives f l ≡ true → f (first l o) ≡ false → NoneApplies l
  none-applied f [] o e p = tt
  none-applied f (t ∷ l) o e p = go (f t.gives) t.applies refl refl (none-applied f l o)
    where
      go : (b c : Bool) → f t.gives ≡ b → t.applies ≡ c → (each_gives f l ≡ true → f (first l o) ≡ false → NoneApplies l) → NoneApplies (t ∷ l)
      go false c q r ih = let z : ◌≡◌ {A = ℕ} 0 1 = cc (rw q at e) in absurd (omega arith)
      go true true q r ih = let z : ◌≡◌ {A = ℕ} 0 1 = cc (rw r at p) in absurd (omega arith)
      go true false q r ih = (r, ih (rw q at e) (rw r at p))

  -- one outcome behind several tests: none of them holds
  pub none_any : (o : O) (l : List Bool) → NoneApplies (tests o l) → any l ≡ false
  none_any o [] p = refl
  none_any o (b ∷ l) p = rw p.0 (none_any o l p.1)

  pub none-append : (a b : List (Test O)) → NoneApplies a → NoneApplies b → NoneApplies (a ++ b)
  none-append [] b p q = q
  none-append (t ∷ a) b p q = (p.0, none-append a b p.1 q)

  pub none-split : (a b : List (Test O)) → NoneApplies (a ++ b) → NoneApplies a × NoneApplies b
  none-split [] b p = (tt, p)
  none-split (t ∷ a) b p = let r = none-split a b p.1 in ((p.0, r.0), r.1)

  -- The same of groups: no test of any group applies.
  abbrev pub NoneIn : List (List (Test O)) → Type 0
  NoneIn [] = Unit {0}
  NoneIn (g ∷ gs) = NoneApplies g × NoneIn gs

  pub none-joined : (gs : List (List (Test O))) → NoneIn gs → NoneApplies (joined gs)
  none-joined [] p = tt
  none-joined (g ∷ gs) p = none-append g (joined gs) p.0 (none-joined gs p.1)

  pub joined-none : (gs : List (List (Test O))) → NoneApplies (joined gs) → NoneIn gs
  joined-none [] p = tt
  joined-none (g ∷ gs) p = let r = none-split g (joined gs) p in (r.0, joined-none gs r.1)

  -- groups cut at any seam: what stands in front of it decides first
  pub first-joined : (gs hs : List (List (Test O))) (o : O) → first (joined (gs ++ hs)) o ≡ first (joined gs) (first (joined hs) o)
  first-joined [] hs o = refl
  first-joined (g ∷ gs) hs o =
      first-append g (joined (gs ++ hs)) o ∙ ap (first g) (first-joined gs hs o) ∙ sym (first-append g (joined gs) (first (joined hs) o))

  -- behind a group of which no test applies
  pub first_past : (a b : List (Test O)) (o : O) → NoneApplies a → first (a ++ b) o ≡ first b o
  first_past a b o n = first-append a b o ∙ first-none a (first b o) n

  -- `first` by `checked`: o where no test is the error
  abbrev pub error_or : Result Unit O → O → O
  error_or (Ok x) o = o
  error_or (Err e) o = e

  pub first-checked : (l : List (Test O)) (o : O) → first l o ≡ error_or (checked l) o
  first-checked [] o = refl
  first-checked (t ∷ l) o = go t.applies (first-checked l o)
    where
      go : (b : Bool) → first l o ≡ error_or (checked l) o → cond b t.gives (first l o) ≡ error_or (cond b (Err t.gives) (checked l)) o
      go true ih = refl
      go false ih = ih

  pub checked-append : (a b : List (Test O)) → checked (a ++ b) ≡ result_and (checked a) (checked b)
  checked-append [] b = refl
  checked-append (t ∷ a) b = go t.applies (checked-append a b)
    where
      go : (c : Bool) → checked (a ++ b) ≡ result_and (checked a) (checked b)
          → cond c (Err t.gives) (checked (a ++ b)) ≡ result_and (cond c (Err t.gives) (checked a)) (checked b)
      go true ih = refl
      go false ih = ih

  -- where there is no error no test applies, and where there is one it is what is given
  pub checked-none : (l : List (Test O)) → checked l ≡ Ok tt → NoneApplies l
  checked-none [] e = tt
  checked-none (t ∷ l) e = go t.applies refl (checked-none l)
    where
      go : (b : Bool) → t.applies ≡ b → (checked l ≡ Ok tt → NoneApplies l) → NoneApplies (t ∷ l)
      go true q ih = let z : Err t.gives ≡ Ok tt = rw q at e in cc
      go false q ih = (q, ih (rw q at e))

  pub checked-passed : (l : List (Test O)) (o : O) → checked l ≡ Ok tt → first l o ≡ o
  checked-passed l o e = first-checked l o ∙ ap (λ (r : Result Unit O). error_or r o) e

  pub checked-given : (l : List (Test O)) (o : O) {x : O} → checked l ≡ Err x → first l o ≡ x
  checked-given l o e = first-checked l o ∙ ap (λ (r : Result Unit O). error_or r o) e

  -- an error passes f, if every outcome of the list does
  pub checked-gives : (f : O → Bool) (l : List (Test O)) {x : O} → each_gives f l ≡ true → checked l ≡ Err x → f x ≡ true
  checked-gives f [] p e = let z : Ok tt ≡ Err _ = e in cc
  checked-gives f (t ∷ l) {x} p e = go (f t.gives) t.applies refl refl (checked-gives f l {x = x})
    where
      go : (b c : Bool) → f t.gives ≡ b → t.applies ≡ c → (each_gives f l ≡ true → checked l ≡ Err x → f x ≡ true) → f x ≡ true
      go false c q r ih = let z : ◌≡◌ {A = ℕ} 0 1 = cc (rw q at p) in absurd (omega arith)
      go true true q r ih = let z : Err t.gives ≡ Err x = rw r at e in let same : t.gives ≡ x = cc in rw (← same) q
      go true false q r ih = ih (rw q at p) (rw r at e)
