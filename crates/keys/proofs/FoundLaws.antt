-- What a search of a list of entries finds.
use Prim.Native.Nat.{ℕ, suc, ◌+◌, ◌-◌, ◌<◌}
use Rattle.std.specs.Prelude.{Bool, ◌||◌, cond, length, ltb, Option, Some, None, MatchOption, IsSomeAnd}
use Rattle.std.specs.Option.{option_map}
use Rattle.std.specs.List.{list_any, find, enumerate_from, position_or_len}
use Rattle.std.proofs.Math.Bool.{true, false}
use Rattle.std.proofs.Math.Path.{◌≡◌, refl, ap}
use Rattle.std.proofs.Common.{sym, ◌∙◌, add-zero, ltb-true, ltb-false}
use Rattle.std.proofs.lemmas.Bool.{lt-ltb, le-ltb}
use mathlib.Core.List.{List, [], ◌∷◌}
use native.Mathlib.Omega.{arith}
use Rattle.keys.specs.Match.{matches, clash}
use Rattle.keys.proofs.MatchLaws.{and-true}
use Rattle.keys.specs.Table.{nobody, hit, found, any_of, has_id_of, answers, clashing, place_of, found_of}
use Rattle.keys.specs.Places.{At, here, there}
use Rattle.keys.specs.declared.entry.Entry.{Entry}
use Rattle.keys.specs.declared.entry.Pair.{Pair}
use Rattle.keys.specs.declared.table.By.{By}
use Rattle.keys.specs.declared.table.Hit.{Hit}
use Rattle.keys.specs.Table.{Found}

module _ (test : Entry → Bool) where
  -- the first entry that passes the test is found
  pub found_first : {l : List Entry} {i : ℕ} {e : Entry} (k : ℕ) → At l i e → test e ≡ true → ((j : ℕ) (f : Entry) → At l j f → j < i → test f ≡ false) → found test k l ≡ hit (k + i) e
  unfolding found
  found_first k (here {e}) t u = rw t (ap (λ (n : ℕ). hit n e) (sym (add-zero k)))
  found_first k (there {e} {f} {l} {i} a) t u =
      rw (u 0 f here (omega arith))
      (found_first (k + 1) a t (λ j g b h. u (suc j) g (there b) (omega arith)) ∙ ap (λ (n : ℕ). hit n e) (let z : k + 1 + i ≡ k + suc i = omega arith in z))

  -- and so is the only one
  pub found-only : {l : List Entry} {i : ℕ} {e : Entry} → At l i e → test e ≡ true → ((j : ℕ) (f : Entry) → At l j f → test f ≡ true → j ≡ i) → found test 0 l ≡ hit i e
  found-only {l} {i} {e} a t u = found_first 0 a t (λ j f b h. miss j f b h (test f) refl) ∙ ap (λ (n : ℕ). hit n e) (let z : 0 + i ≡ i = omega arith in z)
    where
      miss : (j : ℕ) (f : Entry) → At l j f → j < i → (c : Bool) → test f ≡ c → test f ≡ false
      miss j f b h true q = let z = u j f b q in absurd (omega arith)
      miss j f b h false q = q

  -- none before what is found passes the test
  pub found_before : {l : List Entry} {j : ℕ} {e : Entry} (k i : ℕ) (x : Entry) → At l j e → found test k l ≡ hit (k + i) x → j < i → test e ≡ false
  unfolding found
  found_before k i x (here {e} {l}) q h = go (test e) refl
    where
      go : (b : Bool) → test e ≡ b → test e ≡ false
      go true r = let p : hit k e ≡ hit (k + i) x = rw r at q in let z : k ≡ k + i = ap (λ (y : Found). y.index) p in absurd (omega arith)
      go false r = r
  found_before k i x (there {e} {f} {l} a) q h = go (test f) refl (λ z. found_before (k + 1) (i - 1) x a z (omega arith))
    where
      go : (b : Bool) → test f ≡ b → (found test (k + 1) l ≡ hit (k + 1 + (i - 1)) x → test e ≡ false) → test e ≡ false
      go true r ih = let p : hit k f ≡ hit (k + i) x = rw r at q in let z : k ≡ k + i = ap (λ (y : Found). y.index) p in absurd (omega arith)
      go false r ih =
          let p : found test (k + 1) l ≡ hit (k + i) x = rw r at q in
          ih (p ∙ ap (λ (n : ℕ). hit n x) (let z : k + i ≡ k + 1 + (i - 1) = omega arith in z))

  -- what is found stands at its index and passes the test
  pub found-there : (l : List Entry) (k : ℕ) → (found test k l).there ≡ true → (i : ℕ) × (e : Entry) × At l i e × (test e ≡ true) × (found test k l ≡ hit (k + i) e)
  unfolding found nobody
  found-there [] k h = let z : ◌≡◌ {A = ℕ} 0 1 = cc in absurd (omega arith)
  found-there (f ∷ l) k h = go (test f) refl (λ q. found-there l (k + 1) q)
    where
      go : (b : Bool) → test f ≡ b → ((found test (k + 1) l).there ≡ true → (i : ℕ) × (e : Entry) × At l i e × (test e ≡ true) × (found test (k + 1) l ≡ hit (k + 1 + i) e))
          → (i : ℕ) × (e : Entry) × At (f ∷ l) i e × (test e ≡ true) × (found test k (f ∷ l) ≡ hit (k + i) e)
      go true q ih = (0, f, here, q, rw q (ap (λ (n : ℕ). hit n f) (sym (add-zero k))))
      go false q ih =
          let r = ih (rw q at h) in
          (suc r.0, r.1, there r.2, r.3, rw q (r.4 ∙ ap (λ (n : ℕ). hit n r.1) (let z : k + 1 + r.0 ≡ k + suc r.0 = omega arith in z)))

  -- nothing is found only where no entry passes the test
  pub found_none : {l : List Entry} {i : ℕ} {e : Entry} (k : ℕ) → (found test k l).there ≡ false → At l i e → test e ≡ false
  unfolding found
  found_none k h (here {e}) = go (test e) refl
    where
      go : (b : Bool) → test e ≡ b → test e ≡ false
      go true q = let z : ◌≡◌ {A = ℕ} 0 1 = cc (rw q at h) in absurd (omega arith)
      go false q = q
  found_none k h (there {e} {f} {l} a) = go (test f) refl (λ q. found_none (k + 1) q a)
    where
      go : (b : Bool) → test f ≡ b → ((found test (k + 1) l).there ≡ false → test e ≡ false) → test e ≡ false
      go true q ih = let z : ◌≡◌ {A = ℕ} 0 1 = cc (rw q at h) in absurd (omega arith)
      go false q ih = ih (rw q at h)

  pub found-nobody : (l : List Entry) (k : ℕ) → (found test k l).there ≡ false → found test k l ≡ nobody
  unfolding found
  found-nobody [] k h = refl
  found-nobody (f ∷ l) k h = go (test f) refl (λ q. found-nobody l (k + 1) q)
    where
      go : (b : Bool) → test f ≡ b → ((found test (k + 1) l).there ≡ false → found test (k + 1) l ≡ nobody) → found test k (f ∷ l) ≡ nobody
      go true q ih = let z : ◌≡◌ {A = ℕ} 0 1 = cc (rw q at h) in absurd (omega arith)
      go false q ih = rw q (ih (rw q at h))

  pub any_found : (l : List Entry) (k : ℕ) → any_of test l ≡ (found test k l).there
  unfolding found any_of nobody
  any_found [] k = refl
  any_found (e ∷ l) k = go (test e) refl (any_found l (k + 1))
    where
      go : (b : Bool) → test e ≡ b → any_of test l ≡ (found test (k + 1) l).there → (test e || any_of test l) ≡ (found test k (e ∷ l)).there
      go true q ih = rw q
      go false q ih = rw q ih

  pub any-there : (l : List Entry) → any_of test l ≡ true → (i : ℕ) × (e : Entry) × At l i e × (test e ≡ true)
  any-there l h = let r = found-there l 0 (sym (any_found l 0) ∙ h) in (r.0, r.1, r.2, r.3)

  pub any_none : {l : List Entry} {i : ℕ} {e : Entry} → any_of test l ≡ false → At l i e → test e ≡ false
  any_none {l} h a = found_none 0 (sym (any_found l 0) ∙ h) a

  pub any-of : {l : List Entry} {i : ℕ} {e : Entry} → At l i e → test e ≡ true → any_of test l ≡ true
  any-of {l} {i} {e} a t = go (any_of test l) refl
    where
      go : (b : Bool) → any_of test l ≡ b → any_of test l ≡ true
      go true q = q
      go false q = let z : ◌≡◌ {A = ℕ} 0 1 = cc (any_none q a, t) in absurd (omega arith)

-- searches by an ID

pub answers-parts : (by : By) (p : Pair) (e : Entry) → answers by p e ≡ true → (has_id_of by e.ids ≡ true) × (matches e.selector p ≡ true)
unfolding answers
answers-parts by p e h = and-true (has_id_of by e.ids) (matches e.selector p) h

pub answers_of : (by : By) (p : Pair) (e : Entry) → has_id_of by e.ids ≡ true → matches e.selector p ≡ true → answers by p e ≡ true
unfolding answers
answers_of by p e h m = rw (h, m)

-- the searches of the code, by the library's words

pub any-is : (test : Entry → Bool) (l : List Entry) → list_any test l ≡ any_of test l
unfolding any_of
any-is test [] = refl
any-is test (e ∷ l) = rw (any-is test l)

pub clashing-is : (e : Entry) (l : List Entry) → list_any (λ f. clash f e) l ≡ clashing e l
unfolding clashing
clashing-is e [] = refl
clashing-is e (f ∷ l) = rw (clashing-is e l)

more : (m n : ℕ) → ltb m n ≡ ltb (1 + m) (suc n)
more m n = go (ltb m n) refl
  where
    go : (b : Bool) → ltb m n ≡ b → ltb m n ≡ ltb (1 + m) (suc n)
    go true q = let h = ltb-true m n q in q ∙ sym (lt-ltb (1 + m) (suc n) (omega arith))
    go false q = let h = ltb-false m n q in q ∙ sym (le-ltb (1 + m) (suc n) (omega arith))

-- what `find` gives of the entries with their indices, as `found` reads it
abbrev pub hit_of : Option (ℕ × Entry) → Found
hit_of None = nobody
hit_of (Some p) = hit p.0 p.1

-- and what a `map` makes of it
pub map-hit : (o : Option (ℕ × Entry)) (r : Option Hit) (P : ℕ × Entry → Hit → Type 0) → MatchOption o (r ≡ None) (λ x. IsSomeAnd r (P x))
    → ((x : ℕ × Entry) (h : Hit) → P x h → h ≡ record { index = x.0; entry = x.1 }) → found_of r ≡ hit_of (option_map (λ (x : ℕ × Entry). (x.0, x.1)) o)
map-hit None r P m f = ap found_of m
map-hit (Some x) None P m f = absurd m
map-hit (Some x) (Some h) P m f = ap (λ (y : Hit). hit y.index y.entry) (f x h m)

pub find-is : (test : Entry → Bool) (l : List Entry) (k : ℕ) → hit_of (find (λ (p : ℕ × Entry). test p.1) (enumerate_from k l)) ≡ found test k l
unfolding found
find-is test [] k = refl
find-is test (e ∷ l) k = go (test e) (find-is test l (k + 1))
  where
    go : (b : Bool) → hit_of (find (λ (p : ℕ × Entry). test p.1) (enumerate_from (k + 1) l)) ≡ found test (k + 1) l
        → hit_of (cond b (Some (k, e)) (find (λ (p : ℕ × Entry). test p.1) (enumerate_from (k + 1) l))) ≡ cond b (hit k e) (found test (k + 1) l)
    go true h = refl
    go false h = h

-- `position` counts from 0
pub place-is : (test : Entry → Bool) (l : List Entry) (k : ℕ)
    → place_of (found test k l) ≡ cond (ltb (position_or_len test l) (length l)) (Some (k + position_or_len test l)) None
unfolding found nobody
place-is test [] k = refl
place-is test (e ∷ l) k = go (test e) refl (place-is test l (k + 1))
  where
    go : (b : Bool) → test e ≡ b → place_of (found test (k + 1) l) ≡ cond (ltb (position_or_len test l) (length l)) (Some (k + 1 + position_or_len test l)) None
        → place_of (found test k (e ∷ l)) ≡ cond (ltb (position_or_len test (e ∷ l)) (length (e ∷ l))) (Some (k + position_or_len test (e ∷ l))) None
    go true q h = rw q (ap Some (sym (add-zero k)) ∙ ap (λ (b : Bool). cond b (Some (k + 0)) None) (sym (lt-ltb 0 (suc (length l)) (omega arith))))
    go false q h =
        let m = position_or_len test l in
        let z : k + 1 + m ≡ k + (1 + m) = omega arith in
        let y : ltb m (length l) ≡ ltb (1 + m) (suc (length l)) = more m (length l) in
        rw q (h ∙ (λ i. cond (y i) (Some (z i)) None))

pub place-first : (test : Entry → Bool) (l : List Entry)
    → cond (ltb (position_or_len test l) (length l)) (Some (position_or_len test l)) None ≡ place_of (found test 0 l)
place-first test l =
    let m = position_or_len test l in
    sym (place-is test l 0 ∙ ap (λ (n : ℕ). cond (ltb m (length l)) (Some n) None) (let z : 0 + m ≡ m = omega arith in z))
