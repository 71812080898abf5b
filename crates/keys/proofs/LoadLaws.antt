-- The loader's answer exactly: when a table is valid, and when it is refused with 17, in document 01's words ("Key table", "Numbers given back").
-- Assumes nothing but, where it says `Octets`, that the bytes are below 256.
use Prim.Native.Nat.{ℕ, zero, suc, ◌+◌, ◌≤◌, ◌<◌}
use Rattle.std.specs.Prelude.{Bool, cond, not, ◌⊎◌, take, eqb, ltb}
use Rattle.std.proofs.Math.Bool.{true, false}
use Rattle.std.proofs.Math.Path.{◌≡◌, refl, ap, subst}
use Rattle.std.proofs.Common.{sym, ◌∙◌, inr, ⊎_elim, ne_eqb, ltb-true, ltb-false}
use mathlib.Core.List.{List, [], ◌∷◌, ◌++◌, append-nil}
use Rattle.std.proofs.Math.Logic.{inl}
use native.Mathlib.Omega.{arith}
use Rattle.std.proofs.Math.Nat.{add-zero}
use Rattle.std.proofs.Math.ListN.{length}
use Rattle.std.proofs.Math.Seq.{append_snoc}
use Rattle.std.proofs.lemmas.Bool.{eqb-false, not-false}
use Rattle.octets.specs.Each.{Each, Octets}
use Rattle.keys.specs.Entry.{Item, sound, items, entries_of, entries}
use Rattle.octets.specs.Tests.{Test, test}
use Rattle.octets.specs.TestLaws.{NoneApplies, none-split}
use Rattle.keys.proofs.EntryLaws.{entries-fields}
use Rattle.keys.proofs.MatchLaws.{and-true, Fields, clash-conflict, conflict-clash}
use Rattle.keys.specs.Table.{number_of, clashing, entry_tests, own_tests, load_tests, loaded_from, loaded}
use Rattle.keys.specs.declared.entry.Entry.{Entry}
use Rattle.keys.specs.declared.table.TableKind.{TableKind}
use Rattle.std.specs.Prelude.{Ok, Err}
use Rattle.keys.specs.Table.{Loaded, fault}
use Rattle.keys.proofs.FaultLaws.{number-none, number-low, last-given, given-last, item-lacks, own-lacks, item-low, none_passed, passed_none, listed-sound}
use Rattle.keys.proofs.PlaceLaws.{each_at, at-seam, at_left, at-below, Apart, Clear, clear_apart, apart-clear, clashing-in}
use Rattle.keys.proofs.PlaceLaws.{in-clashing, apart-no-conflict, no-conflict-apart}
use Rattle.keys.specs.Places.{At}
use Rattle.keys.specs.Clash.{Formed, Listed, Sound, WellFormed, RefusedClash, ClashRefused, RefusedConflicting, ConflictingRefused}

-- the walk

-- the tests before 17
abbrev front_tests : TableKind → ℕ → ℕ → Item → List (Test ℕ)
front_tests kind limit i x = test 12 (eqb i limit) ∷ own_tests kind x

-- no test applies, to the end
abbrev Good : TableKind → ℕ → ℕ → List Entry → List Item → Type 0
Good kind limit i before [] = Unit {0}
Good kind limit i before (x ∷ l) = NoneApplies (front_tests kind limit i x) × (clashing x.entry before ≡ false) × Good kind limit (i + 1) (before ++ (x.entry ∷ [])) l

-- no test applies up to a 17 at k
data Stops (kind : TableKind) (limit : ℕ) : ℕ → List Entry → List Item → ℕ → Type 0 where
  stop : {i : ℕ} {before : List Entry} {x : Item} {l : List Item} → NoneApplies (front_tests kind limit i x) → clashing x.entry before ≡ true → Stops kind limit i before (x ∷ l) i
  go_on : {i k : ℕ} {before : List Entry} {x : Item} {l : List Item} → NoneApplies (front_tests kind limit i x) → clashing x.entry before ≡ false
      → Stops kind limit (i + 1) (before ++ (x.entry ∷ [])) l k → Stops kind limit i before (x ∷ l) k

-- what a fault says

abbrev fault_number : Loaded → ℕ
fault_number (Ok n) = 0
fault_number (Err f) = f.number

abbrev fault_index : Loaded → ℕ
fault_index (Ok n) = 0
fault_index (Err f) = f.index

module _ (kind : TableKind) (limit : ℕ) where
  good-step : (i : ℕ) (before : List Entry) (x : Item) → NoneApplies (front_tests kind limit i x) → clashing x.entry before ≡ false → number_of (load_tests kind limit i before x) ≡ 0
  good-step i before x p c = given-last 17 (clashing x.entry before) (front_tests kind limit i x) p ∙ ap (λ (b : Bool). cond b 17 0) c

  stop_step : (i : ℕ) (before : List Entry) (x : Item) → NoneApplies (front_tests kind limit i x) → clashing x.entry before ≡ true → number_of (load_tests kind limit i before x) ≡ 17
  stop_step i before x p c = given-last 17 (clashing x.entry before) (front_tests kind limit i x) p ∙ ap (λ (b : Bool). cond b 17 0) c

  step-good : (i : ℕ) (before : List Entry) (x : Item) → number_of (load_tests kind limit i before x) ≡ 0 → NoneApplies (front_tests kind limit i x) × (clashing x.entry before ≡ false)
  step-good i before x e =
      let p = none-split (front_tests kind limit i x) (test 17 (clashing x.entry before) ∷ []) (number-none (load_tests kind limit i before x) (item-lacks kind before x) e) in
      (p.0, p.1.0)

  from-good : (l : List Item) (i n : ℕ) (before : List Entry) → loaded_from kind limit i before l ≡ Ok n → Good kind limit i before l × (i + length l ≡ n)
  unfolding loaded_from
  from-good [] i n before e = (tt, let z : i ≡ n = cc in omega arith)
  from-good (x ∷ l) i n before e = go (number_of (load_tests kind limit i before x)) refl (λ k. from-good l (i + 1) n (before ++ (x.entry ∷ [])) k)
    where
      go : (m : ℕ) → number_of (load_tests kind limit i before x) ≡ m
          → (loaded_from kind limit (i + 1) (before ++ (x.entry ∷ [])) l ≡ Ok n → Good kind limit (i + 1) (before ++ (x.entry ∷ [])) l × (i + 1 + length l ≡ n))
          → Good kind limit i before (x ∷ l) × (i + suc (length l) ≡ n)
      go zero q ih = let r = ih (rw q at e) in let s = step-good i before x q in ((s.0, s.1, r.0), omega arith)
      go (suc m) q ih = let z : ◌≡◌ {A = ℕ} 0 1 = cc (rw q at e) in absurd (omega arith)

  good-from : (l : List Item) (i : ℕ) (before : List Entry) → Good kind limit i before l → loaded_from kind limit i before l ≡ Ok (i + length l)
  unfolding loaded_from
  good-from [] i before g = ap Ok (sym (add-zero i))
  good-from (x ∷ l) i before g =
      rw (good-step i before x g.0 g.1) (good-from l (i + 1) (before ++ (x.entry ∷ [])) g.2 ∙ ap Ok (let e : i + 1 + length l ≡ i + suc (length l) = omega arith in e))

  from-stops : (l : List Item) (i k : ℕ) (before : List Entry) → loaded_from kind limit i before l ≡ fault 17 k → Stops kind limit i before l k
  unfolding loaded_from
  from-stops [] i k before e = let z : ◌≡◌ {A = ℕ} 0 1 = cc in absurd (omega arith)
  from-stops (x ∷ l) i k before e = go (number_of (load_tests kind limit i before x)) refl (λ h. from-stops l (i + 1) k (before ++ (x.entry ∷ [])) h)
    where
      go : (m : ℕ) → number_of (load_tests kind limit i before x) ≡ m
          → (loaded_from kind limit (i + 1) (before ++ (x.entry ∷ [])) l ≡ fault 17 k → Stops kind limit (i + 1) (before ++ (x.entry ∷ [])) l k) → Stops kind limit i before (x ∷ l) k
      go zero q ih = let s = step-good i before x q in go_on s.0 s.1 (ih (rw q at e))
      go (suc m) q ih =
          let f : fault (suc m) i ≡ fault 17 k = rw q at e in
          let a : suc m ≡ 17 = ap fault_number f in
          let b : i ≡ k = ap fault_index f in
          let r = last-given 17 (clashing x.entry before) (front_tests kind limit i x) (own-lacks kind x) (λ z. omega arith) (q ∙ a) in
          subst (Stops kind limit i before (x ∷ l)) b (stop r.0 r.1)

  stops-from : {l : List Item} {i k : ℕ} {before : List Entry} → Stops kind limit i before l k → loaded_from kind limit i before l ≡ fault 17 k
  unfolding loaded_from
  stops-from (stop {i} {before} {x} p c) = rw (stop_step i before x p c)
  stops-from (go_on {i} {k} {before} {x} p c s) = rw (good-step i before x p c) (stops-from s)

-- what a walk says of the entries

pub sound-length : (kind : TableKind) (l : List Item) → Sound kind l → length (entries_of l) ≡ length l
unfolding entries_of
sound-length kind [] s = refl
sound-length kind (x ∷ l) s = rw (listed-sound kind x s.0 s.1) (ap suc (sound-length kind l s.2))

-- the tests before 17, at an item
module _ (kind : TableKind) (limit i : ℕ) (x : Item) where
  front-listed : NoneApplies (front_tests kind limit i x) → Listed kind x
  front-listed p = not-false _ p.1.0

  front-whole : NoneApplies (front_tests kind limit i x) → x.whole ≡ true
  front-whole p = not-false _ p.1.1.0

  front-sound : NoneApplies (front_tests kind limit i x) → sound x ≡ true
  front-sound p = listed-sound kind x (front-listed p) (front-whole p)

  front-few : NoneApplies (front_tests kind limit i x) → i ≤ limit → i < limit
  front-few p h = let n = eqb-false i limit p.0 in go (ltb i limit) refl n
    where
      go : (b : Bool) → ltb i limit ≡ b → (i ≡ limit → ⊥) → i < limit
      go true q n = ltb-true i limit q
      go false q n = let k = ltb-false i limit q in absurd (n (omega arith))

  front-formed : NoneApplies (front_tests kind limit i x) → Formed kind x.entry
  front-formed p = none_passed (entry_tests kind x.entry) p.1.1.1

  front_of : Listed kind x → x.whole ≡ true → i < limit → Formed kind x.entry → NoneApplies (front_tests kind limit i x)
  front_of k w h f = (ne_eqb i limit (λ e. omega arith), (ap not k, (ap not w, passed_none (entry_tests kind x.entry) f)))

module _ (kind : TableKind) (limit : ℕ) where
  good-parts : (l : List Item) (i : ℕ) (pre : List Entry) → Good kind limit i pre l → i ≤ limit
      → Sound kind l × Each (Formed kind) (entries_of l) × Clear pre (entries_of l) × (i + length l ≤ limit)
  unfolding entries_of
  good-parts [] i pre g h = (tt, tt, tt, omega arith)
  good-parts (x ∷ l) i pre g h =
      let s = front-sound kind limit i x g.0 in
      let k = front-few kind limit i x g.0 h in
      let r = good-parts l (i + 1) (pre ++ (x.entry ∷ [])) g.2 (omega arith) in
      let m = r.3 in
      ((front-listed kind limit i x g.0, front-whole kind limit i x g.0, r.0), rw s (front-formed kind limit i x g.0, r.1), rw s (g.1, r.2), omega arith)

  parts-good : (l : List Item) (i : ℕ) (pre : List Entry) → Sound kind l → Each (Formed kind) (entries_of l) → Clear pre (entries_of l) → i + length l ≤ limit → Good kind limit i pre l
  unfolding entries_of
  parts-good [] i pre s f c h = tt
  parts-good (x ∷ l) i pre s f c h =
      let y = listed-sound kind x s.0 s.1 in
      let g : Formed kind x.entry × Each (Formed kind) (entries_of l) = rw y at f in
      let d : (clashing x.entry pre ≡ false) × Clear (pre ++ (x.entry ∷ [])) (entries_of l) = rw y at c in
      (front_of kind limit i x s.0 s.1 (omega arith) g.0, d.0, parts-good l (i + 1) (pre ++ (x.entry ∷ [])) s.2 g.1 d.1 (omega arith))

  -- a table otherwise well formed passes, or stops at a 17
  good-or-stops : (l : List Item) (i : ℕ) (pre : List Entry) → Sound kind l → Each (Formed kind) (entries_of l) → i + length l ≤ limit → Good kind limit i pre l ⊎ ((k : ℕ) × Stops kind limit i pre l k)
  unfolding entries_of
  good-or-stops [] i pre s f h = inl tt
  good-or-stops (x ∷ l) i pre s f h = go (clashing x.entry pre) refl (good-or-stops l (i + 1) (pre ++ (x.entry ∷ [])) s.2 g.1 (omega arith))
    where
      g : Formed kind x.entry × Each (Formed kind) (entries_of l)
      g = rw (listed-sound kind x s.0 s.1) at f

      front : NoneApplies (front_tests kind limit i x)
      front = front_of kind limit i x s.0 s.1 (omega arith) g.0

      go : (b : Bool) → clashing x.entry pre ≡ b → Good kind limit (i + 1) (pre ++ (x.entry ∷ [])) l ⊎ ((k : ℕ) × Stops kind limit (i + 1) (pre ++ (x.entry ∷ [])) l k)
          → Good kind limit i pre (x ∷ l) ⊎ ((k : ℕ) × Stops kind limit i pre (x ∷ l) k)
      go true q r = inr (i, stop front q)
      go false q (inl r) = inl (front, q, r)
      go false q (inr r) = inr (r.0, go_on front q r.1)

-- the entries up to a 17 at k, where i entries were taken before
record Parts (kind : TableKind) (limit i : ℕ) (pre : List Entry) (l : List Item) (k : ℕ) : Type 0 where
  before : List Entry
  entry : Entry
  after : List Entry
  split : entries_of l ≡ before ++ (entry ∷ after)
  index : i + length before ≡ k
  few : k < limit
  listed : Each (Listed kind) (take (suc (length before)) l)
  formed : Each (Formed kind) before
  itself : Formed kind entry
  clear : Clear pre before
  hit : clashing entry (pre ++ before) ≡ true

module _ (kind : TableKind) (limit : ℕ) where
  stops-parts : {l : List Item} {i k : ℕ} {pre : List Entry} → Stops kind limit i pre l k → i ≤ limit → Parts kind limit i pre l k
  unfolding entries_of
  stops-parts (stop {i} {before} {x} {l} p c) h =
      record {
        before = [];
        entry = x.entry;
        after = entries_of l;
        split = rw (front-sound kind limit i x p);
        index = add-zero i;
        few = front-few kind limit i x p h;
        listed = (front-listed kind limit i x p, tt);
        formed = tt;
        itself = front-formed kind limit i x p;
        clear = tt;
        hit = rw append-nil c;
      }
  stops-parts (go_on {i} {k} {before} {x} {l} p c s) h =
      let f = front-few kind limit i x p h in
      let r = stops-parts s (omega arith) in
      let n = r.index in
      record {
        before = x.entry ∷ r.before;
        entry = r.entry;
        after = r.after;
        split = rw (front-sound kind limit i x p) (ap (λ (m : List Entry). x.entry ∷ m) r.split);
        index = omega arith;
        few = r.few;
        listed = (front-listed kind limit i x p, r.listed);
        formed = (front-formed kind limit i x p, r.formed);
        itself = r.itself;
        clear = (c, r.clear);
        hit = subst (λ (m : List Entry). clashing r.entry m ≡ true) (append_snoc before x.entry r.before) r.hit;
      }

  parts-stops : (l : List Item) (before : List Entry) (entry : Entry) (after : List Entry) (i : ℕ) (pre : List Entry) → entries_of l ≡ before ++ (entry ∷ after) → i + length before < limit
      → Each (Listed kind) (take (suc (length before)) l) → Each (Formed kind) before → Formed kind entry → Clear pre before → clashing entry (pre ++ before) ≡ true → Stops kind limit i pre l (i + length before)
  unfolding entries_of
  parts-stops [] [] e a i pre q h k f g c d = let z : ◌≡◌ {A = ℕ} 0 1 = cc in absurd (omega arith)
  parts-stops [] (y ∷ b) e a i pre q h k f g c d = let z : ◌≡◌ {A = ℕ} 0 1 = cc in absurd (omega arith)
  parts-stops (x ∷ l) [] e a i pre q h k f g c d = go (sound x) refl
    where
      go : (b : Bool) → sound x ≡ b → Stops kind limit i pre (x ∷ l) (i + 0)
      go false s = let z : ◌≡◌ {A = ℕ} 0 1 = cc (rw s at q) in absurd (omega arith)
      go true s =
          let u : x.entry ≡ e = cc (rw s at q) in
          subst (Stops kind limit i pre (x ∷ l)) (sym (add-zero i))
          (stop (front_of kind limit i x k.0 (and-true x.kind-known x.whole s).1 (omega arith) (subst (Formed kind) (sym u) g)) (subst (λ (y : Entry). clashing y pre ≡ true) (sym u) (rw append-nil at d)))
  parts-stops (x ∷ l) (y ∷ b) e a i pre q h k f g c d =
      go (sound x) refl
      (λ v. parts-stops l b e a (i + 1) (pre ++ (y ∷ [])) v (omega arith) k.1 f.1 g c.1 (subst (λ (m : List Entry). clashing e m ≡ true) (sym (append_snoc pre y b)) d))
    where
      go : (t : Bool) → sound x ≡ t → (entries_of l ≡ b ++ (e ∷ a) → Stops kind limit (i + 1) (pre ++ (y ∷ [])) l (i + 1 + length b)) → Stops kind limit i pre (x ∷ l) (i + suc (length b))
      go false s ih = let z : ◌≡◌ {A = ℕ} 0 1 = cc (rw s at q) in absurd (omega arith)
      go true s ih =
          let u : x.entry ≡ y = cc (rw s at q) in
          let v : entries_of l ≡ b ++ (e ∷ a) = cc (rw s at q) in
          let w : i + 1 + length b ≡ i + suc (length b) = omega arith in
          go_on (front_of kind limit i x k.0 (and-true x.kind-known x.whole s).1 (omega arith) (subst (Formed kind) (sym u) f.0)) (subst (λ (z : Entry). clashing z pre ≡ false) (sym u) c.0)
          (subst (λ (z : Entry). Stops kind limit (i + 1) (pre ++ (z ∷ [])) l (i + suc (length b))) (sym u) (subst (Stops kind limit (i + 1) (pre ++ (y ∷ [])) l) w (ih v)))

-- the loader's answers

pub valid-formed : (kind : TableKind) (limit n : ℕ) (t : List ℕ) → loaded kind limit t ≡ Ok n → WellFormed kind limit t × (length (entries t) ≡ n) × Apart (entries t)
unfolding loaded
valid-formed kind limit n t e =
    let g = from-good kind limit (items 0 t) 0 n [] e in
    let p = good-parts kind limit (items 0 t) 0 [] g.0 (omega arith) in
    let l = sound-length kind (items 0 t) p.0 in
    let m = p.3 in
    let k = g.1 in
    (record { sound = p.0; few = omega arith; formed = p.1 }, omega arith, clear_apart [] (entries t) tt p.2)

pub formed-valid : (kind : TableKind) (limit : ℕ) (t : List ℕ) → WellFormed kind limit t → Apart (entries t) → loaded kind limit t ≡ Ok (length (entries t))
unfolding loaded
formed-valid kind limit t w a =
    let l = sound-length kind (items 0 t) w.sound in
    let h = w.few in
    good-from kind limit (items 0 t) 0 [] (parts-good kind limit (items 0 t) 0 [] w.sound w.formed (apart-clear [] (entries t) a) (omega arith))
    ∙ ap Ok (let e : 0 + length (items 0 t) ≡ length (entries t) = omega arith in e)

-- no number is above 17

from_low : (kind : TableKind) (limit n i : ℕ) (l : List Item) (j : ℕ) (before : List Entry) → loaded_from kind limit j before l ≡ fault n i → n ≤ 17
unfolding loaded_from
from_low kind limit n i [] j before q = let z : ◌≡◌ {A = ℕ} 0 1 = cc in absurd (omega arith)
from_low kind limit n i (x ∷ l) j before q = go (number_of (load_tests kind limit j before x)) refl (from_low kind limit n i l (j + 1) (before ++ (x.entry ∷ [])))
  where
    go : (m : ℕ) → number_of (load_tests kind limit j before x) ≡ m → (loaded_from kind limit (j + 1) (before ++ (x.entry ∷ [])) l ≡ fault n i → n ≤ 17) → n ≤ 17
    go zero r ih = ih (rw r at q)
    go (suc m) r ih =
        let f : fault (suc m) j ≡ fault n i = rw r at q in
        let a : suc m ≡ n = ap fault_number f in
        let b = number-low (load_tests kind limit j before x) (item-low kind before x) in
        omega arith

pub refused-low : (kind : TableKind) (limit n i : ℕ) (t : List ℕ) → loaded kind limit t ≡ fault n i → n ≤ 17
unfolding loaded
refused-low kind limit n i t e = from_low kind limit n i (items 0 t) 0 [] e

each-split : (P : Entry → Type 0) (a b : List Entry) (e : Entry) → Each P (a ++ (e ∷ b)) → Each P a × P e
each-split P [] b e p = (tt, p.0)
each-split P (x ∷ a) b e p = let r = each-split P a b e p.1 in ((p.0, r.0), r.1)

abbrev FieldsOf : Entry → Type 0
FieldsOf e = Fields e.selector

fields_split : (t : List ℕ) (a b : List Entry) (e : Entry) → Octets t → entries t ≡ a ++ (e ∷ b) → Each FieldsOf a × FieldsOf e
fields_split t a b e o q = each-split FieldsOf a b e (subst (Each FieldsOf) q (entries-fields t o))

pub refused-clash : RefusedClash
unfolding loaded
refused-clash kind limit i t o e =
    let p = stops-parts kind limit (from-stops kind limit (items 0 t) 0 i [] e) (omega arith) in
    let h = clashing-in p.entry p.before p.hit in
    let f = fields_split t p.before p.after p.entry o p.split in
    let n = p.index in
    record {
      before = p.before;
      entry = p.entry;
      after = p.after;
      split = p.split;
      index = omega arith;
      few = p.few;
      listed = subst (λ (j : ℕ). Each (Listed kind) (take (suc j) (items 0 t))) (let z : length p.before ≡ i = omega arith in z) p.listed;
      formed = p.formed;
      itself = p.itself;
      apart = apart-no-conflict p.before (clear_apart [] p.before tt p.clear);
      place = h.0;
      other = h.1;
      at_place = h.2;
      conflict = clash-conflict h.1 p.entry (each_at FieldsOf f.0 h.2) f.1 h.3;
    }

pub clash-refused : ClashRefused
unfolding loaded
clash-refused kind limit i t o c =
    let f = fields_split t c.before c.after c.entry o c.split in
    let n = c.index in
    let h = c.few in
    stops-from kind limit
    (parts-stops kind limit (items 0 t) c.before c.entry c.after 0 [] c.split (omega arith) (subst (λ (j : ℕ). Each (Listed kind) (take (suc j) (items 0 t))) (sym n) c.listed) c.formed c.itself
    (apart-clear [] c.before (no-conflict-apart c.before f.0 c.apart))
    (in-clashing c.entry c.at_place (conflict-clash c.other c.entry c.conflict)))
    ∙ ap (fault 17) (let e : 0 + length c.before ≡ i = omega arith in e)

pub refused-conflicting : RefusedConflicting
refused-conflicting kind limit i t o e =
    let c = refused-clash kind limit i t o e in
    let n = c.index in
    let b = at-below c.at_place in
    record {
      earlier = c.place;
      later = i;
      one = c.other;
      two = c.entry;
      at-earlier = subst (λ (l : List Entry). At l c.place c.other) (sym c.split) (at_left (c.entry ∷ c.after) c.at_place);
      at-later = subst (λ (l : List Entry). At l i c.entry) (sym c.split) (subst (λ (k : ℕ). At (c.before ++ (c.entry ∷ c.after)) k c.entry) n (at-seam c.before c.entry c.after));
      order = omega arith;
      conflict = c.conflict;
    }

pub conflicting-refused : ConflictingRefused
unfolding loaded
conflicting-refused kind limit t w c =
    let l = sound-length kind (items 0 t) w.sound in
    let h = w.few in
    ⊎_elim (λ g. absurd (none g)) (λ s. (s.0, stops-from kind limit s.1)) (good-or-stops kind limit (items 0 t) 0 [] w.sound w.formed (omega arith))
  where
    none : Good kind limit 0 [] (items 0 t) → ⊥
    none g =
        let p = good-parts kind limit (items 0 t) 0 [] g (omega arith) in
        apart-no-conflict (entries t) (clear_apart [] (entries t) tt p.2) c.earlier c.later c.one c.two c.at-earlier c.at-later c.order c.conflict
