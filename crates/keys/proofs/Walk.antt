-- How the loader's walk goes on, entry by entry, and what the marks spare it: an entry that shares neither of its IDs with those before it
-- clashes with none of them.
use Rattle.std.specs.Prelude.{ℕ, zero, suc, ◌+◌, ◌≤◌, ◌<◌, Bool, true, false, cond, ◌&&◌, ◌||◌, ◌≡◌, refl, List, [], ◌∷◌, ◌++◌, length, get_or, take, drop, eqb, Result, Ok, Err, MatchResult, IsErrAnd}
use Rattle.std.proofs.Common.{sym, ap, ◌∙◌, arith, subst, ne_eqb, eq-eqb, length-append, length-drop}
use lib.ListN.{set, length-set}
use lib.Seq.{take-append-add, append_snoc, get_or-set_same, get_or-set_other}
use borrow.Author.Tests.{eqb-true, eqb-false}
use Rattle.octets.specs.Each.{Each}
use Rattle.octets.specs.Tests.{test, checked}
use Rattle.keys.specs.Entry.{size, Item, entry_of, item, sound, items, entries}
use Rattle.keys.specs.Match.{share, clash}
use Rattle.keys.specs.Marks.{Marked}
use Rattle.keys.specs.Table.{Loaded, number_of, kind_listed_of, entry_tests, item_tests, load_tests, clashing, refusing, loaded_from, loaded, fault}
use Rattle.keys.proofs.EntryLaws.{items-from}
use Rattle.keys.proofs.WalkLaws.{entries-first}
use Rattle.keys.proofs.MatchLaws.{and-true}
use Rattle.keys.proofs.FaultLaws.{checked-number, checked-none, checked-past, checked-given, checked-some, item-lacks, item-good, listed-known}
use Rattle.octets.specs.TestLaws.{first-none}
use Rattle.keys.specs.declared.entry.Ids.{Ids}
use Rattle.keys.specs.declared.entry.Entry.{Entry}
use Rattle.keys.specs.declared.table.Marks.{Marks}
use Rattle.keys.specs.declared.table.TableKind.{TableKind}
use Rattle.keys.specs.declared.table.TableKind.TheVariants.{Keys, Md5}

-- the marks

-- IDs of which one is marked and one not are different
differ : (m : List Bool) (i j : ℕ) → get_or m i false ≡ true → get_or m j false ≡ false → eqb i j ≡ false
differ m i j e z = ne_eqb i j (λ q. let w : true ≡ false = sym e ∙ ap (λ (k : ℕ). get_or m k false) q ∙ z in let y : ◌≡◌ {A = ℕ} 0 1 = cc in omega arith)

pub unmarked : (m : Marks) (e : Entry) (l : List Entry) → Each (Marked m) l → (get_or m.sends e.ids.send false || get_or m.recvs e.ids.recv false) ≡ false → clashing e l ≡ false
unfolding clashing clash share
unmarked m e [] p h = refl
unmarked m e (f ∷ l) p h = go (get_or m.sends e.ids.send false) (get_or m.recvs e.ids.recv false) refl refl h (unmarked m e l p.1 h)
  where
    go : (a b : Bool) → get_or m.sends e.ids.send false ≡ a → get_or m.recvs e.ids.recv false ≡ b → (a || b) ≡ false → clashing e l ≡ false
        → ((eqb f.ids.send e.ids.send || eqb f.ids.recv e.ids.recv) && Rattle.keys.specs.Match.overlap f.selector e.selector || clashing e l) ≡ false
    go true b q r z ih = let y : ◌≡◌ {A = ℕ} 0 1 = cc in absurd (omega arith)
    go false true q r z ih = let y : ◌≡◌ {A = ℕ} 0 1 = cc in absurd (omega arith)
    go false false q r z ih =
        rw (differ m.sends f.ids.send e.ids.send p.0.0 q, differ m.recvs f.ids.recv e.ids.recv p.0.1 r) ih

-- a mark that is set stays, and the new one is set
kept : (m : List Bool) (i j : ℕ) → i < length m → get_or m j false ≡ true → get_or (set m i true) j false ≡ true
kept m i j h e = go (eqb j i) refl
  where
    go : (b : Bool) → eqb j i ≡ b → get_or (set m i true) j false ≡ true
    go true q = subst (λ (k : ℕ). get_or (set m i true) k false ≡ true) (sym (eqb-true j i q)) (get_or-set_same m i true false h)
    go false q = get_or-set_other m i j true false (eqb-false j i q) ∙ e

pub marks-more : (m : Marks) (l : List Entry) (e : Entry) → e.ids.send < length m.sends → e.ids.recv < length m.recvs → Each (Marked m) l
    → Each (Marked (record { sends = set m.sends e.ids.send true; recvs = set m.recvs e.ids.recv true })) (l ++ (e ∷ []))
marks-more m [] e h k p = ((get_or-set_same m.sends e.ids.send true false h, get_or-set_same m.recvs e.ids.recv true false k), tt)
marks-more m (f ∷ l) e h k p =
    ((kept m.sends e.ids.send f.ids.send h p.0.0, kept m.recvs e.ids.recv f.ids.recv k p.0.1), marks-more m l e h k p.1)

-- the tests of what begins the rest

pub listed-is : (kind : TableKind) (s : List ℕ) → kind_listed_of kind (item (get_or s 0 0 ∷ [])) ≡ kind_listed_of kind (item s)
unfolding item
listed-is Keys s = refl
listed-is Md5 s = refl

module _ (kind : TableKind) (before : List Entry) (x : Item) where
  pub check-unknown : kind_listed_of kind x ≡ false → checked (item_tests kind before x) ≡ Err 11
  check-unknown h = rw h

  pub check-cut : kind_listed_of kind x ≡ true → sound x ≡ false → checked (item_tests kind before x) ≡ Err 10
  check-cut h s = go x.whole refl (listed-known kind x h)
    where
      go : (b : Bool) → x.whole ≡ b → x.kind-known ≡ true → checked (item_tests kind before x) ≡ Err 10
      go true w k = let z : ◌≡◌ {A = ℕ} 0 1 = cc (rw (k, w) at s) in absurd (omega arith)
      go false w k = rw (h, w)

  module _ (h : kind_listed_of kind x ≡ true) (w : x.whole ≡ true) where
    on : checked (item_tests kind before x) ≡ checked (entry_tests kind x.entry ++ (test 17 (clashing x.entry before) ∷ []))
    on = rw (h, w)

    pub check-wrong : (n : ℕ) → checked (entry_tests kind x.entry) ≡ Err n → checked (item_tests kind before x) ≡ Err n
    check-wrong n e = on ∙ checked-given (entry_tests kind x.entry) _ n e

    module _ (e : checked (entry_tests kind x.entry) ≡ Ok tt) where
      past : checked (item_tests kind before x) ≡ checked (test 17 (clashing x.entry before) ∷ [])
      past = on ∙ checked-past (entry_tests kind x.entry) _ (checked-none (entry_tests kind x.entry) e)

      pub check-clash : clashing x.entry before ≡ true → checked (item_tests kind before x) ≡ Err 17
      check-clash c = past ∙ rw c

      pub check-good : clashing x.entry before ≡ false → checked (item_tests kind before x) ≡ Ok tt
      check-good c = past ∙ rw c

-- of an entry e that the bytes begin with, of a kind that the table has
module _ (kind : TableKind) (before : List Entry) (s : List ℕ) (e : Entry) (l : kind_listed_of kind (item s) ≡ true) (w : sound (item s) ≡ true) (d : e ≡ entry_of s) where
  whole : (item s).whole ≡ true
  whole = (and-true (item s).kind-known (item s).whole w).1

  same : entry_of s ≡ (item s).entry
  unfolding item
  same = refl

  pub there-wrong : (n : ℕ) → Err n ≡ checked (entry_tests kind e) → checked (item_tests kind before (item s)) ≡ Err n
  there-wrong n q = check-wrong kind before (item s) l whole n (sym (q ∙ ap (λ (x : Entry). checked (entry_tests kind x)) (d ∙ same)))

  module _ (q : Ok tt ≡ checked (entry_tests kind e)) where
    fits : checked (entry_tests kind (item s).entry) ≡ Ok tt
    fits = sym (q ∙ ap (λ (x : Entry). checked (entry_tests kind x)) (d ∙ same))

    pub there-clash : clashing e before ≡ true → checked (item_tests kind before (item s)) ≡ Err 17
    there-clash c = check-clash kind before (item s) l whole fits (ap (λ (x : Entry). clashing x before) (sym (d ∙ same)) ∙ c)

    pub there-good : clashing e before ≡ false → checked (item_tests kind before (item s)) ≡ Ok tt
    there-good c = check-good kind before (item s) l whole fits (ap (λ (x : Entry). clashing x before) (sym (d ∙ same)) ∙ c)

pub behind-less : (s r : List ℕ) → 0 < length s → r ≡ drop (size (get_or s 0 0)) s → length r < length s
behind-less s r h e = let l = length-drop (size (get_or s 0 0)) s in let n = ap length e in omega arith

-- what `?` gives back of an error
pub matches-err : {A : Type 0} (r : Result A ℕ) {P : ℕ → Type 0} (n : ℕ) (Q : A → Type 0) (Y : ℕ → Type 0) → IsErrAnd r P → ((m : ℕ) → P m → m ≡ n) → Y n → MatchResult r Q Y
matches-err (Ok x) n Q Y h f y = absurd h
matches-err (Err m) n Q Y h f y = subst Y (sym (f m h)) y

-- the loader's loop

-- one more entry of a list is taken
taken_more : (l b r : List Entry) (e : Entry) (i : ℕ) → length b ≡ i → l ≡ b ++ (e ∷ r) → take (i + 1) l ≡ b ++ (e ∷ [])
taken_more l b r e i h q = (λ k. take (sym h k + 1) (q k)) ∙ take-append-add b (e ∷ r) 1

refused-by : (n i : ℕ) (o r : Loaded) → (n ≡ 0 → ⊥) → refusing n i o ≡ r → fault n i ≡ r
refused-by zero i o r k h = absurd (k refl)
refused-by (suc n) i o r k h = h

passed-by : (n i : ℕ) (o r : Loaded) → n ≡ 0 → refusing n i o ≡ r → o ≡ r
passed-by n i o r k h = rw k at h

-- behind i entries, whose IDs are marked, `rest` is left of the table, and is answered as the whole is
pub record Walking (t : List ℕ) (kind : TableKind) (limit : ℕ) (marks : Marks) (rest : List ℕ) (i : ℕ) : Type 0 where
  pub within : i + length rest ≤ length t
  pub taken : length (take i (entries t)) ≡ i
  pub split : entries t ≡ take i (entries t) ++ entries rest
  pub answer : loaded_from kind limit i (take i (entries t)) (items 0 rest) ≡ loaded kind limit t
  pub sends : length marks.sends ≡ 256
  pub recvs : length marks.recvs ≡ 256
  pub marked : Each (Marked marks) (take i (entries t))

pub walk_start : (t : List ℕ) (kind : TableKind) (limit : ℕ) (m : Marks) → length m.sends ≡ 256 → length m.recvs ≡ 256 → Walking t kind limit m t 0
unfolding loaded
walk_start t kind limit m h k =
    record { within = omega arith; taken = refl; split = refl; answer = refl; sends = h; recvs = k; marked = tt }

module _ {t : List ℕ} {kind : TableKind} {limit : ℕ} {marks : Marks} {rest : List ℕ} {i : ℕ} (w : Walking t kind limit marks rest i) where
  pub walk-done : length rest ≡ 0 → Ok i ≡ loaded kind limit t
  unfolding loaded_from items
  walk-done h = go rest h w.answer
    where
      go : (s : List ℕ) → length s ≡ 0 → loaded_from kind limit i (take i (entries t)) (items 0 s) ≡ loaded kind limit t → Ok i ≡ loaded kind limit t
      go [] e a = a
      go (b ∷ s) e a = absurd (omega arith)

  module _ (h : 0 < length rest) where
    begin : refusing (number_of (load_tests kind limit i (take i (entries t)) (item rest))) i
        (loaded_from kind limit (i + 1) (take i (entries t) ++ ((item rest).entry ∷ [])) (cond (sound (item rest)) (items 0 (drop (size (get_or rest 0 0)) rest)) []))
        ≡ loaded kind limit t
    unfolding loaded_from
    begin = sym (ap (loaded_from kind limit i (take i (entries t))) (items-from rest h)) ∙ w.answer

    pub walk-full : i ≡ limit → fault 12 i ≡ loaded kind limit t
    unfolding number_of
    walk-full e = rw (eq-eqb i limit e) at begin

    pub walk_refused : (n : ℕ) → (i ≡ limit → ⊥) → checked (item_tests kind (take i (entries t)) (item rest)) ≡ Err n → fault n i ≡ loaded kind limit t
    unfolding number_of
    walk_refused n e q =
        let l = item_tests kind (take i (entries t)) (item rest) in
        refused-by n i _ (loaded kind limit t) (checked-some l n (item-lacks kind _ (item rest)) q) (rw (ne_eqb i limit e, checked-number l n q) at begin)

    module _ (e : i ≡ limit → ⊥) (q : checked (item_tests kind (take i (entries t)) (item rest)) ≡ Ok tt) where
      none : number_of (item_tests kind (take i (entries t)) (item rest)) ≡ 0
      unfolding number_of
      none = let l = item_tests kind (take i (entries t)) (item rest) in first-none l 0 (checked-none l q)

      good : sound (item rest) ≡ true
      good = item-good kind (take i (entries t)) (item rest) none

      more : take (i + 1) (entries t) ≡ take i (entries t) ++ ((item rest).entry ∷ [])
      unfolding item
      more =
          let b = take i (entries t) in
          taken_more (entries t) b (entries (drop (size (get_or rest 0 0)) rest)) (item rest).entry i w.taken (w.split ∙ ap (λ (m : List Entry). b ++ m) (entries-first rest good))

      pub walk-next : (ids : Ids) (s : List ℕ) → ids ≡ (item rest).entry.ids → s ≡ drop (size (get_or rest 0 0)) rest → ids.send < 256 → ids.recv < 256
          → Walking t kind limit (record { sends = set marks.sends ids.send true; recvs = set marks.recvs ids.recv true }) s (i + 1)
      unfolding number_of item
      walk-next ids s d v h₁ h₂ =
          let b = take i (entries t) in
          let x = item rest in
          let k = w.within in
          let u = w.sends in
          let y = w.recvs in
          let l = length-drop (size (get_or rest 0 0)) rest in
          let n = ap length v in
          let f : entries rest ≡ x.entry ∷ entries s = entries-first rest good ∙ ap (λ (m : List ℕ). x.entry ∷ entries m) (sym v) in
          let sent = ap (λ (z : Ids). z.send) d in
          let received = ap (λ (z : Ids). z.recv) d in
          record {
            within = omega arith;
            taken = ap length more ∙ length-append b (x.entry ∷ []) ∙ ap (λ (m : ℕ). m + 1) w.taken;
            split = w.split ∙ ap (λ (m : List Entry). b ++ m) f ∙ sym (append_snoc b x.entry (entries s)) ∙ ap (λ (m : List Entry). m ++ entries s) (sym more);
            answer =
                (λ m. loaded_from kind limit (i + 1) (more m) (cond (sym good m) (items 0 (v m)) []))
                ∙ passed-by (number_of (item_tests kind b x)) i _ (loaded kind limit t) none (rw (ne_eqb i limit e) at begin);
            sends = length-set marks.sends ids.send true ∙ u;
            recvs = length-set marks.recvs ids.recv true ∙ y;
            marked =
                subst (Each (Marked (record { sends = set marks.sends ids.send true; recvs = set marks.recvs ids.recv true }))) (sym more)
                (subst (λ (z : Ids). Each (Marked (record { sends = set marks.sends z.send true; recvs = set marks.recvs z.recv true })) (b ++ (x.entry ∷ []))) (sym d)
                (marks-more marks b x.entry (omega arith) (omega arith) w.marked));
          }
