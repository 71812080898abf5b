-- Which numbers each call can give: the statements of GivenNumbers.antt, proved. Assumes nothing.
use Prim.Native.Nat.{ℕ, zero, suc, ◌+◌, ◌≤◌}
use Rattle.std.specs.Prelude.{◌≡◌, Bool, true, false, cond, not, ◌&&◌, ◌||◌, ◌⊎◌, length, eqb, ltb, leb, Ok, Err}
use Rattle.std.proofs.Math.Path.{refl}
use Rattle.std.proofs.Common.{ap, sym, ◌∙◌, inl, inr, arith, ltb-true, ltb-false, leb-true, eqb-true, ne_eqb}
use mathlib.Core.List.{List, [], ◌∷◌, ◌++◌}
use Rattle.std.proofs.lemmas.Bool.{eqb-false}
use Rattle.keys.specs.declared.entry.Entry.{Entry}
use Rattle.keys.specs.Table.{Found, Loaded}
use Rattle.keys.specs.declared.table.TableKind.{TableKind}
use Rattle.keys.specs.declared.table.TableKind.TheVariants.{Keys, Md5}
use Rattle.keys.specs.Entry.{Item, items, entries}
use Rattle.keys.specs.Table as K
use Rattle.keys.proofs.FaultLaws.{number-none}
use Rattle.keys.proofs.FoundLaws.{found-there}
use Rattle.keys.proofs.LoadLaws.{valid-formed, refused-low}
use Rattle.keys.proofs.MatchLaws.{and-true}
use Rattle.keys.proofs.PlaceLaws.{at-below}
use Rattle.tables.specs.Tables.{Admitted, refused_with, no_index, max_entries, crossing, besides, admitted, tables_of, send_entry}
use Rattle.tables.specs.Tables.{any_entry, md5_entry}
use Rattle.tables.proofs.ValidLaws.{prepared-answer}
use Rattle.rules.specs.declared.Outcome.{Outcome}
use Rattle.rules.specs.declared.Outcome.TheVariants.{Good, Passed, Bad}
use Rattle.rules.specs.declared.Connection.{Connection}
use Rattle.rules.specs.declared.State.{State}
use Rattle.rules.specs.Done as D
use Rattle.octets.specs.Tests.{Test, first}
use Rattle.octets.specs.TestLaws.{each_gives, first_passes}
use Rattle.rules.specs.Connection.{Arrival, arrival_pair_of, is_md5_of, pair_of_lem, empty}
use Rattle.rules.specs.Calls.{refuse, is_refused, refusal, verdict_of_lem, judge_tests, check, judged, syn_is_md5, judge_syn_tests}
use Rattle.rules.specs.Calls.{check_syn_of, judged_syn, opened_passively, unrefused, settled_by_lem, open_tests, opened_actively}
use Rattle.rules.specs.Calls.{opened_actively_md5, ask_tests, asked, outgoing, sign_tests, check_sign, signed_by, signed}
use Rattle.rules.specs.Lent.{Lent, tables}
use Rattle.rules.specs.History.{judge, sign, ask}
use Rattle.rules.proofs.GroupLaws.{unknown-passes}
use Rattle.rules.proofs.JudgeLaws.{not_passed, refusal-not-passed, check-not-passed}
use Rattle.rules.specs.Refusals.{Request, on, judge_syn_of, open_passively, open_actively, open_actively_md5, by_verdict, by_signing}
use Rattle.rules.specs.GivenNumbers.{among, table_numbers, judge_numbers, md5_judge_numbers, syn_numbers, md5_syn_numbers, sign_numbers}
use Rattle.rules.specs.GivenNumbers.{ask_numbers, open_numbers, numbers_of, Bounded, is_pass, RefusedAmong, RefusedBounds, CheckedWithin}
use Rattle.rules.specs.GivenNumbers.{TableBounds, JudgeNeverPasses, SignNotPassed, AskNotPassed, OpenNotPassed}

-- all of them pass f
abbrev pub every : (ℕ → Bool) → List ℕ → Bool
every f [] = true
every f (m ∷ l) = f m && every f l

pub among-every : (f : ℕ → Bool) (n : ℕ) (l : List ℕ) → every f l ≡ true → among n l ≡ true → f n ≡ true
among-every f n [] e a = let z : ◌≡◌ {A = ℕ} 0 1 = cc in absurd (omega arith)
among-every f n (m ∷ l) e a = go (eqb n m) (f m) refl refl (among-every f n l)
  where
    go : (b c : Bool) → eqb n m ≡ b → f m ≡ c → (every f l ≡ true → among n l ≡ true → f n ≡ true) → f n ≡ true
    go b false q r ih = let z : ◌≡◌ {A = ℕ} 0 1 = cc (rw r at e) in absurd (omega arith)
    go true true q r ih = ap f (eqb-true n m q) ∙ r
    go false true q r ih = ih (rw r at e) (rw q at a)

-- The tables.

-- one of them, or 0, which is given where no test applies
abbrev or_none : ℕ → Bool
or_none n = among n (0 ∷ table_numbers)

first-number : (l : List (Test ℕ)) (m : ℕ) → each_gives or_none l ≡ true → K.number_of l ≡ suc m → among (suc m) table_numbers ≡ true
unfolding K.number_of
first-number l m e f =
    let o : or_none (suc m) ≡ true = sym (ap or_none f) ∙ first_passes or_none l 0 e refl in
    let n : eqb (suc m) 0 ≡ false = ne_eqb (suc m) 0 (λ z. omega arith) in
    rw n at o

less : (i limit : ℕ) → i ≤ limit → (i ≡ limit → ⊥) → i + 1 ≤ limit
less i limit h n = go (ltb i limit) refl
  where
    go : (b : Bool) → ltb i limit ≡ b → i + 1 ≤ limit
    go true e = omega (arith, ltb-true i limit e)
    go false e = absurd (n (omega (arith, ltb-false i limit e)))

-- the tests of an entry in a table of either kind
each_number : (kind : TableKind) (limit i : ℕ) (before : List Entry) (x : Item)
    → each_gives or_none (K.load_tests kind limit i before x) ≡ true
each_number Keys limit i before x = refl
each_number Md5 limit i before x = refl

-- one table by itself
abbrev Loads : ℕ → Loaded → Type 0
Loads limit (Ok n) = n ≤ limit
Loads limit (Err f) = (among f.number table_numbers ≡ true) × (f.index ≤ limit)

module _ (kind : TableKind) (limit : ℕ) where
  no-limit : (i : ℕ) (before : List Entry) (x : Item) → K.number_of (K.load_tests kind limit i before x) ≡ 0 → eqb i limit ≡ false
  no-limit i before x q = go kind refl
    where
      go : (k : TableKind) → kind ≡ k → eqb i limit ≡ false
      go Keys e = (number-none (K.load_tests Keys limit i before x) refl (rw e at q)).0
      go Md5 e = (number-none (K.load_tests Md5 limit i before x) refl (rw e at q)).0

  from-within : (l : List Item) (i : ℕ) (before : List Entry) → i ≤ limit → Loads limit (K.loaded_from kind limit i before l)
  unfolding K.loaded_from
  from-within [] i before h = h
  from-within (x ∷ l) i before h =
      go (K.number_of (K.load_tests kind limit i before x)) refl (from-within l (i + 1) (before ++ (x.entry ∷ [])))
    where
      go : (m : ℕ) → K.number_of (K.load_tests kind limit i before x) ≡ m
          → (i + 1 ≤ limit → Loads limit (K.loaded_from kind limit (i + 1) (before ++ (x.entry ∷ [])) l))
          → Loads limit (K.loaded_from kind limit i before (x ∷ l))
      go zero q ih = rw q (ih (less i limit h (eqb-false i limit (no-limit i before x q))))
      go (suc m) q ih = rw q (first-number (K.load_tests kind limit i before x) m (each_number kind limit i before x) q, h)

  loads-within : (t : List ℕ) → Loads limit (K.loaded kind limit t)
  unfolding K.loaded
  loads-within t = from-within (items 0 t) 0 [] (omega arith)

-- what the tables give: at most 1,024 entries, or 10 to 17 or 45 with an index up to 1,024, or 44
bytes-within : (k m : List ℕ) → Bounded max_entries (admitted k m)
unfolding admitted besides
bytes-within k m = go (K.loaded Keys max_entries k) (K.loaded Md5 max_entries m) x.there refl refl refl
  where
    x : Found
    x = crossing (entries k) (entries m)

    go : (o p : Loaded) (c : Bool) → K.loaded Keys max_entries k ≡ o → K.loaded Md5 max_entries m ≡ p → x.there ≡ c
        → Bounded max_entries (admitted k m)
    go (Err r) p c e f q =
        let w = rw e at (loads-within Keys max_entries k) in
        let l = refused-low Keys max_entries r.number r.index k e in
        rw e (w.0, omega arith, w.1, λ z. absurd (omega (arith, l, z)))
    go (Ok n) (Err r) c e f q =
        let w = rw f at (loads-within Md5 max_entries m) in
        let l = refused-low Md5 max_entries r.number r.index m f in
        rw (e, f) (w.0, omega arith, w.1, λ z. absurd (omega (arith, l, z)))
    go (Ok n) (Ok j) true e f q =
        let h = found-there (K.meets_any_of (entries k)) (entries m) 0 q in
        let z : x.index ≡ 0 + h.0 = ap (λ (y : Found). y.index) h.4 in
        let w = at-below h.2 in
        let v = (valid-formed Md5 max_entries j m f).0.few in
        rw (e, f, q) (refl, omega arith, omega (arith, z, w, v), λ y. absurd (omega (arith, y)))
    go (Ok n) (Ok j) false e f q = rw (e, f, q) (rw e at (loads-within Keys max_entries k))

prepared-within : (form : ℕ) (k m : List ℕ) → (form ≡ 0 → ⊥) → Bounded max_entries (tables_of form k m).answer
prepared-within form k m z = go (prepared-answer form k m z)
  where
    go : ((tables_of form k m).answer ≡ refused_with 44 no_index) ⊎ ((n : ℕ) × ((tables_of form k m).answer ≡ Ok n) × (n ≤ max_entries))
        → Bounded max_entries (tables_of form k m).answer
    go (inl e) = rw e (refl, omega arith, omega arith, λ z. refl)
    go (inr (n, e, h)) = rw e h

pub checked-within : CheckedWithin
checked-within b = go (eqb b.form 0) refl
  where
    go : (c : Bool) → eqb b.form 0 ≡ c → Bounded max_entries (tables b).answer
    go true q = rw q (bytes-within b.keys b.md5)
    go false q = prepared-within b.form b.keys b.md5 (eqb-false b.form 0 q)

-- What the tests of a call come to.

-- no number but those of l; and no pass, unless `pass`
abbrev pub only : Bool → List ℕ → Outcome → Bool
only pass l (Good x r) = true
only pass l Passed = pass
only pass l (Bad n i) = among n l

-- each test gives such an outcome, or does not apply
abbrev each_only : Bool → List ℕ → List (Test Outcome) → Bool
each_only pass l [] = true
each_only pass l (t ∷ ts) = (only pass l t.gives || not t.applies) && each_only pass l ts

first-only : (pass : Bool) (l : List ℕ) (ts : List (Test Outcome)) (o : Outcome) → each_only pass l ts ≡ true → only pass l o ≡ true → only pass l (first ts o) ≡ true
first-only pass l [] o e p = p
first-only pass l (t ∷ ts) o e p = go (only pass l t.gives) t.applies refl refl (first-only pass l ts o)
  where
    go : (b c : Bool) → only pass l t.gives ≡ b → t.applies ≡ c → (each_only pass l ts ≡ true → only pass l o ≡ true → only pass l (first ts o) ≡ true)
        → only pass l (first (t ∷ ts) o) ≡ true
    go true true q r ih = rw r q
    go false true q r ih = let z : ◌≡◌ {A = ℕ} 0 1 = cc (rw (q, r) at e) in absurd (omega arith)
    go true false q r ih = rw r (ih (rw q at e) p)
    go false false q r ih = rw r (ih (rw (q, r) at e) p)

-- the tables' test: 10 to 17, 44, 45 where it applies
table-only : (pass : Bool) (l : List ℕ) (b : Lent) → every (λ (n : ℕ). among n l) table_numbers ≡ true
    → (only pass l (refusal (tables b).answer) || not (is_refused (tables b).answer)) ≡ true
table-only pass l b e = go (tables b).answer (checked-within b)
  where
    or-true : (b : Bool) → (b || true) ≡ true
    or-true true = refl
    or-true false = refl

    go : (o : Admitted) → Bounded max_entries o → (only pass l (refusal o) || not (is_refused o)) ≡ true
    go (Ok n) w = or-true (among 0 l)
    go (Err r) w = rw (among-every (λ (m : ℕ). among m l) r.number table_numbers e w.0)

-- 25 of a bare SYN, or pass
pass-only : (l : List ℕ) (b : Bool) (n : ℕ) → among n l ≡ true → only true l (cond b (refuse n) Passed) ≡ true
pass-only l true n e = e
pass-only l false n e = refl

-- judging, by the way
pub check-only : (b : Lent) (l : Connection) (reference : ℕ) (a : Arrival)
    → only false (cond (is_md5_of l) md5_judge_numbers judge_numbers) (check (tables b) l reference a) ≡ true
unfolding check
check-only b l reference a = go (is_md5_of l) refl
  where
    go : (m : Bool) → is_md5_of l ≡ m → only false (cond (is_md5_of l) md5_judge_numbers judge_numbers) (check (tables b) l reference a) ≡ true
    go true w =
        ap (λ (m : Bool). only false (cond m md5_judge_numbers judge_numbers) (check (tables b) l reference a)) w
        ∙ first-only false md5_judge_numbers (judge_tests (tables b) l reference a) _ (rw (w, table-only false md5_judge_numbers b refl)) refl
    go false w =
        ap (λ (m : Bool). only false (cond m md5_judge_numbers judge_numbers) (check (tables b) l reference a)) w
        ∙ first-only false judge_numbers (judge_tests (tables b) l reference a) _ (rw (w, table-only false judge_numbers b refl)) refl

pub check_syn-only : (b : Lent) (a : Arrival) (strict : Bool)
    → only true (cond (syn_is_md5 (tables b) (arrival_pair_of a)) md5_syn_numbers syn_numbers) (check_syn_of (tables b) a strict) ≡ true
unfolding check_syn_of
check_syn-only b a strict = go (syn_is_md5 (tables b) (arrival_pair_of a)) refl
  where
    go : (m : Bool) → syn_is_md5 (tables b) (arrival_pair_of a) ≡ m
        → only true (cond (syn_is_md5 (tables b) (arrival_pair_of a)) md5_syn_numbers syn_numbers) (check_syn_of (tables b) a strict) ≡ true
    go true w =
        ap (λ (m : Bool). only true (cond m md5_syn_numbers syn_numbers) (check_syn_of (tables b) a strict)) w
        ∙ first-only true md5_syn_numbers (judge_syn_tests (tables b) a strict) _ (rw (w, table-only true md5_syn_numbers b refl)) refl
    go false w =
        let missing = pass-only syn_numbers (any_entry (tables b) (arrival_pair_of a)) 25 refl in
        let unknown = unknown-passes (only true syn_numbers) (tables b) (arrival_pair_of a) strict refl refl in
        ap (λ (m : Bool). only true (cond m md5_syn_numbers syn_numbers) (check_syn_of (tables b) a strict)) w
        ∙ first-only true syn_numbers (judge_syn_tests (tables b) a strict) _ (rw (w, table-only true syn_numbers b refl, missing, unknown)) refl

pub check_sign-only : (b : Lent) (s : List ℕ) (room : ℕ) (q : State) → only false sign_numbers (check_sign (tables b) s room q) ≡ true
unfolding check_sign
check_sign-only b s room q =
    first-only false sign_numbers (sign_tests (tables b) s room q (outgoing (tables b) q)) _ (rw (table-only false sign_numbers b refl)) refl

pub ask-only : (b : Lent) (id : ℕ) (l : Connection) → only false ask_numbers (first (ask_tests (tables b) id l) unrefused) ≡ true
ask-only b id l = first-only false ask_numbers (ask_tests (tables b) id l) unrefused (rw (table-only false ask_numbers b refl)) refl

pub open-only : (b : Lent) (local remote : List ℕ) (found : Found)
    → only false open_numbers (first (open_tests (tables b) local remote found) unrefused) ≡ true
open-only b local remote found =
    first-only false open_numbers (open_tests (tables b) local remote found) unrefused (rw (table-only false open_numbers b refl)) refl

-- The answers by their outcomes.

verdict-among : (pass : Bool) (l : List ℕ) (o : Outcome) (n : ℕ) → only pass l o ≡ true → by_verdict (verdict_of_lem o) ≡ D.Refused n → among n l ≡ true
verdict-among pass l (Good x r) n p e = let z : ◌≡◌ {A = ℕ} 0 1 = cc in absurd (omega arith)
verdict-among pass l Passed n p e = let z : ◌≡◌ {A = ℕ} 0 1 = cc in absurd (omega arith)
verdict-among pass l (Bad m i) n p e = let z : m ≡ n = cc in sym (ap (λ (k : ℕ). among k l) z) ∙ p

signing-among : (q : State) (s : List ℕ) (f : Entry) (l : List ℕ) (o : Outcome) (n : ℕ) → only false l o ≡ true → by_signing (signed_by q s f o).answer ≡ D.Refused n → among n l ≡ true
signing-among q s f l (Good x r) n p e = let z : ◌≡◌ {A = ℕ} 0 1 = cc in absurd (omega arith)
signing-among q s f l Passed n p e = let z : ◌≡◌ {A = ℕ} 0 1 = cc (p) in absurd (omega arith)
signing-among q s f l (Bad m i) n p e = let z : m ≡ n = cc in sym (ap (λ (k : ℕ). among k l) z) ∙ p

settled-among : (old new : State) (l : List ℕ) (o : Outcome) (n : ℕ) → only false l o ≡ true → (settled_by_lem o old new).answer ≡ D.Refused n → among n l ≡ true
settled-among old new l (Good x r) n p e = let z : ◌≡◌ {A = ℕ} 0 1 = cc in absurd (omega arith)
settled-among old new l Passed n p e = let z : ◌≡◌ {A = ℕ} 0 1 = cc (p) in absurd (omega arith)
settled-among old new l (Bad m i) n p e = let z : m ≡ n = cc in sym (ap (λ (k : ℕ). among k l) z) ∙ p

active-among : (b : Lent) (local remote : List ℕ) (found : Found) (new : State) (n : ℕ)
    → (settled_by_lem (first (open_tests (tables b) local remote found) unrefused) empty new).answer ≡ D.Refused n → among n open_numbers ≡ true
active-among b local remote found new n e =
    settled-among empty new open_numbers (first (open_tests (tables b) local remote found) unrefused) n (open-only b local remote found) e

-- a call that is refused gives one of its numbers
pub refused-among : RefusedAmong
unfolding judged signed asked judged_syn opened_passively opened_actively opened_actively_md5
refused-among (on (judge b a) q) n e =
    verdict-among false _ (check (tables b) q.conn q.seen a) n (check-only b q.conn q.seen a) e
refused-among (on (sign b s out) q) n e =
    signing-among q s (outgoing (tables b) q).entry sign_numbers (check_sign (tables b) s (length out) q) n
    (check_sign-only b s (length out) q) e
refused-among (on (ask b id) q) n e =
    settled-among q _ ask_numbers (first (ask_tests (tables b) id q.conn) unrefused) n (ask-only b id q.conn) e
refused-among (judge_syn_of b a strict) n e = verdict-among true _ (check_syn_of (tables b) a strict) n (check_syn-only b a strict) e
refused-among (open_passively b a isn strict) n e = verdict-among true _ (check_syn_of (tables b) a strict) n (check_syn-only b a strict) e
refused-among (open_actively b local remote local_port remote_port isn send_id) n e =
    active-among b local remote (send_entry (tables b) (pair_of_lem local remote local_port remote_port) send_id) _ n e
refused-among (open_actively_md5 b local remote local_port remote_port isn) n e =
    active-among b local remote (md5_entry (tables b) (pair_of_lem local remote local_port remote_port)) _ n e

-- between 10 and 47
abbrev pub tabled : ℕ → Bool
tabled n = leb 10 n && leb n 47

by_way : (b : Bool) (l k : List ℕ) → every tabled l ≡ true → every tabled k ≡ true → every tabled (cond b l k) ≡ true
by_way true l k p q = p
by_way false l k p q = q

each-tabled : (c : Request) → every tabled (numbers_of c) ≡ true
each-tabled (on (judge b a) q) = by_way (is_md5_of q.conn) md5_judge_numbers judge_numbers refl refl
each-tabled (on (sign b s out) q) = refl
each-tabled (on (ask b id) q) = refl
each-tabled (judge_syn_of b a strict) = by_way (syn_is_md5 (tables b) (arrival_pair_of a)) md5_syn_numbers syn_numbers refl refl
each-tabled (open_passively b a isn strict) = by_way (syn_is_md5 (tables b) (arrival_pair_of a)) md5_syn_numbers syn_numbers refl refl
each-tabled (open_actively b local remote local_port remote_port isn send_id) = refl
each-tabled (open_actively_md5 b local remote local_port remote_port isn) = refl

bounds : (n : ℕ) → tabled n ≡ true → (10 ≤ n) × (n ≤ 47)
bounds n e = let p = and-true (leb 10 n) (leb n 47) e in (leb-true 10 n p.0, leb-true n 47 p.1)

pub refused-bounds : RefusedBounds
refused-bounds c n e = bounds n (among-every tabled n (numbers_of c) (each-tabled c) (refused-among c n e))

pub table-bounds : TableBounds
table-bounds b n i e =
    let w : among n table_numbers ≡ true = (rw e at (checked-within b)).0 in
    let p = and-true (leb 10 n) (leb n 45) (among-every (λ (m : ℕ). leb 10 m && leb m 45) n table_numbers refl w) in
    (leb-true 10 n p.0, leb-true n 45 p.1)

-- Pass. The cases of Passed in `after_judging_of`, `signed_by` and `settled_by_lem` are never reached: no test of these calls comes to it.

not-passed : (o : Outcome) → not_passed o ≡ true → o ≡ Passed → ⊥
not-passed o p e = let z : ◌≡◌ {A = ℕ} 0 1 = cc (rw e at p) in omega arith

pub sign-not-passed : SignNotPassed
unfolding check_sign
sign-not-passed t s room q =
    not-passed (check_sign t s room q)
    (first_passes not_passed (sign_tests t s room q (outgoing t q)) _ (rw (refusal-not-passed t.answer)) refl)

pub ask-not-passed : AskNotPassed
ask-not-passed t id l =
    not-passed (first (ask_tests t id l) unrefused)
    (first_passes not_passed (ask_tests t id l) unrefused (rw (refusal-not-passed t.answer)) refl)

pub open-not-passed : OpenNotPassed
open-not-passed t local remote found =
    not-passed (first (open_tests t local remote found) unrefused)
    (first_passes not_passed (open_tests t local remote found) unrefused (rw (refusal-not-passed t.answer)) refl)

no-pass : (o : Outcome) → not_passed o ≡ true → is_pass (verdict_of_lem o) ≡ false
no-pass (Good x r) p = refl
no-pass Passed p = sym p
no-pass (Bad n i) p = refl

-- judging on a connection never gives pass
pub judge-never-passes : JudgeNeverPasses
unfolding judged
judge-never-passes t a q = no-pass (check t q.conn q.seen a) (check-not-passed t q.conn q.seen a)
