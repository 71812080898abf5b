-- Judging as the code begins it, from seam to seam: input, size and sum; form and arrival; key. With a state and without one.
-- Assumes nothing.
use Prim.Native.Nat.{ℕ, ◌≤◌, ◌-◌}
use mathlib.Core.Path.{◌≡◌, refl, sym, ap, subst, transport, ◌∙◌}
use mathlib.Core.Bool.{Bool, true, false, cond, ◌&&◌}
use mathlib.Core.List.{List}
use mathlib.Core.Logic.{◌⊎◌, inl, inr, ⊎_elim}
use native.Mathlib.Omega.{arith}
use lib.ListN.{length, replicate}
use lib.Seq.{take_at}
use lib.Dec.{eqb}
use borrow.Author.Tests.{eqb-true, not-false}
use Rattle.std.specs.Prelude.{◌++◌, Some, Result, Ok, Err}
use Rattle.std.specs.Result.{result_and, IsErr, IsErrAnd}
use Rattle.wire.specs.Header.{source_port_of, destination_port_of, sequence, header_of_lem}
use Rattle.wire.specs.declared.header.Header.{Header}
use Rattle.keys.specs.Entry.{width}
use Rattle.keys.specs.Table.{Found, nobody}
use Rattle.keys.specs.declared.entry.Pair.{Pair}
use Rattle.keys.proofs.MatchLaws.{or-true, and-true}
use Rattle.tables.specs.Tables.{Admitted, Tables, tables_of, recv_entry, md5_entry}
use Rattle.tables.proofs.ValidLaws.{taken-held}
use Rattle.tables.proofs.SearchLaws.{recv-proper, recv-nobody}
use Rattle.rules.specs.Position.{Place}
use Rattle.rules.specs.declared.Connection.{Connection}
use Rattle.rules.specs.declared.Outcome.{Outcome}
use Rattle.octets.specs.Tests.{Test, first, checked}
use Rattle.octets.specs.TestLaws.{NoneApplies, first-append, each_gives, checked-none, checked-append, none-split}
use Rattle.rules.specs.Mac.{Flow}
use Rattle.rules.specs.Segment.{key_id_of}
use Rattle.rules.specs.Connection.{Arrival, sized, arrival_pair_of, arriving, arriving_syn, place_on_lem, is_md5_of}
use Rattle.rules.specs.Calls.{is_refused, refuse, Groups, judge_groups, syn_groups, key_tests, md5_tests, good_by, address_tests, table_tests}
use Rattle.rules.specs.Calls.{input_tests, state_tests, family_tests, length_tests, sum_tests, syn_missing_of, syn_unknown_of, syn_is_md5}
use Rattle.rules.proofs.PositionLaws.{place-md5}
use Rattle.checks.specs.Groups.{intact_tests, option_tests, header_arrival_tests, header_syn_tests, until_mac, arriving_on}
use Rattle.checks.specs.GroupLaws.{is_final, and-ok, and-err, refusal-final}
use Rattle.checks.specs.Begin.{Expected, Begins, by_ao, by_md5_of, expected, Judges, expected_syn, JudgesSyn}
use Rattle.checks.specs.BeginLaws.{stop, pass, by_groups}
use Rattle.checks.specs.declared.begun.Begun.{Begun}

-- what `?` hands on of an error
pub err-is : {A : Type 0} (r : Result A Outcome) (x : Outcome) → IsErr r × IsErrAnd r (λ e. e ≡ x) → r ≡ Err x
err-is (Ok a) x h = absurd h.1
err-is (Err e) x h = ap Err h.1

-- of tables that are not refused a found entry's MAC has at most 16 bytes, and where none is found, 0
pub entry-short : (form : ℕ) (k m : List ℕ) (p : Pair) (id : ℕ) → is_refused (tables_of form k m).answer ≡ false
    → (recv_entry (tables_of form k m) p id).entry.secret.mac_bytes ≤ 16
unfolding nobody
entry-short form k m p id e = go (tables_of form k m).answer (recv_entry (tables_of form k m) p id).there refl refl e
  where
    go : (c : Admitted) (b : Bool) → (tables_of form k m).answer ≡ c → (recv_entry (tables_of form k m) p id).there ≡ b → is_refused c ≡ false
        → (recv_entry (tables_of form k m) p id).entry.secret.mac_bytes ≤ 16
    go (Err r) b q h z = let y : ◌≡◌ {A = ℕ} 0 1 = cc in absurd (omega arith)
    go (Ok n) true q h z = (recv-proper (taken-held form k m n q) p id h).mac-high
    go (Ok n) false q h z = rw (recv-nobody (tables_of form k m) p id h) (omega arith)

-- The seams at which the code cuts: input, size and sum; form and arrival; key.
by_seams : (g : Groups) (o : Outcome) (w : ℕ → Expected) (r : Result Begun Outcome)
    → Begins (first (g.input ++ (g.size ++ g.sum)) (first (g.form ++ g.arrival) (first g.key o))) w r → Begins (first (until_mac g) o) w r
by_seams g o w r b = by_groups g o w r (subst (λ (x : Outcome). Begins x w r) seams b)
  where
    seams : first (g.input ++ (g.size ++ g.sum)) (first (g.form ++ g.arrival) (first g.key o))
        ≡ first g.input (first g.size (first g.sum (first g.form (first g.arrival (first g.key o)))))
    seams =
        first-append g.input (g.size ++ g.sum) (first (g.form ++ g.arrival) (first g.key o))
        ∙ ap (first g.input) (first-append g.size g.sum (first (g.form ++ g.arrival) (first g.key o))
        ∙ ap (first g.size) (ap (first g.sum) (first-append g.form g.arrival (first g.key o))))

-- A number of the first seam.
at-early : (g : Groups) (o : Outcome) (w : ℕ → Expected) {e : Outcome} → each_gives is_final (g.input ++ (g.size ++ g.sum)) ≡ true
    → checked (g.input ++ (g.size ++ g.sum)) ≡ Err e → Begins (first (until_mac g) o) w (Err e)
at-early g o w {e} f n = by_seams g o w (Err e) (stop (g.input ++ (g.size ++ g.sum)) _ w f n)

early-final : (t : Tables) (l : Connection) (a : Arrival) → each_gives is_final (state_tests t a.source a.destination l ++ intact_tests a) ≡ true
early-final t l a = rw (refusal-final t.answer)

pub judge-early : (t : Tables) (l : Connection) (reference : ℕ) (a : Arrival) {e : Outcome}
    → Err e ≡ result_and (checked (state_tests t a.source a.destination l ++ intact_tests a)) (Ok a.segment) → Judges t l reference a (Err e)
judge-early t l reference a n =
    at-early (judge_groups t l reference a) _ (expected t l a.segment) (early-final t l a)
    (and-err (checked (state_tests t a.source a.destination l ++ intact_tests a)) a.segment (sym n))

-- Behind the input, the size and the sum: form and arrival, and the key.
module _ (g : Groups) (o : Outcome) (w : ℕ → Expected) (early : checked (g.input ++ (g.size ++ g.sum)) ≡ Ok tt) where
  abbrev Given : Result Begun Outcome → Type 0
  Given r = Begins (first (until_mac g) o) w r

  behind-sum : (r : Result Begun Outcome) → Begins (first (g.form ++ g.arrival) (first g.key o)) w r → Given r
  behind-sum r b = by_seams g o w r (pass (g.input ++ (g.size ++ g.sum)) _ w r early b)

  at-formed : {e : Outcome} → each_gives is_final (g.form ++ g.arrival) ≡ true → checked (g.form ++ g.arrival) ≡ Err e → Given (Err e)
  at-formed {e} f n = behind-sum (Err e) (stop (g.form ++ g.arrival) _ w f n)

  at-key : (r : Result Begun Outcome) → checked (g.form ++ g.arrival) ≡ Ok tt → Begins (first g.key o) w r → Given r
  at-key r n b = behind-sum r (pass (g.form ++ g.arrival) _ w r n b)

-- by values that are equal to the definitions': 25 to 28, and 46, 47, 26 and 27
abbrev KeyGiven : Outcome → Outcome → Found → Place → Flow → List ℕ → Result Begun Outcome → Type 0
KeyGiven m u f x fl s r = Begins (first (key_tests m u f x s) (good_by false x s)) (by_ao f.entry fl s) r

abbrev Md5Given : Found → ℕ → Flow → List ℕ → Result Begun Outcome → Type 0
Md5Given f n fl s r = Begins (first (md5_tests f s) (good_by true (Some n) s)) (by_md5_of f.entry fl s) r

-- 19 lets by addresses of one size, and the tables are not refused
module _ (t : Tables) (a b : List ℕ) (n : NoneApplies (input_tests t a b)) where
  none-sized : sized a b ≡ true
  none-sized = not-false (sized a b) n.0

  none-valid : is_refused t.answer ≡ false
  none-valid = (none-split (address_tests a b) (table_tests t) n).1.0

-- the same of the input's tests as the code asks them
module _ (t : Tables) (a b : List ℕ) (n : checked (input_tests t a b) ≡ Ok tt) where
  pub input-sized : sized a b ≡ true
  input-sized = none-sized t a b (checked-none (input_tests t a b) n)

  pub input-valid : is_refused t.answer ≡ false
  input-valid = none-valid t a b (checked-none (input_tests t a b) n)

pub state-valid : (t : Tables) (a b : List ℕ) (l : Connection) → checked (state_tests t a b l) ≡ Ok tt → is_refused t.answer ≡ false
state-valid t a b l n = none-valid t a b (none-split (family_tests l) (input_tests t a b) (checked-none (state_tests t a b l) n)).1

-- With a state. The segment that was read is the one that came.
module _ (t : Tables) (l : Connection) (reference : ℕ) (a : Arrival) {s : List ℕ} {h : Header}
    (early : Ok s ≡ result_and (checked (state_tests t a.source a.destination l ++ intact_tests a)) (Ok a.segment))
    (read : h ≡ header_of_lem (length s) s) where
  abbrev groups : Groups
  groups = judge_groups t l reference a

  abbrev answer : Outcome
  answer = good_by (is_md5_of l) (place_on_lem l reference (sequence a.segment)) a.segment

  abbrev early_tests : List (Test Outcome)
  early_tests = state_tests t a.source a.destination l ++ intact_tests a

  n1 : checked early_tests ≡ Ok tt
  n1 = (and-ok (checked early_tests) a.segment (sym early)).0

  same : s ≡ a.segment
  same = sym (and-ok (checked early_tests) a.segment (sym early)).1

  header : h ≡ header_of_lem (length a.segment) a.segment
  header = read ∙ ap (λ (z : List ℕ). header_of_lem (length z) z) same

  abbrev formed_tests : Header → List (Test Outcome)
  formed_tests x = option_tests x.options ++ header_arrival_tests l a.source a.destination x

  formed-is : (r : Result Unit Outcome) → r ≡ checked (formed_tests h) → checked (groups.form ++ groups.arrival) ≡ r
  formed-is r e = sym (e ∙ ap (λ (h : Header). checked (formed_tests h)) header)

  pub judge-valid : is_refused t.answer ≡ false
  judge-valid =
      let state = (none-split (state_tests t a.source a.destination l) (intact_tests a) (checked-none early_tests n1)).0 in
      none-valid t a.source a.destination (none-split (family_tests l) (input_tests t a.source a.destination) state).1

  pub judge-formed : {e : Outcome} → Err e ≡ checked (formed_tests h) → Judges t l reference a (Err e)
  judge-formed {e} n = at-formed groups answer (expected t l a.segment) n1 refl (formed-is (Err e) n)

  module _ (n2 : Ok tt ≡ checked (formed_tests h)) (r : Result Begun Outcome) where
    abbrev By : Bool → Type 0
    By way =
        Begins
        (first
        (cond way (md5_tests (md5_entry t l.pair) a.segment)
        (key_tests (refuse 25) (refuse 26) (recv_entry t l.pair (key_id_of a.segment)) (place_on_lem l reference (sequence a.segment)) a.segment))
        (good_by way (place_on_lem l reference (sequence a.segment)) a.segment))
        (cond way (by_md5_of (md5_entry t l.pair).entry (arriving l a.segment) a.segment)
        (by_ao (recv_entry t l.pair (key_id_of a.segment)).entry (arriving l a.segment) a.segment)) r

    keyed : By (is_md5_of l) → Judges t l reference a r
    keyed b = at-key groups answer (expected t l a.segment) n1 r (formed-is (Ok tt) n2) b

    pub judge-by-md5 : is_md5_of l ≡ true → {f : Found} {fl : Flow} → f ≡ md5_entry t l.pair → fl ≡ arriving l s
        → Md5Given f (sequence s) fl s r → Judges t l reference a r
    judge-by-md5 way ef efl b =
        let flow = efl ∙ ap (arriving l) same in
        let moved : Md5Given (md5_entry t l.pair) (sequence a.segment) (arriving l a.segment) a.segment r =
        transport (λ i. Md5Given (ef i) (sequence (same i)) (flow i) (same i) r) b in
        keyed (subst By (sym way)
        (transport (λ i. Begins (first (md5_tests (md5_entry t l.pair) a.segment) (good_by true (sym (place-md5 l reference (sequence a.segment) way) i) a.segment))
        (by_md5_of (md5_entry t l.pair).entry (arriving l a.segment) a.segment) r) moved))

    pub judge-by-ao : is_md5_of l ≡ false → {m u : Outcome} {f : Found} {x : Place} {fl : Flow} → m ≡ refuse 25 → u ≡ refuse 26
        → f ≡ recv_entry t l.pair (key_id_of s) → x ≡ place_on_lem l reference (sequence s) → fl ≡ arriving l s → KeyGiven m u f x fl s r
        → Judges t l reference a r
    judge-by-ao way em eu ef ex efl b =
        let flow = efl ∙ ap (arriving l) same in
        let entry = ef ∙ ap (λ (z : List ℕ). recv_entry t l.pair (key_id_of z)) same in
        let place = ex ∙ ap (λ (z : List ℕ). place_on_lem l reference (sequence z)) same in
        keyed (subst By (sym way) (transport (λ i. KeyGiven (em i) (eu i) (entry i) (place i) (flow i) (same i) r) b))

-- addresses of one size
module _ (a b : List ℕ) (e : sized a b ≡ true) where
  sizes : ((length a ≡ 4) × (length b ≡ 4)) ⊎ ((length a ≡ 16) × (length b ≡ 16))
  sizes =
      ⊎_elim (λ (q : (eqb (length a) 4 && eqb (length b) 4) ≡ true). let p = and-true _ _ q in inl (eqb-true _ _ p.0, eqb-true _ _ p.1))
      (λ (q : (eqb (length a) 16 && eqb (length b) 16) ≡ true). let p = and-true _ _ q in inr (eqb-true _ _ p.0, eqb-true _ _ p.1))
      (or-true (eqb (length a) 4 && eqb (length b) 4) _ e)

  -- the family of their pair, as we hold it, gives the addresses back
  same_width : (length a ≡ width (cond (eqb (length b) 4) 4 6)) × (length b ≡ width (cond (eqb (length b) 4) 4 6))
  unfolding width
  same_width = ⊎_elim (λ p. rw (p.0, p.1) (refl, refl)) (λ p. rw (p.0, p.1) (refl, refl)) sizes

  flow-back : (s : List ℕ) → arriving_on (arrival_pair_of (record { source = a; destination = b; segment = s })) (sequence s) 0 ≡ arriving_syn (record { source = a; destination = b; segment = s })
  flow-back s =
      let w = same_width in
      λ i. record {
        source = take_at a (replicate (16 - length a) 0) _ w.0 i;
        destination = take_at b (replicate (16 - length b) 0) _ w.1 i;
        source_port = source_port_of s;
        destination_port = destination_port_of s;
        source_isn = sequence s;
        destination_isn = 0;
      }

-- Without a state.
module _ (t : Tables) (a : Arrival) (strict : Bool) {s : List ℕ} {h : Header}
    (early : Ok s ≡ result_and (checked (input_tests t a.source a.destination ++ intact_tests a)) (Ok a.segment))
    (read : h ≡ header_of_lem (length s) s) where
  abbrev syn_group : Groups
  syn_group = syn_groups t a strict

  abbrev pair : Pair
  pair = arrival_pair_of a

  abbrev syn_answer : Outcome
  syn_answer = good_by (syn_is_md5 t pair) (Some (sequence a.segment)) a.segment

  abbrev syn_expected : ℕ → Expected
  syn_expected = expected_syn t pair (arriving_syn a) a.segment

  abbrev syn_early_tests : List (Test Outcome)
  syn_early_tests = input_tests t a.source a.destination ++ intact_tests a

  syn-n1 : checked syn_early_tests ≡ Ok tt
  syn-n1 = (and-ok (checked syn_early_tests) a.segment (sym early)).0

  syn-same : s ≡ a.segment
  syn-same = sym (and-ok (checked syn_early_tests) a.segment (sym early)).1

  syn-input : NoneApplies (input_tests t a.source a.destination)
  syn-input = (none-split (input_tests t a.source a.destination) (intact_tests a) (checked-none syn_early_tests syn-n1)).0

  syn-sized : sized a.source a.destination ≡ true
  syn-sized = none-sized t a.source a.destination syn-input

  pub syn-valid : is_refused t.answer ≡ false
  syn-valid = none-valid t a.source a.destination syn-input

  syn-header : h ≡ header_of_lem (length a.segment) a.segment
  syn-header = read ∙ ap (λ (z : List ℕ). header_of_lem (length z) z) syn-same

  abbrev syn_formed_tests : Header → List (Test Outcome)
  syn_formed_tests x = option_tests x.options ++ header_syn_tests x

  syn-formed-is : (r : Result Unit Outcome) → r ≡ checked (syn_formed_tests h) → checked (syn_group.form ++ syn_group.arrival) ≡ r
  syn-formed-is r e = sym (e ∙ ap (λ (h : Header). checked (syn_formed_tests h)) syn-header)

  pub syn-formed : {e : Outcome} → Err e ≡ checked (syn_formed_tests h) → JudgesSyn t a strict (Err e)
  syn-formed {e} n = at-formed syn_group syn_answer syn_expected syn-n1 refl (syn-formed-is (Err e) n)

  -- the code has the pair p and the flow from it; by the definition the flow of a bare SYN is made of the arrival itself
  module _ (n2 : Ok tt ≡ checked (syn_formed_tests h)) {p : Pair} (pairs : p ≡ pair) {fl : Flow} (flows : fl ≡ arriving_on p (sequence s) 0)
      (r : Result Begun Outcome) where
    flow-is : fl ≡ arriving_syn a
    flow-is =
        flows ∙ (λ i. arriving_on (pairs i) (sequence (syn-same i)) 0)
        ∙ flow-back a.source a.destination syn-sized a.segment

    abbrev BySyn : Bool → Type 0
    BySyn way =
        Begins
        (first
        (cond way (md5_tests (md5_entry t pair) a.segment)
        (key_tests (syn_missing_of t pair) (syn_unknown_of t pair strict) (recv_entry t pair (key_id_of a.segment)) (Some (sequence a.segment)) a.segment))
        (good_by way (Some (sequence a.segment)) a.segment))
        (cond way (by_md5_of (md5_entry t pair).entry (arriving_syn a) a.segment)
        (by_ao (recv_entry t pair (key_id_of a.segment)).entry (arriving_syn a) a.segment)) r

    syn-keyed : BySyn (syn_is_md5 t pair) → JudgesSyn t a strict r
    syn-keyed b = at-key syn_group syn_answer syn_expected syn-n1 r (syn-formed-is (Ok tt) n2) b

    pub syn-by-md5 : {f : Found} → f ≡ md5_entry t p → f.there ≡ true → Md5Given f (sequence s) fl s r → JudgesSyn t a strict r
    syn-by-md5 ef there b =
        let entry = ef ∙ ap (md5_entry t) pairs in
        let way : syn_is_md5 t pair ≡ true = ap (λ (f : Found). f.there) (sym entry) ∙ there in
        syn-keyed (subst BySyn (sym way) (transport (λ i. Md5Given (entry i) (sequence (syn-same i)) (flow-is i) (syn-same i) r) b))

    pub syn-by-ao : {f : Found} → f ≡ md5_entry t p → f.there ≡ false → {m u : Outcome} {e : Found} {x : Place} → m ≡ syn_missing_of t p
        → u ≡ syn_unknown_of t p strict → e ≡ recv_entry t p (key_id_of s) → x ≡ Some (sequence s) → KeyGiven m u e x fl s r
        → JudgesSyn t a strict r
    syn-by-ao ef there em eu ee ex b =
        let way : syn_is_md5 t pair ≡ false = ap (λ (f : Found). f.there) (sym (ef ∙ ap (md5_entry t) pairs)) ∙ there in
        let missing = em ∙ ap (syn_missing_of t) pairs in
        let unknown = eu ∙ ap (λ (p : Pair). syn_unknown_of t p strict) pairs in
        let entry = ee ∙ (λ i. recv_entry t (pairs i) (key_id_of (syn-same i))) in
        let place = ex ∙ ap (λ (z : List ℕ). Some (sequence z)) syn-same in
        syn-keyed (subst BySyn (sym way)
        (transport (λ i. KeyGiven (missing i) (unknown i) (entry i) (place i) (flow-is i) (syn-same i) r) b))

-- The laws above by the single groups, for a caller that asks these one by one: what the groups come to at the seams.

-- the input's tests, the size and the sum passed one by one: the first seam is passed
early-is : (g : List (Test Outcome)) (a : Arrival) {s : List ℕ} → checked g ≡ Ok tt
    → result_and (checked (length_tests 20 a.segment)) (Ok a.segment) ≡ Ok s → checked (sum_tests a) ≡ Ok tt
    → Ok s ≡ result_and (checked (g ++ intact_tests a)) (Ok a.segment)
early-is g a {s} n size sum =
    let k = and-ok (checked (length_tests 20 a.segment)) a.segment size in
    rw (checked-append g (intact_tests a), n, checked-append (length_tests 20 a.segment) (sum_tests a), k.0, sum) (ap Ok (sym k.1))

-- an error of the first of two groups, and what the second gives where the first lets by
at-first : (f g : List (Test Outcome)) {e : Outcome} → Err e ≡ checked f → Err e ≡ checked (f ++ g)
at-first f g n = rw (checked-append f g, ← n) refl

at-second : (f g : List (Test Outcome)) (r : Result Unit Outcome) → Ok tt ≡ checked f → r ≡ checked g → r ≡ checked (f ++ g)
at-second f g r n m = rw (checked-append f g, ← n) m

-- With a state.
module _ (t : Tables) (l : Connection) (reference : ℕ) (a : Arrival) {s : List ℕ} {h : Header}
    (size : result_and (checked (length_tests 20 a.segment)) (Ok a.segment) ≡ Ok s) (read : h ≡ header_of_lem (length s) s)
    (n1 : checked (state_tests t a.source a.destination l) ≡ Ok tt) (n3 : checked (sum_tests a) ≡ Ok tt) where
  seam : Ok s ≡ result_and (checked (state_tests t a.source a.destination l ++ intact_tests a)) (Ok a.segment)
  seam = early-is (state_tests t a.source a.destination l) a n1 size n3

  abbrev arrival_group : List (Test Outcome)
  arrival_group = header_arrival_tests l a.source a.destination h

  pub judge-form : {e : Outcome} → Err e ≡ checked (option_tests h.options) → Judges t l reference a (Err e)
  judge-form n = judge-formed t l reference a seam read (at-first (option_tests h.options) arrival_group n)

  module _ (n4 : Ok tt ≡ checked (option_tests h.options)) where
    pub judge-arrival : {e : Outcome} → Err e ≡ checked (header_arrival_tests l a.source a.destination h) → Judges t l reference a (Err e)
    judge-arrival {e} n = judge-formed t l reference a seam read (at-second (option_tests h.options) arrival_group (Err e) n4 n)

    module _ (n5 : Ok tt ≡ checked (header_arrival_tests l a.source a.destination h)) (r : Result Begun Outcome) where
      both : Ok tt ≡ checked (option_tests h.options ++ arrival_group)
      both = at-second (option_tests h.options) arrival_group (Ok tt) n4 n5

      pub judge-md5 : is_md5_of l ≡ true → {f : Found} {fl : Flow} → f ≡ md5_entry t l.pair → fl ≡ arriving l s
          → Md5Given f (sequence s) fl s r → Judges t l reference a r
      judge-md5 way ef efl b = judge-by-md5 t l reference a seam read both r way ef efl b

      pub judge-ao : is_md5_of l ≡ false → {m u : Outcome} {f : Found} {x : Place} {fl : Flow} → m ≡ refuse 25 → u ≡ refuse 26
          → f ≡ recv_entry t l.pair (key_id_of s) → x ≡ place_on_lem l reference (sequence s) → fl ≡ arriving l s
          → KeyGiven m u f x fl s r → Judges t l reference a r
      judge-ao way em eu ef ex efl b = judge-by-ao t l reference a seam read both r way em eu ef ex efl b

-- Without a state.
module _ (t : Tables) (a : Arrival) (strict : Bool) {s : List ℕ} {h : Header}
    (size : result_and (checked (length_tests 20 a.segment)) (Ok a.segment) ≡ Ok s) (read : h ≡ header_of_lem (length s) s)
    (n1 : checked (input_tests t a.source a.destination) ≡ Ok tt) (n3 : checked (sum_tests a) ≡ Ok tt) where
  syn-seam : Ok s ≡ result_and (checked (input_tests t a.source a.destination ++ intact_tests a)) (Ok a.segment)
  syn-seam = early-is (input_tests t a.source a.destination) a n1 size n3

  pub syn-form : {e : Outcome} → Err e ≡ checked (option_tests h.options) → JudgesSyn t a strict (Err e)
  syn-form n = syn-formed t a strict syn-seam read (at-first (option_tests h.options) (header_syn_tests h) n)

  module _ (n4 : Ok tt ≡ checked (option_tests h.options)) where
    pub syn-arrival : {e : Outcome} → Err e ≡ checked (header_syn_tests h) → JudgesSyn t a strict (Err e)
    syn-arrival {e} n = syn-formed t a strict syn-seam read (at-second (option_tests h.options) (header_syn_tests h) (Err e) n4 n)

    module _ (n5 : Ok tt ≡ checked (header_syn_tests h)) {p : Pair} (pairs : p ≡ arrival_pair_of a) {fl : Flow}
        (flows : fl ≡ arriving_on p (sequence s) 0) (r : Result Begun Outcome) where
      formed : Ok tt ≡ checked (option_tests h.options ++ header_syn_tests h)
      formed = at-second (option_tests h.options) (header_syn_tests h) (Ok tt) n4 n5

      pub syn-md5 : {f : Found} → f ≡ md5_entry t p → f.there ≡ true → Md5Given f (sequence s) fl s r → JudgesSyn t a strict r
      syn-md5 ef there b = syn-by-md5 t a strict syn-seam read formed pairs flows r ef there b

      pub syn-ao : {f : Found} → f ≡ md5_entry t p → f.there ≡ false → {m u : Outcome} {e : Found} {x : Place} → m ≡ syn_missing_of t p
          → u ≡ syn_unknown_of t p strict → e ≡ recv_entry t p (key_id_of s) → x ≡ Some (sequence s) → KeyGiven m u e x fl s r
          → JudgesSyn t a strict r
      syn-ao ef there em eu ee ex b = syn-by-ao t a strict syn-seam read formed pairs flows r ef there em eu ee ex b
