-- The statements of References.antt, proved.
use Rattle.std.specs.Prelude.{ℕ, ◌+◌, ◌-◌, ◌<◌, max, ◌≡◌, refl, Bool, true, false, cond, List, length, get_or, set, ltb, Ok, Err, Some}
use Rattle.std.specs.Prelude.{None}
use Rattle.std.proofs.Common.{ap, sym, ◌∙◌, subst, inl, arith, ltb-true, ltb-false}
use Rattle.std.proofs.lemmas.Bool.{not-false}
use Rattle.wire.specs.Header.{sequence}
use Rattle.keys.specs.declared.entry.Entry.{Entry}
use Rattle.tables.specs.Tables.{Admitted, Tables, send_entry, recv_entry, any_entry, md5_entry}
use Rattle.rules.specs.Position.{Place, position}
use Rattle.rules.specs.declared.Outcome.{Outcome}
use Rattle.rules.specs.declared.Outcome.TheVariants.{Good, Passed, Bad}
use Rattle.rules.specs.declared.Verdict.TheVariants.{Accept, Drop}
use Rattle.rules.specs.declared.State.{State}
use Rattle.rules.specs.Signing as S
use Rattle.rules.specs.Done as D
use Rattle.octets.specs.Tests.{first}
use Rattle.octets.specs.TestLaws.{NoneApplies, each_gives, first-none, none-applied}
use Rattle.rules.specs.Segment.{key_id_of, rnext_key_id}
use Rattle.rules.specs.Connection.{Arrival, pair_of_lem, arrival_pair_of, is_open_of, is_md5_of, place_on_lem, located, value, bump, stop}
use Rattle.rules.specs.Connection.{slot, count_at_lem, count_drop_of, next_key_of, empty, with_drop_of, with_asked_of}
use Rattle.rules.specs.Calls.{refuse, refusal, good_by, check, check_syn_of, judge_groups, syn_is_md5, judge_syn_tests, after_judging_of}
use Rattle.rules.specs.Calls.{judged, opened_on, opened_by_lem, opened_passively, settled_by_lem, unrefused, open_tests, opened_actively}
use Rattle.rules.specs.Calls.{opened_actively_md5, ask_tests, asked, outgoing, check_sign, after_signing_of, signed_by, signed}
use Rattle.rules.proofs.PositionLaws.{place-md5}
use Rattle.rules.proofs.JudgeLaws.{none_of}
use Rattle.rules.proofs.SigningLaws.{signs-good, signed-good}
use Rattle.rules.proofs.CountLaws.{slot_is, slot-40, slot-44, slot-45, slot-46, slot-47, slot-none}
use Rattle.rules.proofs.GroupLaws.{Clear, key-ao, unknown-passes}
use Rattle.rules.proofs.KeptLaws.{good-is}
use Rattle.rules.proofs.GivenNumberLaws.{ask-not-passed, open-not-passed}
use Rattle.rules.specs.References.{count_up, SignedOpen, SignedOpenMd5, SignedOpening, OpensActively, OpensActivelyMd5, OpensPassively}
use Rattle.rules.specs.References.{OpensPassivelyMd5, SynAckOpens, SynAckOpensMd5, AcceptedOpen, AcceptedOpenMd5, dropped_to, DropCounted}
use Rattle.rules.specs.References.{Drop40Counted, Drop46Counted, Drop47Counted, DropUncounted, Drop44Uncounted, Drop45Uncounted}
use Rattle.rules.specs.References.{DropOpening, SigningRefused, Asks, AskingRefused}

-- a place that is there
at_value : (p : Place) → located p ≡ true → p ≡ Some (value p)
at_value (Some x) e = refl
at_value None e = let z : ◌≡◌ {A = ℕ} 0 1 = cc in absurd (omega arith)

-- Signing.

signed-state : (t : Tables) (s out : List ℕ) (q : State) (n : ℕ) → (signed t s out q).answer ≡ S.Signed n
    → (place_on_lem q.conn q.sent (sequence s) ≡ Some (value (place_on_lem q.conn q.sent (sequence s))))
    × ((signed t s out q).state ≡ after_signing_of (value (place_on_lem q.conn q.sent (sequence s))) q)
unfolding signed
signed-state t s out q n e =
    let g = signed-good t s out q n e in
    let p = signs-good t s out q g.0 g.1 g.2 in (
      at_value (place_on_lem q.conn q.sent (sequence s)) p.0.is-located,
      ap (λ (o : Outcome). (signed_by q s (outgoing t q).entry o).state) g.2 ∙ (λ j. after_signing_of (sym p.1 j) q),
    )

pub signed-open : SignedOpen
signed-open t s out q n opens way e =
    let p = rw (opens, way) at (signed-state t s out q n e) in
    (value (position q.sent (sequence s)), p.0, p.1)

pub signed-open-md5 : SignedOpenMd5
signed-open-md5 t s out q n opens way e = (rw (opens, way) at (signed-state t s out q n e)).1

pub signed-opening : SignedOpening
signed-opening t s out q n opens e = (rw opens at (signed-state t s out q n e)).1

pub signing-refused : SigningRefused
unfolding signed
signing-refused t s out q n e = go (check_sign t s (length out) q) refl
  where
    go : (o : Outcome) → check_sign t s (length out) q ≡ o → (signed_by q s (outgoing t q).entry (check_sign t s (length out) q)).state ≡ q
    go (Good x r) f = let z : ◌≡◌ {A = ℕ} 0 1 = cc (rw f at e) in absurd (omega arith)
    go Passed f = rw f
    go (Bad m i) f = rw f

-- What the tests came to where a segment is accepted: its position and RNextKeyID.

abbrev not_good : Outcome → Bool
not_good (Good x r) = false
not_good Passed = true
not_good (Bad n i) = true

missing-not-good : (b : Bool) (n : ℕ) → not_good (cond b (refuse n) Passed) ≡ true
missing-not-good true n = refl
missing-not-good false n = refl

table-not-good : (o : Admitted) → not_good (refusal o) ≡ true
table-not-good (Ok n) = refl
table-not-good (Err r) = refl

abbrev place_of : State → Arrival → Place
place_of q a = place_on_lem q.conn q.seen (sequence a.segment)

-- a place is found on either way
good-located : (t : Tables) (a : Arrival) (q : State) → Clear (judge_groups t q.conn q.seen a) → place_of q a ≡ Some (value (place_of q a))
good-located t a q c = go (is_md5_of q.conn) refl
  where
    go : (b : Bool) → is_md5_of q.conn ≡ b → place_of q a ≡ Some (value (place_of q a))
    go true w = let p = place-md5 q.conn q.seen (sequence a.segment) w in p ∙ ap (λ (x : Place). Some (value x)) (sym p)
    go false w =
        at_value (place_of q a)
        (not-false (located (place_of q a)) (subst NoneApplies (key-ao t q.conn q.seen a w) c.key).1.1.1.0)

good-at : (t : Tables) (a : Arrival) (q : State) (x r : ℕ) → check t q.conn q.seen a ≡ Good x r
    → (place_of q a ≡ Some (value (place_of q a))) × (value (place_of q a) ≡ x) × (cond (is_md5_of q.conn) 0 (rnext_key_id a.segment) ≡ r)
good-at t a q x r e =
    let g = good-is t q.conn q.seen a x r e in
    (good-located t a q (none_of t q.conn q.seen a x r e), g.0, g.1)

syn-good : (t : Tables) (a : Arrival) (strict : Bool) (x r : ℕ) → check_syn_of t a strict ≡ Good x r
    → (sequence a.segment ≡ x) × (cond (syn_is_md5 t (arrival_pair_of a)) 0 (rnext_key_id a.segment) ≡ r)
unfolding check_syn_of
syn-good t a strict x r e =
    let n = none-applied not_good (judge_syn_tests t a strict) _ (each (syn_is_md5 t (arrival_pair_of a)) refl) (ap not_good e) in
    let g =
    sym (first-none (judge_syn_tests t a strict) (good_by (syn_is_md5 t (arrival_pair_of a)) (Some (sequence a.segment)) a.segment) n) ∙ e in
    (cc, cc)
  where
    each : (b : Bool) → syn_is_md5 t (arrival_pair_of a) ≡ b → each_gives not_good (judge_syn_tests t a strict) ≡ true
    each true w = rw (w, table-not-good t.answer)
    each false w =
        let missing = missing-not-good (any_entry t (arrival_pair_of a)) 25 in
        let unknown = unknown-passes not_good t (arrival_pair_of a) strict refl refl in
        rw (w, table-not-good t.answer, missing, unknown)

-- The openings.

settled-done : (o : Outcome) (old new : State) → (o ≡ Passed → ⊥) → (settled_by_lem o old new).answer ≡ D.Succeeded → (settled_by_lem o old new).state ≡ new
settled-done (Good x r) old new p e = refl
settled-done Passed old new p e = absurd (p refl)
settled-done (Bad n i) old new p e = let z : ◌≡◌ {A = ℕ} 0 1 = cc in absurd (omega arith)

pub opens-actively : OpensActively
unfolding opened_actively
opens-actively t local remote local_port remote_port isn send_id e =
    let f = send_entry t (pair_of_lem local remote local_port remote_port) send_id in
    settled-done (first (open_tests t local remote f) unrefused) empty _ (open-not-passed t local remote f) e

pub opens-actively-md5 : OpensActivelyMd5
unfolding opened_actively_md5
opens-actively-md5 t local remote local_port remote_port isn e =
    let f = md5_entry t (pair_of_lem local remote local_port remote_port) in
    settled-done (first (open_tests t local remote f) unrefused) empty _ (open-not-passed t local remote f) e

-- an accepted bare SYN opens at its number
passively : (t : Tables) (a : Arrival) (isn : ℕ) (strict : Bool) (e : ℕ) → (opened_passively t a isn strict).verdict ≡ Accept e
    → (opened_passively t a isn strict).state
    ≡ opened_on t (arrival_pair_of a) isn (recv_entry t (arrival_pair_of a) (key_id_of a.segment)).entry (sequence a.segment)
    (cond (syn_is_md5 t (arrival_pair_of a)) 0 (rnext_key_id a.segment))
unfolding opened_passively
passively t a isn strict e v = go (check_syn_of t a strict) refl
  where
    entry : Entry
    entry = (recv_entry t (arrival_pair_of a) (key_id_of a.segment)).entry

    go : (o : Outcome) → check_syn_of t a strict ≡ o
        → (opened_passively t a isn strict).state
        ≡ opened_on t (arrival_pair_of a) isn entry (sequence a.segment) (cond (syn_is_md5 t (arrival_pair_of a)) 0 (rnext_key_id a.segment))
    go (Good x r) f =
        let g = syn-good t a strict x r f in
        ap (opened_by_lem t (arrival_pair_of a) isn entry) f ∙ (λ j. opened_on t (arrival_pair_of a) isn entry (sym g.0 j) (sym g.1 j))
    go Passed f = let z : ◌≡◌ {A = ℕ} 0 1 = cc (rw f at v) in absurd (omega arith)
    go (Bad n i) f = let z : ◌≡◌ {A = ℕ} 0 1 = cc (rw f at v) in absurd (omega arith)

pub opens-passively : OpensPassively
opens-passively t a isn strict e way v = rw way at (passively t a isn strict e v)

pub opens-passively-md5 : OpensPassivelyMd5
opens-passively-md5 t a isn strict e way v = rw way at (passively t a isn strict e v)

-- an accepted arrival, with a state
judged-good : (t : Tables) (a : Arrival) (q : State) (e : ℕ) → (judged t a q).verdict ≡ Accept e
    → (x : ℕ) × (r : ℕ) × (check t q.conn q.seen a ≡ Good x r)
unfolding judged
judged-good t a q e v = go (check t q.conn q.seen a) refl
  where
    go : (o : Outcome) → check t q.conn q.seen a ≡ o → (x : ℕ) × (r : ℕ) × (check t q.conn q.seen a ≡ Good x r)
    go (Good x r) f = (x, r, f)
    go Passed f = let z : ◌≡◌ {A = ℕ} 0 1 = cc (rw f at v) in absurd (omega arith)
    go (Bad n i) f = let z : ◌≡◌ {A = ℕ} 0 1 = cc (rw f at v) in absurd (omega arith)

after-good : (t : Tables) (a : Arrival) (q : State) (e : ℕ) → (judged t a q).verdict ≡ Accept e
    → (place_of q a ≡ Some (value (place_of q a)))
    × ((judged t a q).state ≡ after_judging_of t q (Good (value (place_of q a)) (cond (is_md5_of q.conn) 0 (rnext_key_id a.segment))))
unfolding judged
after-good t a q e v =
    let c = judged-good t a q e v in
    let g = good-at t a q c.0 c.1 c.2 in
    (g.0, ap (after_judging_of t q) c.2 ∙ (λ j. after_judging_of t q (Good (sym g.1 j) (sym g.2 j))))

pub syn-ack-opens : SynAckOpens
syn-ack-opens t a q e opens way v = (rw (opens, way) at (after-good t a q e v)).1

pub syn-ack-opens-md5 : SynAckOpensMd5
syn-ack-opens-md5 t a q e opens way v = (rw (opens, way) at (after-good t a q e v)).1

-- Judging, once open.

bump-one : (n : ℕ) → n < 18446744073709551616 → bump n ≡ count_up n
bump-one n h = go (ltb n stop) refl
  where
    go : (b : Bool) → ltb n stop ≡ b → bump n ≡ count_up n
    go true e = rw e (omega (arith, ltb-true n stop e))
    go false e = rw e (omega (arith, ltb-false n stop e))

pub accepted-open : AcceptedOpen
accepted-open t a q e opens way h v =
    let p = rw (opens, way) at (after-good t a q e v) in
    let x = value (position q.seen (sequence a.segment)) in (
      x,
      p.0,
      p.1 ∙ (λ j. record {
        conn = q.conn;
        sent = q.sent;
        seen = max q.seen x;
        send_id = next_key_of t q.conn.pair (rnext_key_id a.segment) q.send_id;
        ask_id = q.ask_id;
        accepted = bump-one q.accepted h j;
        drops = q.drops;
      }),
    )

pub accepted-open-md5 : AcceptedOpenMd5
accepted-open-md5 t a q e opens way h v =
    (rw (opens, way) at (after-good t a q e v)).1 ∙ (λ j. record {
      conn = q.conn;
      sent = q.sent;
      seen = q.seen;
      send_id = q.send_id;
      ask_id = q.ask_id;
      accepted = bump-one q.accepted h j;
      drops = q.drops;
    })

after-drop : (t : Tables) (a : Arrival) (q : State) (n : ℕ) → (judged t a q).verdict ≡ Drop n
    → (judged t a q).state ≡ cond (is_open_of q.conn) (with_drop_of n q) q
unfolding judged
after-drop t a q n v = go (check t q.conn q.seen a) refl
  where
    go : (o : Outcome) → check t q.conn q.seen a ≡ o
        → after_judging_of t q (check t q.conn q.seen a) ≡ cond (is_open_of q.conn) (with_drop_of n q) q
    go (Good x r) f = let z : ◌≡◌ {A = ℕ} 0 1 = cc (rw f at v) in absurd (omega arith)
    go Passed f = let z : ◌≡◌ {A = ℕ} 0 1 = cc (rw f at v) in absurd (omega arith)
    go (Bad m i) f = let z : m ≡ n = cc (rw f at v) in rw f (ap (λ (k : ℕ). cond (is_open_of q.conn) (with_drop_of k q) q) z)

-- a drop whose number has the place i
counted-at : (t : Tables) (a : Arrival) (q : State) (n i : ℕ) → slot n ≡ Some i → is_open_of q.conn ≡ true
    → get_or q.drops i 0 < 18446744073709551616 → (judged t a q).verdict ≡ Drop n
    → (judged t a q).state ≡ dropped_to (set q.drops i (count_up (get_or q.drops i 0))) q
unfolding count_drop_of
counted-at t a q n i place opens l v =
    (rw opens at (after-drop t a q n v))
    ∙ ap (λ (p : Place). dropped_to (count_at_lem p q.drops) q) place
    ∙ ap (λ (n : ℕ). dropped_to (set q.drops i n) q) (bump-one (get_or q.drops i 0) l)

pub drop-counted : DropCounted
drop-counted t a q i opens h l v =
    let it : 20 + i - 20 ≡ i = omega arith in
    counted-at t a q (20 + i) i (slot_is (20 + i) (omega arith) (omega arith) ∙ ap Some it) opens l v

pub drop-40-counted : Drop40Counted
drop-40-counted t a q opens l v = counted-at t a q 40 10 slot-40 opens l v

pub drop-46-counted : Drop46Counted
drop-46-counted t a q opens l v = counted-at t a q 46 11 slot-46 opens l v

pub drop-47-counted : Drop47Counted
drop-47-counted t a q opens l v = counted-at t a q 47 12 slot-47 opens l v

-- a drop whose number has no place
uncounted : (t : Tables) (a : Arrival) (q : State) (n : ℕ) → slot n ≡ None → (judged t a q).verdict ≡ Drop n → (judged t a q).state ≡ q
unfolding count_drop_of
uncounted t a q n place v = go (is_open_of q.conn) refl
  where
    go : (b : Bool) → is_open_of q.conn ≡ b → (judged t a q).state ≡ q
    go true o = (rw o at (after-drop t a q n v)) ∙ ap (λ (p : Place). dropped_to (count_at_lem p q.drops) q) place
    go false o = rw o at (after-drop t a q n v)

pub drop-uncounted : DropUncounted
drop-uncounted t a q n h v =
    uncounted t a q n (slot-none n (inl h) (λ e. omega arith) (λ e. omega arith) (λ e. omega arith)) v

pub drop-44-uncounted : Drop44Uncounted
drop-44-uncounted t a q v = uncounted t a q 44 slot-44 v

pub drop-45-uncounted : Drop45Uncounted
drop-45-uncounted t a q v = uncounted t a q 45 slot-45 v

pub drop-opening : DropOpening
drop-opening t a q n opens v = rw opens at (after-drop t a q n v)

-- Asking.

pub asks : Asks
unfolding asked
asks t id q e = settled-done (first (ask_tests t id q.conn) unrefused) q (with_asked_of id q) (ask-not-passed t id q.conn) e

pub asking-refused : AskingRefused
unfolding asked
asking-refused t id q n e = go (first (ask_tests t id q.conn) unrefused) e
  where
    go : (o : Outcome) → (settled_by_lem o q (with_asked_of id q)).answer ≡ D.Refused n → (settled_by_lem o q (with_asked_of id q)).state ≡ q
    go (Good x r) f = let z : ◌≡◌ {A = ℕ} 0 1 = cc in absurd (omega arith)
    go Passed f = refl
    go (Bad m i) f = refl
