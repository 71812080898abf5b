-- The two ways, proved: the statements of Ways.antt. Assumes nothing of tables or of the calls' order.
use Rattle.std.specs.Prelude.{ℕ, ◌≡◌, Bool, cond, not, List, [], ◌∷◌, length, eqb, Ok, Err, Some}
use Rattle.std.proofs.Math.Path.{refl, sym, subst⁻¹}
use Rattle.std.proofs.Common.{ap, ap₂, ◌∙◌, subst, arith, ltb-false, eqb-true}
use Rattle.std.proofs.Math.Bool.{true, false}
use Rattle.std.proofs.lemmas.Bool.{not-false}
use Rattle.octets.specs.Each.{Octets}
use Rattle.octets.specs.Tests.{first}
use Rattle.octets.specs.TestLaws.{NoneApplies, each_gives, none-applied}
use Rattle.wire.proofs.BytesLaws.{eq-of-same}
use Rattle.wire.specs.Header.{sequence}
use Rattle.keys.specs.declared.entry.Pair.{Pair}
use Rattle.keys.specs.declared.entry.Entry.{Entry}
use Rattle.keys.specs.Table.{Found}
use Rattle.keys.specs.Entry.{is_family_of, key_of}
use Rattle.tables.specs.Tables.{Admitted, Tables, recv_entry, any_entry, md5_entry}
use Rattle.rules.specs.Position.{Place}
use Rattle.rules.specs.declared.Outcome.{Outcome}
use Rattle.rules.specs.declared.Outcome.TheVariants.{Good, Passed, Bad}
use Rattle.rules.specs.declared.Verdict.TheVariants.{Accept}
use Rattle.rules.specs.declared.State.{State}
use Rattle.rules.specs.Segment.{ao, md5, key_id_of, digest_in}
use Rattle.rules.specs.Digest.{segment_digest}
use Rattle.rules.specs.Mac.{Flow}
use Rattle.rules.specs.Connection.{Arrival, arrival_pair_of, is_open_of, is_md5_of, arriving, arriving_syn, place_on_lem, value}
use Rattle.rules.specs.Connection.{extension_of_lem, with_asked_of}
use Rattle.rules.specs.Calls.{refuse, is_refused, refusal, form_tests, md5_tests, digest_tests, good_by, judge_groups, check}
use Rattle.rules.specs.Calls.{syn_missing_of, syn_is_md5, syn_groups, judge_syn_tests, check_syn_of, verdict_of_lem, after_judging_of}
use Rattle.rules.specs.Calls.{judged, judged_syn, opened_by_lem, opened_passively, unrefused, settled_by_lem, ask_tests, asked, outgoing}
use Rattle.rules.specs.Calls.{check_sign, signed_by, signed}
use Rattle.rules.proofs.GroupLaws.{Clear, none-clear, first-clear, key-ao, key-md5, mac-md5, syn-key-ao, syn-key-md5, syn-mac-md5}
use Rattle.rules.proofs.GroupLaws.{unknown-passes}
use Rattle.rules.proofs.JudgeLaws.{nonzero, absent, none_of}
use Rattle.rules.specs.History.{Call, judge, sign, ask, next, ended}
use Rattle.rules.specs.Lent.{tables}
use Rattle.rules.specs.Ways.{ByAo, ByMd5, AcceptedByMd5, AcceptedByAo, SynAcceptedByMd5, SynAcceptedByAo, OpenedByMd5, OpenedByAo, WayStays}
use Rattle.rules.specs.Ways.{Md5Still}
use Rattle.rules.proofs.PositionLaws.{place-md5}
use Rattle.rules.proofs.AcceptanceLaws.{sequence-below}

-- What the tests of each way leave, where none of them applies.

by-ao : (s : List ℕ) → NoneApplies (form_tests s) → eqb (ao s).count 0 ≡ false → ByAo s
by-ao s form some = record { signed = one; no-md5 = absent (ao s).count (md5 s).count form.1.1.0 one }
  where
    one : (ao s).count ≡ 1
    one = omega (arith, ltb-false 1 (ao s).count form.1.0, nonzero (ao s).count some)

by-md5 : (s : List ℕ) (f : Found) → NoneApplies (form_tests s) → NoneApplies (md5_tests f s) → ByMd5 s
by-md5 s f form key =
    record {
      signed = omega (arith, ltb-false 1 (md5 s).count form.1.1.1.0, nonzero (md5 s).count key.1.0);
      no-ao = omega (arith, ltb-false 0 (ao s).count key.0);
      length = eqb-true _ _ (not-false _ key.1.1.1.0);
    }

-- under the key of the entry found, in the flow f
authentic : (f : Found) (w : Flow) (s : List ℕ) → NoneApplies (md5_tests f s) → NoneApplies (digest_tests f.entry w s)
    → (f.there ≡ true) × (digest_in s ≡ segment_digest (key_of f.entry.secret) w.source w.destination s)
authentic f w s key mac = (not-false _ key.1.1.0, eq-of-same _ _ (not-false _ mac.0))

-- an accept is given where the tests come to Good
accepts : (o : Outcome) (e : ℕ) → verdict_of_lem o ≡ Accept e → (x : ℕ) × (r : ℕ) × (o ≡ Good x r) × (extension_of_lem x ≡ e)
accepts (Good x r) e v = (x, r, refl, cc)
accepts Passed e v = let z : ◌≡◌ {A = ℕ} 0 1 = cc in absurd (omega arith)
accepts (Bad n i) e v = let z : ◌≡◌ {A = ℕ} 0 1 = cc in absurd (omega arith)

-- "An MD5 accept has extension 0": the position is the segment's number
no-extension : (s : List ℕ) → Octets s → (y : Place) → y ≡ Some (sequence s) → (k x r e : ℕ) → Good (value y) k ≡ Good x r
    → extension_of_lem x ≡ e → e ≡ 0
no-extension s octets y at k x r e g h =
    let z : sequence s ≡ x = ap value (sym at) ∙ cc in
    omega (arith, z, h, sequence-below s octets)

-- With a state.

module _ (t : Tables) (a : Arrival) (q : State) (e : ℕ) (v : (judged t a q).verdict ≡ Accept e) where
  good : (x : ℕ) × (r : ℕ) × (check t q.conn q.seen a ≡ Good x r) × (extension_of_lem x ≡ e)
  unfolding judged
  good = accepts (check t q.conn q.seen a) e v

  clear : Clear (judge_groups t q.conn q.seen a)
  clear = none_of t q.conn q.seen a good.0 good.1 good.2

  given : good_by (is_md5_of q.conn) (place_on_lem q.conn q.seen (sequence a.segment)) a.segment ≡ Good good.0 good.1
  unfolding check
  given = sym (first-clear (judge_groups t q.conn q.seen a) _ clear) ∙ good.2

pub accepted-by-ao : AcceptedByAo
accepted-by-ao t a q e way v =
    let k = subst NoneApplies (key-ao t q.conn q.seen a way) (clear t a q e v).key in
    by-ao a.segment (clear t a q e v).form k.0

pub accepted-by-md5 : AcceptedByMd5
accepted-by-md5 t a q e octets way v = (
  by-md5 a.segment f c.form key,
  record { there = found.0; digest = found.1 ∙ between },
  no-extension a.segment octets (place_on_lem q.conn q.seen (sequence a.segment))
      (place-md5 q.conn q.seen (sequence a.segment) way) _ (good t a q e v).0 _ e (given t a q e v) (good t a q e v).3,
)
  where
    c : Clear (judge_groups t q.conn q.seen a)
    c = clear t a q e v

    f : Found
    f = md5_entry t q.conn.pair

    key : NoneApplies (md5_tests f a.segment)
    key = subst NoneApplies (key-md5 t q.conn q.seen a way) c.key

    flow : Flow
    flow = arriving q.conn a.segment

    found : (f.there ≡ true)
        × (digest_in a.segment ≡ segment_digest (key_of f.entry.secret) flow.source flow.destination a.segment)
    found = authentic f flow a.segment key (subst NoneApplies (mac-md5 t q.conn q.seen a way) c.mac)

    between : segment_digest (key_of f.entry.secret) flow.source flow.destination a.segment
        ≡ segment_digest (key_of f.entry.secret) a.source a.destination a.segment
    between =
        sym
        (ap₂ (λ (m n : List ℕ). segment_digest (key_of f.entry.secret) m n a.segment)
        (eq-of-same _ _ (not-false _ c.arrival.0)) (eq-of-same _ _ (not-false _ c.arrival.1.0)))

-- Without one: 25 and 26 of a bare SYN may give pass, and then none of these calls accepts.

abbrev not_good : Outcome → Bool
not_good (Good x r) = false
not_good Passed = true
not_good (Bad n i) = true

refusal-not-good : (c : Admitted) → not_good (refusal c) ≡ true
refusal-not-good (Ok n) = refl
refusal-not-good (Err r) = refl

missing-not-good : (t : Tables) (p : Pair) → not_good (syn_missing_of t p) ≡ true
missing-not-good t p = go (any_entry t p)
  where
    go : (b : Bool) → not_good (cond b (refuse 25) Passed) ≡ true
    go true = refl
    go false = refl

module _ (t : Tables) (a : Arrival) (strict : Bool) (e : ℕ) (v : (judged_syn t a strict).verdict ≡ Accept e) where
  syn-good : (x : ℕ) × (r : ℕ) × (check_syn_of t a strict ≡ Good x r) × (extension_of_lem x ≡ e)
  unfolding judged_syn
  syn-good = accepts (check_syn_of t a strict) e v

  syn-clear : Clear (syn_groups t a strict)
  unfolding check_syn_of
  syn-clear =
      none-clear (syn_groups t a strict)
      (none-applied not_good (judge_syn_tests t a strict) _ (each (syn_is_md5 t (arrival_pair_of a)) refl) (ap not_good syn-good.2))
    where
      each : (w : Bool) → syn_is_md5 t (arrival_pair_of a) ≡ w → each_gives not_good (judge_syn_tests t a strict) ≡ true
      each true p = rw (p, refusal-not-good t.answer)
      each false p =
          let missing = missing-not-good t (arrival_pair_of a) in
          let unknown = unknown-passes not_good t (arrival_pair_of a) strict refl refl in
          rw (p, refusal-not-good t.answer, missing, unknown)

  syn-given : good_by (syn_is_md5 t (arrival_pair_of a)) (Some (sequence a.segment)) a.segment ≡ Good syn-good.0 syn-good.1
  unfolding check_syn_of
  syn-given = sym (first-clear (syn_groups t a strict) _ syn-clear) ∙ syn-good.2

pub syn-accepted-by-ao : SynAcceptedByAo
syn-accepted-by-ao t a strict e way v =
    let k = subst NoneApplies (syn-key-ao t a strict way) (syn-clear t a strict e v).key in
    by-ao a.segment (syn-clear t a strict e v).form k.0

pub syn-accepted-by-md5 : SynAcceptedByMd5
syn-accepted-by-md5 t a strict e octets way v = (
  by-md5 a.segment f c.form key,
  record { there = found.0; digest = found.1 },
  no-extension a.segment octets (Some (sequence a.segment)) refl _ (syn-good t a strict e v).0 _ e (syn-given t a strict e v)
      (syn-good t a strict e v).3,
)
  where
    c : Clear (syn_groups t a strict)
    c = syn-clear t a strict e v

    f : Found
    f = md5_entry t (arrival_pair_of a)

    key : NoneApplies (md5_tests f a.segment)
    key = subst NoneApplies (syn-key-md5 t a strict way) c.key

    found : (f.there ≡ true) × (digest_in a.segment ≡ segment_digest (key_of f.entry.secret) a.source a.destination a.segment)
    found = authentic f (arriving_syn a) a.segment key (subst NoneApplies (syn-mac-md5 t a strict way) c.mac)

-- A passive opening judges as judging does, and opens by the way of the tables.

opened-way : (t : Tables) (p : Pair) (isn : ℕ) (e : Entry) (o : Outcome) (k w : ℕ) (b : Bool) → verdict_of_lem o ≡ Accept k → syn_is_md5 t p ≡ b
    → cond b 1 0 ≡ w → (opened_by_lem t p isn e o).conn.way ≡ w
opened-way t p isn e (Good x r) k w true v h d = rw h d
opened-way t p isn e (Good x r) k w false v h d = rw h d
opened-way t p isn e Passed k w b v h d = let z : ◌≡◌ {A = ℕ} 0 1 = cc in absurd (omega arith)
opened-way t p isn e (Bad n i) k w b v h d = let z : ◌≡◌ {A = ℕ} 0 1 = cc in absurd (omega arith)

module _ (t : Tables) (a : Arrival) (isn : ℕ) (strict : Bool) (e : ℕ) (v : (opened_passively t a isn strict).verdict ≡ Accept e) where
  judged-so : (judged_syn t a strict).verdict ≡ Accept e
  unfolding opened_passively judged_syn
  judged-so = v

  way_of : (w : ℕ) (b : Bool) → syn_is_md5 t (arrival_pair_of a) ≡ b → cond b 1 0 ≡ w → (opened_passively t a isn strict).state.conn.way ≡ w
  unfolding opened_passively
  way_of w b h d =
      opened-way t (arrival_pair_of a) isn (recv_entry t (arrival_pair_of a) (key_id_of a.segment)).entry (check_syn_of t a strict) e w b v h d

pub opened-by-ao : OpenedByAo
opened-by-ao t a isn strict e way v = (way_of t a isn strict e v 0 false way refl, syn-accepted-by-ao t a strict e way (judged-so t a isn strict e v))

pub opened-by-md5 : OpenedByMd5
opened-by-md5 t a isn strict e way v =
    let c = syn-clear t a strict e (judged-so t a isn strict e v) in (
      way_of t a isn strict e v 1 true way refl,
      by-md5 a.segment (md5_entry t (arrival_pair_of a)) c.form (subst NoneApplies (syn-key-md5 t a strict way) c.key),
    )

-- Over any list of calls: the way.

judge-way : (t : Tables) (q : State) (o : Outcome) → (after_judging_of t q o).conn.way ≡ q.conn.way
judge-way t q (Good x r) = go (is_open_of q.conn) (is_md5_of q.conn) refl refl
  where
    go : (o m : Bool) → is_open_of q.conn ≡ o → is_md5_of q.conn ≡ m → (after_judging_of t q (Good x r)).conn.way ≡ q.conn.way
    go true true p w = rw (p, w)
    go true false p w = rw (p, w)
    go false m p w = rw p
judge-way t q Passed = refl
judge-way t q (Bad n i) = go (is_open_of q.conn) refl
  where
    go : (o : Bool) → is_open_of q.conn ≡ o → (after_judging_of t q (Bad n i)).conn.way ≡ q.conn.way
    go true p = rw p
    go false p = rw p

sign-way : (q : State) (s : List ℕ) (e : Entry) (o : Outcome) → (signed_by q s e o).state.conn.way ≡ q.conn.way
sign-way q s e (Good x r) = go (is_open_of q.conn) (is_md5_of q.conn) refl refl
  where
    go : (o m : Bool) → is_open_of q.conn ≡ o → is_md5_of q.conn ≡ m → (signed_by q s e (Good x r)).state.conn.way ≡ q.conn.way
    go true true p w = rw (p, w)
    go true false p w = rw (p, w)
    go false m p w = rw p
sign-way q s e Passed = refl
sign-way q s e (Bad n i) = refl

ask-way : (q : State) (id : ℕ) (o : Outcome) → (settled_by_lem o q (with_asked_of id q)).state.conn.way ≡ q.conn.way
ask-way q id (Good x r) = refl
ask-way q id Passed = refl
ask-way q id (Bad n i) = refl

next_way : (q : State) (c : Call) → (next c q).conn.way ≡ q.conn.way
unfolding judged signed asked
next_way q (judge b a) = judge-way (tables b) q (check (tables b) q.conn q.seen a)
next_way q (sign b s out) = sign-way q s (outgoing (tables b) q).entry (check_sign (tables b) s (length out) q)
next_way q (ask b id) = ask-way q id (first (ask_tests (tables b) id q.conn) unrefused)

pub way-stays : WayStays
way-stays q [] = refl
way-stays q (c ∷ l) = way-stays (next c q) l ∙ next_way q c

-- Over any list of calls: each leaves what the next one's way and stage go by.
record Stays (q r : State) : Type 0 where
  conn : r.conn ≡ q.conn
  sent : r.sent ≡ q.sent
  seen : r.seen ≡ q.seen
  send-id : r.send_id ≡ q.send_id
  ask-id : r.ask_id ≡ q.ask_id

module _ (q : State) (opens : is_open_of q.conn ≡ true) (way : is_md5_of q.conn ≡ true) where
  itself : Stays q q
  itself = record { conn = refl; sent = refl; seen = refl; send-id = refl; ask-id = refl }

  judge-stays : (t : Tables) (o : Outcome) → Stays q (after_judging_of t q o)
  judge-stays t (Good x r) = rw (opens, way) (record { conn = refl; sent = refl; seen = refl; send-id = refl; ask-id = refl })
  judge-stays t Passed = itself
  judge-stays t (Bad n i) = rw opens (record { conn = refl; sent = refl; seen = refl; send-id = refl; ask-id = refl })

  sign-stays : (s : List ℕ) (e : Entry) (o : Outcome) → Stays q (signed_by q s e o).state
  sign-stays s e (Good x r) = rw (opens, way) itself
  sign-stays s e Passed = itself
  sign-stays s e (Bad n i) = itself

  -- "asking: always 35", unless an earlier number is given
  ask-stays : (t : Tables) (id : ℕ) → (settled_by_lem (first (ask_tests t id q.conn) unrefused) q (with_asked_of id q)).state ≡ q
  ask-stays t id = go (not (is_family_of q.conn.pair.family)) (is_refused t.answer) refl refl t.answer refl
    where
      go : (f r : Bool) → not (is_family_of q.conn.pair.family) ≡ f → is_refused t.answer ≡ r → (c : Admitted) → t.answer ≡ c
          → (settled_by_lem (first (ask_tests t id q.conn) unrefused) q (with_asked_of id q)).state ≡ q
      go true r p d c k = rw p
      go false true p d (Ok n) k = rw (p, d, k)
      go false true p d (Err r) k = rw (p, d, k)
      go false false p d c k = rw (p, d, way)

  next-stays : (c : Call) → Stays q (next c q)
  unfolding judged signed asked
  next-stays (judge b a) = judge-stays (tables b) (check (tables b) q.conn q.seen a)
  next-stays (sign b s out) = sign-stays s (outgoing (tables b) q).entry (check_sign (tables b) s (length out) q)
  next-stays (ask b id) = subst⁻¹ (Stays q) (ask-stays (tables b) id) itself

ended-stays : (l : List Call) (q : State) → is_open_of q.conn ≡ true → is_md5_of q.conn ≡ true → Stays q (ended q l)
ended-stays [] q opens way = itself q opens way
ended-stays (c ∷ l) q opens way =
    let n = next-stays q opens way c in
    let r = ended-stays l (next c q) (ap is_open_of n.conn ∙ opens) (ap is_md5_of n.conn ∙ way) in
    record {
      conn = r.conn ∙ n.conn;
      sent = r.sent ∙ n.sent;
      seen = r.seen ∙ n.seen;
      send-id = r.send-id ∙ n.send-id;
      ask-id = r.ask-id ∙ n.ask-id;
    }

pub md5-still : Md5Still
md5-still q opens way l = let r = ended-stays l q opens way in (r.sent, r.seen, r.send-id, r.ask-id)
