-- One verdict, one count: the statement of History holds from either opening on, over any list of calls.
-- Assumes nothing of tables, bytes or the calls' order.
use Rattle.std.specs.Prelude.{ℕ, ◌+◌, min, ◌≡◌, refl, Bool, true, false, cond, ◌&&◌, List, [], ◌∷◌, ◌++◌, length, get_or}
use Rattle.std.proofs.Common.{ap, sym, ◌∙◌, true≢false, arith}
use Rattle.std.proofs.lemmas.List.{get_or-replicate}
use Rattle.keys.specs.declared.entry.Pair.{Pair}
use Rattle.keys.specs.declared.entry.Entry.{Entry}
use Rattle.tables.specs.Tables.{Tables, send_entry, recv_entry, md5_entry}
use Rattle.rules.specs.declared.Outcome.{Outcome}
use Rattle.rules.specs.declared.Outcome.TheVariants.{Good, Passed, Bad}
use Rattle.rules.specs.declared.Verdict.{Verdict}
use Rattle.rules.specs.declared.State.{State}
use Rattle.octets.specs.Tests.{first}
use Rattle.rules.specs.Connection.{pair_of_lem, is_open_of, is_md5_of, extension_of_lem, value, stop, slots, slot, is_counted, opening}
use Rattle.rules.specs.Connection.{empty, with_accepted_of, with_asked_of, arrival_pair_of}
use Rattle.rules.specs.Calls.{syn_is_md5, check, check_syn_of, check_sign, ask_tests, verdict_of_lem, after_judging_of, judged}
use Rattle.rules.specs.Calls.{accepted_on_lem, opened_by_lem, opened_passively, settled_by_lem, unrefused, open_tests, opened_actively}
use Rattle.rules.specs.Calls.{opened_actively_md5, asked, outgoing, signed_by, signed}
use Rattle.rules.specs.Segment.{key_id_of}
use Rattle.rules.specs.Lent.{tables}
use Rattle.rules.specs.Demand3.{sum}
use Rattle.rules.specs.History.{Call, judge, sign, ask, next, ended, verdict_on, verdicts_on, accepts, drops, counted_drops, drop_count}
use Rattle.rules.specs.History.{CountsZero, FromZero, FromPassive, FromActive, FromActiveMd5}
use Rattle.rules.proofs.CountLaws.{raised, each_below, slot-below, length-count, Counts, count_none, count-accept, count-drop}

-- What a history needs of the state that it starts from: as many counts as the type says, all 0 unless it is open.
pub record Ready (q : State) : Type 0 where
  pub counts : length q.drops ≡ slots
  pub fresh : is_open_of q.conn ≡ false → CountsZero q

-- a call that is no verdict leaves what the counts go by
record Keeps (q r : State) : Type 0 where
  conn : r.conn ≡ q.conn
  accepted : r.accepted ≡ q.accepted
  drops : r.drops ≡ q.drops

sign-keeps : (q : State) (s : List ℕ) (f : Entry) (o : Outcome) → Keeps q (signed_by q s f o).state
sign-keeps q s f (Good x r) = go (is_open_of q.conn && is_md5_of q.conn) refl
  where
    go : (b : Bool) → (is_open_of q.conn && is_md5_of q.conn) ≡ b → Keeps q (signed_by q s f (Good x r)).state
    go true e = rw e (record { conn = refl; accepted = refl; drops = refl })
    go false e = rw e (record { conn = refl; accepted = refl; drops = refl })
sign-keeps q s f Passed = record { conn = refl; accepted = refl; drops = refl }
sign-keeps q s f (Bad n i) = record { conn = refl; accepted = refl; drops = refl }

ask-keeps : (q : State) (id : ℕ) (o : Outcome) → Keeps q (settled_by_lem o q (with_asked_of id q)).state
ask-keeps q id (Good x r) = record { conn = refl; accepted = refl; drops = refl }
ask-keeps q id Passed = record { conn = refl; accepted = refl; drops = refl }
ask-keeps q id (Bad n i) = record { conn = refl; accepted = refl; drops = refl }

keeps-ready : (q r : State) → Keeps q r → Ready q → Ready r
keeps-ready q r k h =
    record {
      counts = ap length k.drops ∙ h.counts;
      fresh = λ z. let f = h.fresh (rw k.conn at z) in record { accepted = k.accepted ∙ f.accepted; drops = k.drops ∙ f.drops };
    }

-- the same counts at the start
count_same : (q r : State) (vs : List Verdict) (e : State) → r.accepted ≡ q.accepted → r.drops ≡ q.drops → Counts r vs e → Counts q vs e
count_same q r vs e a d c =
    record {
      accepted = c.accepted ∙ ap (raised (accepts vs)) a;
      dropped = λ n k. c.dropped n k ∙ ap (λ (l : List ℕ). raised (drops n vs) (get_or l (value (slot n)) 0)) d;
      began = λ b. rw d at (c.began b);
      total = λ b. c.total b ∙ ap (λ (l : List ℕ). sum l + counted_drops vs) d;
    }

opposite : {b : Bool} → b ≡ true → b ≡ false → ⊥
opposite e z = true≢false (sym e ∙ z)

-- judging, by what the tests come to
judge-ready : (t : Tables) (q : State) (o : Outcome) (b : Bool) → is_open_of q.conn ≡ b → Ready q → Ready (after_judging_of t q o)
judge-ready t q (Good x r) true e h = rw e (go (is_md5_of q.conn) refl)
  where
    go : (m : Bool) → is_md5_of q.conn ≡ m → Ready (accepted_on_lem t q x r)
    go true w = rw w (record { counts = h.counts; fresh = λ z. absurd (opposite e z) })
    go false w = rw w (record { counts = h.counts; fresh = λ z. absurd (opposite e z) })
judge-ready t q (Good x r) false e h = rw e (record { counts = refl; fresh = λ z. record { accepted = refl; drops = refl } })
judge-ready t q Passed b e h = h
judge-ready t q (Bad n i) true e h = rw e (record { counts = length-count n q.drops ∙ h.counts; fresh = λ z. absurd (opposite e z) })
judge-ready t q (Bad n i) false e h = rw e h

judge-counts : (t : Tables) (q : State) (o : Outcome) (vs : List Verdict) (end : State) (b : Bool) → is_open_of q.conn ≡ b → Ready q
    → Counts (after_judging_of t q o) vs end → Counts q (cond (is_open_of q.conn) (verdict_of_lem o ∷ []) [] ++ vs) end
judge-counts t q (Good x r) vs end true e h c = rw e (go (is_md5_of q.conn) refl (rw e at c))
  where
    go : (m : Bool) → is_md5_of q.conn ≡ m → Counts (accepted_on_lem t q x r) vs end → Counts q (verdict_of_lem (Good x r) ∷ vs) end
    go true w d = count-accept q vs end 0 0 (extension_of_lem x) (count_same (with_accepted_of 0 0 q) _ vs end refl refl (rw w at d))
    go false w d = count-accept q vs end x _ (extension_of_lem x) (rw w at d)
judge-counts t q (Good x r) vs end false e h c = rw e (count_same q _ vs end (sym (h.fresh e).accepted) (sym (h.fresh e).drops) (rw e at c))
judge-counts t q Passed vs end true e h c = rw e (record { accepted = c.accepted; dropped = c.dropped; began = c.began; total = c.total })
judge-counts t q Passed vs end false e h c = rw e c
judge-counts t q (Bad n i) vs end true e h c = rw e (count-drop q vs end n h.counts (rw e at c))
judge-counts t q (Bad n i) vs end false e h c = rw e (rw e at c)

-- any call
call-ready : (c : Call) (q : State) → Ready q → Ready (next c q)
unfolding judged signed asked
call-ready (judge b a) q h = judge-ready (tables b) q (check (tables b) q.conn q.seen a) (is_open_of q.conn) refl h
call-ready (sign b s out) q h =
    keeps-ready q _ (sign-keeps q s (outgoing (tables b) q).entry (check_sign (tables b) s (length out) q)) h
call-ready (ask b id) q h = keeps-ready q _ (ask-keeps q id (first (ask_tests (tables b) id q.conn) unrefused)) h

call-counts : (c : Call) (q : State) (vs : List Verdict) (end : State) → Ready q → Counts (next c q) vs end
    → Counts q (verdict_on c q ++ vs) end
unfolding judged signed asked
call-counts (judge b a) q vs end h n =
    judge-counts (tables b) q (check (tables b) q.conn q.seen a) vs end (is_open_of q.conn) refl h n
call-counts (sign b s out) q vs end h n =
    let k = sign-keeps q s (outgoing (tables b) q).entry (check_sign (tables b) s (length out) q) in
    count_same q _ vs end k.accepted k.drops n
call-counts (ask b id) q vs end h n =
    let k = ask-keeps q id (first (ask_tests (tables b) id q.conn) unrefused) in
    count_same q _ vs end k.accepted k.drops n

-- any list of calls, from any state that is open, or whose counts are 0
pub history : (l : List Call) (q : State) → Ready q → Counts q (verdicts_on q l) (ended q l)
history [] q h = count_none q
history (c ∷ l) q h = call-counts c q (verdicts_on (next c q) l) (ended (next c q) l) h (history l (next c q) (call-ready c q h))

pub one-count : FromZero
one-count q f l =
    record {
      accepted = c.accepted ∙ from-0 (accepts (verdicts_on q l)) q.accepted f.accepted;
      dropped = λ n k. c.dropped n k ∙ from-0 (drops n (verdicts_on q l)) (drop_count n q) (zero-at n k);
      accepted-exactly = λ s. omega (arith, c.accepted, f.accepted, s.accepts);
      dropped-exactly = λ s n k. omega (arith, c.dropped n k, zero-at n k, each_below stop (ended q l).drops s.drops (omega arith) (value (slot n)));
      total = λ s. omega (arith, c.accepted, f.accepted, s.accepts, c.total s.drops, ap sum f.drops);
    }
  where
    c : Counts q (verdicts_on q l) (ended q l)
    c = history l q (record { counts = ap length f.drops; fresh = λ z. f })

    from-0 : (k n : ℕ) → n ≡ 0 → raised k n ≡ min stop k
    from-0 k n e = omega arith

    zero-at : (n : ℕ) → is_counted n ≡ true → drop_count n q ≡ 0
    zero-at n k = ap (λ (d : List ℕ). get_or d (value (slot n)) 0) f.drops ∙ get_or-replicate slots (value (slot n)) 0 0 (slot-below n k)

-- The states that openings give, refused ones among them.

opened-fresh : (t : Tables) (p : Pair) (isn : ℕ) (e : Entry) (o : Outcome) → CountsZero (opened_by_lem t p isn e o)
opened-fresh t p isn e (Good x r) = go (syn_is_md5 t p) refl
  where
    go : (b : Bool) → syn_is_md5 t p ≡ b → CountsZero (opened_by_lem t p isn e (Good x r))
    go true w = rw w (record { accepted = refl; drops = refl })
    go false w = rw w (record { accepted = refl; drops = refl })
opened-fresh t p isn e Passed = record { accepted = refl; drops = refl }
opened-fresh t p isn e (Bad n i) = record { accepted = refl; drops = refl }

settled-fresh : (way : ℕ) (p : Pair) (isn send_id ask_id : ℕ) (o : Outcome)
    → CountsZero (settled_by_lem o empty (opening way p isn send_id ask_id)).state
settled-fresh way p isn send_id ask_id (Good x r) = record { accepted = refl; drops = refl }
settled-fresh way p isn send_id ask_id Passed = record { accepted = refl; drops = refl }
settled-fresh way p isn send_id ask_id (Bad n i) = record { accepted = refl; drops = refl }

pub from-passive : FromPassive
unfolding opened_passively
from-passive t a isn strict l =
    let p = arrival_pair_of a in one-count _ (opened-fresh t p isn (recv_entry t p (key_id_of a.segment)).entry (check_syn_of t a strict)) l

pub from-active : FromActive
unfolding opened_actively
from-active t local remote local_port remote_port isn send_id l =
    let f = send_entry t (pair_of_lem local remote local_port remote_port) send_id in
    one-count _ (settled-fresh _ _ isn send_id _ (first (open_tests t local remote f) unrefused)) l

pub from-active-md5 : FromActiveMd5
unfolding opened_actively_md5
from-active-md5 t local remote local_port remote_port isn l =
    let f = md5_entry t (pair_of_lem local remote local_port remote_port) in
    one-count _ (settled-fresh _ _ isn 0 0 (first (open_tests t local remote f) unrefused)) l
