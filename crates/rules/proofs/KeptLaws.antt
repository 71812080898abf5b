-- The statement of Kept holds of every state: judging, signing and asking on an open connection leave what it is, and what `Typed` says.
-- Assumes nothing of tables, bytes or the calls' order.
use Rattle.std.specs.Prelude.{ℕ, ◌+◌, ◌-◌, ◌^◌, ◌<◌, ◌≡◌, refl, Bool, true, false, cond, List, [], ◌∷◌, length, ltb, leb, Some, None}
use Rattle.std.proofs.Common.{ap, sym, ◌∙◌, subst, arith, ltb-true}
use Rattle.tables.specs.Tables.{Tables}
use Rattle.wire.specs.Header.{sequence}
use Rattle.rules.specs.Position.{Place, position, wrapping_difference}
use Rattle.rules.specs.declared.Outcome.{Outcome}
use Rattle.rules.specs.declared.Outcome.TheVariants.{Good, Passed, Bad}
use Rattle.rules.specs.declared.Connection.{Connection}
use Rattle.rules.specs.declared.State.{State}
use Rattle.octets.specs.Tests.{first}
use Rattle.rules.specs.Segment.{rnext_key_id}
use Rattle.rules.specs.Connection.{Arrival, is_open_of, is_md5_of, place_on_lem, value, with_counted_of, with_asked_of}
use Rattle.rules.specs.Calls.{good_by, judge_groups, check, judged, accepted_on_lem, after_judging_of, ask_tests, unrefused, settled_by_lem}
use Rattle.rules.specs.Calls.{asked, check_sign, after_signing_of, signed, signed_by, outgoing}
use Rattle.rules.specs.Lent.{tables}
use Rattle.rules.proofs.GroupLaws.{first-clear}
use Rattle.rules.proofs.JudgeLaws.{none_of}
use Rattle.rules.proofs.SigningLaws.{signs-good}
use Rattle.rules.proofs.CountLaws.{length-count}
use Rattle.rules.specs.Ends.{Typed}
use Rattle.rules.specs.History.{Call, judge, sign, ask, next, ended}
use Rattle.rules.specs.Kept.{Kept, CallsKeep}

-- a position lies below 2^64
position-below : (reference s x : ℕ) → reference < 2 ^ 64 → position reference s ≡ Some x → x < 2 ^ 64
unfolding position
position-below reference s x h e =
    go (ltb d (2 ^ 31)) (ltb (reference + d) (2 ^ 64)) (ltb (2 ^ 31) d) (leb (2 ^ 32 - d) reference) refl refl refl refl
  where
    d : ℕ
    d = wrapping_difference s reference

    go : (a b c f : Bool) → ltb d (2 ^ 31) ≡ a → ltb (reference + d) (2 ^ 64) ≡ b → ltb (2 ^ 31) d ≡ c → leb (2 ^ 32 - d) reference ≡ f
        → x < 2 ^ 64
    go true true c f p q r u =
        let z : reference + d ≡ x = cc (rw (p, q) at e) in
        omega (arith, ltb-true (reference + d) (2 ^ 64) q, z)
    go true false c f p q r u = let z : ◌≡◌ {A = ℕ} 0 1 = cc (rw (p, q) at e) in absurd (omega arith)
    go false b true true p q r u = let z : reference + d - 2 ^ 32 ≡ x = cc (rw (p, r, u) at e) in omega (arith, z, h)
    go false b true false p q r u = let z : ◌≡◌ {A = ℕ} 0 1 = cc (rw (p, r, u) at e) in absurd (omega arith)
    go false b false f p q r u = let z : ◌≡◌ {A = ℕ} 0 1 = cc (rw (p, r) at e) in absurd (omega arith)

-- the position of what is accepted or signed, once open, on the TCP-AO way
at_value : (l : Connection) (reference s x : ℕ) → is_open_of l ≡ true → is_md5_of l ≡ false → reference < 2 ^ 64 → value (place_on_lem l reference s) ≡ x
    → x < 2 ^ 64
at_value l reference s x o w h e = go (position reference s) refl
  where
    go : (p : Place) → position reference s ≡ p → x < 2 ^ 64
    go (Some y) q = let z : y ≡ x = cc (rw (o, w, q) at e) in subst (λ (n : ℕ). n < 2 ^ 64) z (position-below reference s y h q)
    go None q = let z : 0 ≡ x = cc (rw (o, w, q) at e) in omega (arith, z)

-- what an accepted segment comes to: its position and, on the TCP-AO way, its RNextKeyID
pub good-is : (t : Tables) (l : Connection) (reference : ℕ) (a : Arrival) (x r : ℕ) → check t l reference a ≡ Good x r
    → (value (place_on_lem l reference (sequence a.segment)) ≡ x) × (cond (is_md5_of l) 0 (rnext_key_id a.segment) ≡ r)
unfolding check
good-is t l reference a x r e =
    let g =
    sym (first-clear (judge_groups t l reference a) (good_by (is_md5_of l) (place_on_lem l reference (sequence a.segment)) a.segment)
    (none_of t l reference a x r e)) ∙ e in
    (cc (g), cc (g))

judge-kept : (t : Tables) (a : Arrival) (q : State) → Typed q → is_open_of q.conn ≡ true → Kept q (judged t a q).state
unfolding judged
judge-kept t a q v o = go (check t q.conn q.seen a) refl
  where
    go : (c : Outcome) → check t q.conn q.seen a ≡ c → Kept q (after_judging_of t q c)
    go (Good x r) e = rw o (accepts (is_md5_of q.conn) refl)
      where
        same : Typed q → Typed (with_counted_of q)
        same v =
            record { sent = v.sent; seen = v.seen; isn = v.isn; peer = v.peer; local = v.local; remote = v.remote; counts = v.counts }

        accepts : (m : Bool) → is_md5_of q.conn ≡ m → Kept q (accepted_on_lem t q x r)
        accepts true w = rw w (record { conn = refl; typed = same v })
        accepts false w =
            let b = at_value q.conn q.seen (sequence a.segment) x o w v.seen (good-is t q.conn q.seen a x r e).0 in
            let k = v.seen in
            rw w
            (record {
              conn = refl;
              typed =
                  record {
                    sent = v.sent;
                    seen = omega arith;
                    isn = v.isn;
                    peer = v.peer;
                    local = v.local;
                    remote = v.remote;
                    counts = v.counts;
                  };
            })
    go Passed e = record { conn = refl; typed = v }
    go (Bad n i) e =
        rw o
        (record {
          conn = refl;
          typed =
              record {
                sent = v.sent;
                seen = v.seen;
                isn = v.isn;
                peer = v.peer;
                local = v.local;
                remote = v.remote;
                counts = length-count n q.drops ∙ v.counts;
              };
        })

sign_kept : (t : Tables) (s out : List ℕ) (q : State) → Typed q → is_open_of q.conn ≡ true → Kept q (signed t s out q).state
unfolding signed
sign_kept t s out q v o = go (check_sign t s (length out) q) refl
  where
    go : (c : Outcome) → check_sign t s (length out) q ≡ c → Kept q (signed_by q s (outgoing t q).entry c).state
    go (Good x r) e = signs (is_md5_of q.conn) refl
      where
        signs : (m : Bool) → is_md5_of q.conn ≡ m → Kept q (after_signing_of x q)
        signs true w = rw (o, w) (record { conn = refl; typed = v })
        signs false w =
            let b = at_value q.conn q.sent (sequence s) x o w v.sent (signs-good t s out q x r e).1 in
            let k = v.sent in
            rw (o, w)
            (record {
              conn = refl;
              typed =
                  record {
                    sent = omega arith;
                    seen = v.seen;
                    isn = v.isn;
                    peer = v.peer;
                    local = v.local;
                    remote = v.remote;
                    counts = v.counts;
                  };
            })
    go Passed e = record { conn = refl; typed = v }
    go (Bad n i) e = record { conn = refl; typed = v }

ask-kept : (t : Tables) (id : ℕ) (q : State) → Typed q → Kept q (asked t id q).state
unfolding asked
ask-kept t id q v = go (first (ask_tests t id q.conn) unrefused)
  where
    go : (c : Outcome) → Kept q (settled_by_lem c q (with_asked_of id q)).state
    go (Good x r) =
        record {
          conn = refl;
          typed =
              record {
                sent = v.sent;
                seen = v.seen;
                isn = v.isn;
                peer = v.peer;
                local = v.local;
                remote = v.remote;
                counts = v.counts;
              };
        }
    go Passed = record { conn = refl; typed = v }
    go (Bad n i) = record { conn = refl; typed = v }

-- any call
pub next-kept : (c : Call) (q : State) → Typed q → is_open_of q.conn ≡ true → Kept q (next c q)
next-kept (judge b a) q v o = judge-kept (tables b) a q v o
next-kept (sign b s out) q v o = sign_kept (tables b) s out q v o
next-kept (ask b id) q v o = ask-kept (tables b) id q v

-- any list of calls
pub ended-kept : (l : List Call) (q : State) → Typed q → is_open_of q.conn ≡ true → Kept q (ended q l)
ended-kept [] q v o = record { conn = refl; typed = v }
ended-kept (c ∷ l) q v o =
    let k = next-kept c q v o in
    let r = ended-kept l (next c q) k.typed (ap is_open_of k.conn ∙ o) in
    record { conn = r.conn ∙ k.conn; typed = r.typed }

pub kept : (q : State) → CallsKeep q
kept q v o l = ended-kept l q v o
