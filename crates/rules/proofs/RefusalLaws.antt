-- A refusal changes nothing but the count: the statements of Refusals.antt, proved. Assumes nothing.
use Rattle.std.specs.Prelude.{ℕ, ◌+◌, ◌≤◌, Bool, true, false, cond, ◌&&◌, List, Some, None}
use Rattle.std.proofs.Math.Path.{◌≡◌, refl, ap}
use Rattle.std.proofs.Common.{◌∙◌, arith}
use Rattle.std.proofs.Math.ListN.{length, drop, length-append, length-drop}
use borrow.Author.Tests.{ltb-false}
use Rattle.std.proofs.Math.Seq.{drop_at}
use Rattle.keys.specs.declared.entry.Pair.{Pair}
use Rattle.keys.specs.declared.entry.Entry.{Entry}
use Rattle.tables.specs.Tables.{Tables, send_entry, recv_entry, md5_entry}
use Rattle.rules.specs.Position.{Place}
use Rattle.rules.specs.declared.Outcome.{Outcome}
use Rattle.rules.specs.declared.Outcome.TheVariants.{Good, Passed, Bad}
use Rattle.rules.specs.Signing as S
use Rattle.rules.specs.Done as D
use Rattle.rules.specs.declared.State.{State}
use Rattle.octets.specs.Tests.{first}
use Rattle.octets.specs.TestLaws.{NoneApplies, none-applied}
use Rattle.rules.specs.Segment.{key_id_of}
use Rattle.rules.specs.Connection.{pair_of_lem, arrival_pair_of, is_open_of, is_counted, slot, count_drop_of, empty, with_drop_of, with_asked_of}
use Rattle.rules.specs.Calls.{check, check_syn_of, verdict_of_lem, after_judging_of, judged, opened_by_lem, opened_passively}
use Rattle.rules.specs.Calls.{settled_by_lem, unrefused, open_tests, opened_actively, opened_actively_md5, ask_tests, asked, outgoing}
use Rattle.rules.specs.Calls.{added_on_lem, sign_tests, check_sign, signed_segment, signed_by, output_by, signed, output}
use Rattle.rules.specs.Lent.{Lent, tables}
use Rattle.rules.proofs.JudgeLaws.{is_bad, refusal-bad}
use Rattle.rules.proofs.SigningLaws.{signs-good}
use Rattle.rules.proofs.DeliveryLaws.{signed-long, short-lent}
use Rattle.rules.specs.History.{judge, sign, ask}
use Rattle.rules.specs.Refusals.{on, judge_syn_of, open_passively, open_actively, open_actively_md5, by_verdict, by_signing, one_more_of}
use Rattle.rules.specs.Refusals.{RefusalLeaves, PassedEmpty, SigningWrites}

-- Each kind of answer, by what the tests come to.

drop-left : (n : ℕ) (q : State) (b : Bool) (p : Place) → is_open_of q.conn ≡ b → slot n ≡ p → cond (is_open_of q.conn) (with_drop_of n q) q ≡ cond (is_open_of q.conn && is_counted n) (one_more_of n q) q
unfolding count_drop_of
drop-left n q true (Some i) p e = rw (p, e)
drop-left n q true None p e = rw (p, e)
drop-left n q false c p e = rw p

judge-left : (t : Tables) (q : State) (o : Outcome) (n : ℕ) → by_verdict (verdict_of_lem o) ≡ D.Refused n → after_judging_of t q o ≡ cond (is_open_of q.conn && is_counted n) (one_more_of n q) q
judge-left t q (Good x r) n e = let z : ◌≡◌ {A = ℕ} 0 1 = cc in absurd (omega arith)
judge-left t q Passed n e = let z : ◌≡◌ {A = ℕ} 0 1 = cc in absurd (omega arith)
judge-left t q (Bad m i) n e = let z : m ≡ n = cc in ap (λ (k : ℕ). cond (is_open_of q.conn) (with_drop_of k q) q) z ∙ drop-left n q (is_open_of q.conn) (slot n) refl refl

sign-left : (q : State) (s out : List ℕ) (f : Entry) (o : Outcome) (n : ℕ) → by_signing (signed_by q s f o).answer ≡ D.Refused n
    → (output_by q s out f o ≡ out) × ((signed_by q s f o).state ≡ q)
sign-left q s out f (Good x r) n e = let z : ◌≡◌ {A = ℕ} 0 1 = cc in absurd (omega arith)
sign-left q s out f Passed n e = (refl, refl)
sign-left q s out f (Bad m i) n e = (refl, refl)

settle-left : (o : Outcome) (old new : State) (n : ℕ) → (settled_by_lem o old new).answer ≡ D.Refused n → (settled_by_lem o old new).state ≡ old
settle-left (Good x r) old new n e = let z : ◌≡◌ {A = ℕ} 0 1 = cc in absurd (omega arith)
settle-left Passed old new n e = let z : ◌≡◌ {A = ℕ} 0 1 = cc in absurd (omega arith)
settle-left (Bad m i) old new n e = refl

open-left : (t : Tables) (p : Pair) (isn : ℕ) (f : Entry) (o : Outcome) (n : ℕ) → by_verdict (verdict_of_lem o) ≡ D.Refused n → opened_by_lem t p isn f o ≡ empty
open-left t p isn f (Good x r) n e = let z : ◌≡◌ {A = ℕ} 0 1 = cc in absurd (omega arith)
open-left t p isn f Passed n e = refl
open-left t p isn f (Bad m i) n e = refl

pub refusal : RefusalLeaves
unfolding judged signed output asked opened_passively opened_actively opened_actively_md5
refusal (on (judge b a) q) n e = record { output = refl; state = judge-left (tables b) q (check (tables b) q.conn q.seen a) n e }
refusal (on (sign b s out) q) n e =
    let u = sign-left q s out (outgoing (tables b) q).entry (check_sign (tables b) s (length out) q) n e in
    record { output = u.0; state = u.1 }
refusal (on (ask b id) q) n e =
    record { output = refl; state = settle-left (first (ask_tests (tables b) id q.conn) unrefused) q (with_asked_of id q) n e }
refusal (judge_syn_of b a strict) n e = record { output = refl; state = refl }
refusal (open_passively b a isn strict) n e =
    let f = recv_entry (tables b) (arrival_pair_of a) (key_id_of a.segment) in
    record { output = refl; state = open-left (tables b) (arrival_pair_of a) isn f.entry (check_syn_of (tables b) a strict) n e }
refusal (open_actively b local remote local_port remote_port isn send_id) n e =
    let f = send_entry (tables b) (pair_of_lem local remote local_port remote_port) send_id in
    record { output = refl; state = settle-left (first (open_tests (tables b) local remote f) unrefused) empty _ n e }
refusal (open_actively_md5 b local remote local_port remote_port isn) n e =
    let f = md5_entry (tables b) (pair_of_lem local remote local_port remote_port) in
    record { output = refl; state = settle-left (first (open_tests (tables b) local remote f) unrefused) empty _ n e }

pub passed-empty : PassedEmpty
unfolding opened_passively
passed-empty t a isn strict e = go (check_syn_of t a strict) refl
  where
    go : (o : Outcome) → check_syn_of t a strict ≡ o → (opened_passively t a isn strict).state ≡ empty
    go (Good x r) q = let z : ◌≡◌ {A = ℕ} 0 1 = cc (rw q at e) in absurd (omega arith)
    go Passed q = rw q
    go (Bad n i) q = rw q

-- the output, where signing answers with a length
module _ (b : Lent) (s out : List ℕ) (q : State) where
  abbrev t : Tables
  t = tables b

  abbrev bytes : ℕ → List ℕ
  bytes x = signed_segment (outgoing t q).entry q x s

  fits : (x r : ℕ) → check_sign t s (length out) q ≡ Good x r → length s + added_on_lem q.conn (outgoing t q).entry ≤ length out
  unfolding check_sign
  fits x r e = go (none-applied is_bad (sign_tests t s (length out) q (outgoing t q)) _ (rw (refusal-bad t.answer)) (ap is_bad e))
    where
      go : NoneApplies (sign_tests t s (length out) q (outgoing t q)) → length s + added_on_lem q.conn (outgoing t q).entry ≤ length out
      go p = ltb-false (length out) (length s + added_on_lem q.conn (outgoing t q).entry) (search)

  writes : (n : ℕ) → (signed t s out q).answer ≡ S.Signed n
      → (drop n (output t s out q) ≡ drop n out) × (length (output t s out q) ≡ length out)
  unfolding signed output
  writes n e = go (check_sign t s (length out) q) refl
    where
      go : (o : Outcome) → check_sign t s (length out) q ≡ o
          → (drop n (output t s out q) ≡ drop n out) × (length (output t s out q) ≡ length out)
      go (Good x r) f =
          let k : length s + added_on_lem q.conn (outgoing t q).entry ≡ n = cc (rw f at e) in
          let g = (signs-good t s out q x r f).0 in
          let l = signed-long (outgoing t q).entry q x s (short-lent b s out q g) g.fresh ∙ k in
          let w = fits x r f in
          rw f (
            drop_at (bytes x) _ n l ∙ ap (λ (m : ℕ). drop m out) l,
            length-append (bytes x) _ ∙ (omega (arith, length-drop (length (bytes x)) out)),
          )
      go Passed f = let z : ◌≡◌ {A = ℕ} 0 1 = cc (rw f at e) in absurd (omega arith)
      go (Bad m i) f = let z : ◌≡◌ {A = ℕ} 0 1 = cc (rw f at e) in absurd (omega arith)

pub signing-writes : SigningWrites
signing-writes = writes
