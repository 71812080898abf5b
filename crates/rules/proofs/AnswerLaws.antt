-- Every call gives the number and the value that Answers.antt names for it: the first number of its tests that applies, or 0 (1 on pass)
-- and its value. Assumes nothing.
use Rattle.std.specs.Prelude.{ℕ, ◌+◌, ◌≡◌, refl, Bool, true, cond, List, length, Option, Some, None, Ok, Err}
use Rattle.std.proofs.Common.{ap, arith}
use Rattle.wire.specs.declared.options.Seen.{Seen}
use Rattle.wire.specs.Options.{options_of, is_malformed, ao_in}
use Rattle.wire.specs.Header.{area}
use Rattle.keys.specs.Table.{Found}
use Rattle.tables.specs.Tables.{Admitted, Tables, send_entry, md5_entry}
use Rattle.tables.proofs.ValidLaws.{valid-count}
use Rattle.rules.specs.declared.Outcome.{Outcome}
use Rattle.rules.specs.declared.Outcome.TheVariants.{Good, Passed, Bad}
use Rattle.rules.specs.declared.State.{State}
use Rattle.rules.specs.Results.{Settled}
use Rattle.octets.specs.Tests.{first}
use Rattle.octets.specs.TestLaws.{first_passes}
use Rattle.rules.specs.Segment.{malformed, ao}
use Rattle.rules.specs.Connection.{Arrival, pair_of_lem, extension_of_lem, empty, with_asked_of}
use Rattle.rules.specs.Calls.{verdict_of_lem, index_of, check, judged, check_syn_of, judged_syn, opened_passively, unrefused}
use Rattle.rules.specs.Calls.{settled_by_lem, open_tests, opened_actively, opened_actively_md5, ask_tests, asked, outgoing, added_on_lem}
use Rattle.rules.specs.Calls.{sign_tests, check_sign, signed_by, signed}
use Rattle.rules.specs.Lent.{Lent, tables}
use Rattle.rules.proofs.JudgeLaws.{not_passed, refusal-not-passed}
use Rattle.rules.specs.Answers.{Answer, answer, outcome_answer, verdict_answer, signing_answer, done_answer, table_answer, options_answer}
use Rattle.rules.specs.Answers.{table_number, judged_number, syn_number, opened_number, opened_md5_number, asked_number, signed_number}

-- Judging.

verdict-number : (o : Outcome) → verdict_answer (verdict_of_lem o) (index_of o) ≡ outcome_answer extension_of_lem o
unfolding verdict_answer outcome_answer
verdict-number (Good x r) = refl
verdict-number Passed = refl
verdict-number (Bad n i) = refl

pub judged-number : (t : Tables) (a : Arrival) (q : State)
    → verdict_answer (judged t a q).verdict (judged t a q).index ≡ judged_number t a q
unfolding judged
judged-number t a q = verdict-number (check t q.conn q.seen a)

pub syn-number : (t : Tables) (a : Arrival) (strict : Bool)
    → verdict_answer (judged_syn t a strict).verdict (judged_syn t a strict).index ≡ syn_number t a strict
unfolding judged_syn
syn-number t a strict = verdict-number (check_syn_of t a strict)

pub passively-number : (t : Tables) (a : Arrival) (isn : ℕ) (strict : Bool)
    → verdict_answer (opened_passively t a isn strict).verdict (opened_passively t a isn strict).index ≡ syn_number t a strict
unfolding opened_passively
passively-number t a isn strict = verdict-number (check_syn_of t a strict)

-- The other calls: none of their tests gives pass.

abbrev done_of : Settled → Answer
done_of s = done_answer s.answer s.index

settled-number : (o : Outcome) (old new : State) → not_passed o ≡ true → done_of (settled_by_lem o old new) ≡ outcome_answer (λ x. 0) o
unfolding done_answer outcome_answer
settled-number (Good x r) old new e = refl
settled-number Passed old new e = let z : ◌≡◌ {A = ℕ} 0 1 = cc in absurd (omega arith)
settled-number (Bad n i) old new e = refl

open-number : (t : Tables) (local remote : List ℕ) (found : Found) (new : State)
    → done_of (settled_by_lem (first (open_tests t local remote found) unrefused) empty new)
    ≡ outcome_answer (λ x. 0) (first (open_tests t local remote found) unrefused)
open-number t local remote found new =
    let l = open_tests t local remote found in
    settled-number (first l unrefused) empty new (first_passes not_passed l unrefused (rw (refusal-not-passed t.answer)) refl)

pub opened-number : (t : Tables) (local remote : List ℕ) (local_port remote_port isn send_id : ℕ)
    → done_of (opened_actively t local remote local_port remote_port isn send_id) ≡ opened_number t local remote local_port remote_port send_id
unfolding opened_actively
opened-number t local remote local_port remote_port isn send_id =
    open-number t local remote (send_entry t (pair_of_lem local remote local_port remote_port) send_id) _

pub opened-md5-number : (t : Tables) (local remote : List ℕ) (local_port remote_port isn : ℕ)
    → done_of (opened_actively_md5 t local remote local_port remote_port isn) ≡ opened_md5_number t local remote local_port remote_port
unfolding opened_actively_md5
opened-md5-number t local remote local_port remote_port isn =
    open-number t local remote (md5_entry t (pair_of_lem local remote local_port remote_port)) _

pub asked-number : (t : Tables) (id : ℕ) (q : State) → done_of (asked t id q) ≡ asked_number t id q.conn
unfolding asked
asked-number t id q =
    let l = ask_tests t id q.conn in
    settled-number (first l unrefused) q (with_asked_of id q) (first_passes not_passed l unrefused (rw (refusal-not-passed t.answer)) refl)

pub signed-number : (t : Tables) (s out : List ℕ) (q : State)
    → signing_answer (signed t s out q).answer (signed t s out q).index ≡ signed_number t s out q
unfolding signed check_sign signing_answer outcome_answer
signed-number t s out q =
    go (check_sign t s (length out) q)
    (first_passes not_passed (sign_tests t s (length out) q (outgoing t q)) _ (rw (refusal-not-passed t.answer)) refl)
  where
    go : (o : Outcome) → not_passed o ≡ true
        → signing_answer (signed_by q s (outgoing t q).entry o).answer (signed_by q s (outgoing t q).entry o).index
        ≡ outcome_answer (λ x. length s + added_on_lem q.conn (outgoing t q).entry) o
    go (Good x r) e = refl
    go Passed e = let z : ◌≡◌ {A = ℕ} 0 1 = cc in absurd (omega arith)
    go (Bad n i) e = refl

-- The tables, lent in either form: how many entries the key table has.
pub table-number : (b : Lent) → table_answer (tables b).answer ≡ table_number (tables b)
unfolding table_answer outcome_answer
table-number b = go (tables b).answer refl
  where
    go : (o : Admitted) → (tables b).answer ≡ o → table_answer (tables b).answer ≡ table_number (tables b)
    go (Ok n) e = rw e (ap (answer 0) (valid-count b.form b.keys b.md5 n e).0)
    go (Err r) e = rw e refl

-- An option area: the number is given exactly where the test of 21 or 31 in Calls.antt, `malformed`, applies, and else the count that the
-- tests of 22, 25 and 31 go by.
pub options-answer : (n : ℕ) (s : List ℕ) → options_answer n (options_of (area s)) ≡ cond (malformed s) (answer n 0) (answer 0 (ao s).count)
unfolding options_answer
options-answer n s = go (options_of (area s))
  where
    go : (o : Option Seen) → options_answer n o ≡ cond (is_malformed o) (answer n 0) (answer 0 (ao_in o).count)
    go None = refl
    go (Some e) = refl
