-- "Where an answer is an enum, a definition sets out this paper's number and values for each of its cases." The number, and the value
-- beside it, of every case of every answer: document 01, "Numbers given back"; 0 and 1 stand for what has no number there. Then the number
-- and value of each call, by its tests: the promises of the crate `tcpao`, and of `locate` of `states`, cite them.
use Rattle.std.specs.Prelude.{ℕ, ◌+◌, Bool, cond, List, length, Option, Some, None, Ok, Err}
use Rattle.wire.specs.declared.options.Seen.{Seen}
use Rattle.tables.specs.declared.Index.{Index}
use Rattle.tables.specs.Tables.{Admitted, Tables, send_entry, md5_entry}
use Rattle.rules.specs.Position.{Place, position}
use Rattle.rules.specs.declared.Outcome.{Outcome}
use Rattle.rules.specs.declared.Outcome.TheVariants.{Good, Passed, Bad}
use Rattle.rules.specs.declared.Verdict.{Verdict}
use Rattle.rules.specs.declared.Verdict.TheVariants.{Accept, Pass, Drop}
use Rattle.rules.specs.Signing.{Signing}
use Rattle.rules.specs.Signing as S
use Rattle.rules.specs.Done.{Done}
use Rattle.rules.specs.Done as D
use Rattle.rules.specs.declared.Connection.{Connection}
use Rattle.rules.specs.declared.State.{State}
use Rattle.octets.specs.Tests.{first}
use Rattle.rules.specs.Connection.{Arrival, pair_of_lem, located, value, extension_of_lem}
use Rattle.rules.specs.Calls.{unrefused, table_tests, check, check_syn_of, open_tests, ask_tests, outgoing, added_on_lem, check_sign}

-- the number; whose entry the value is the index of (0 the key table's, 1 the MD5 table's), where a table is refused; the value
pub record Answer : Type 0 where
  pub number : ℕ
  pub table : ℕ
  pub value : ℕ

abbrev pub answer : ℕ → ℕ → Answer
answer n v = record { number = n; table = 0; value = v }

-- a refusal: beside 10 to 17 and 45 the entry's table and index, beside every other number zeros
abbrev pub refused : ℕ → Index → Answer
refused n i = record { number = n; table = i.table; value = i.entry }

-- what the tests of a call come to: no number applies, and the call gives the value that `of` makes of the position; pass; or the first
-- number that applies, with the entry beside 10 to 17 and 45
unfoldable pub outcome_answer : (of : ℕ → ℕ) → Outcome → Answer
outcome_answer of (Good x r) = answer 0 (of x)
outcome_answer of Passed = answer 1 0
outcome_answer of (Bad n i) = refused n i

-- "accept with its extension, pass, or drop with a number", with the entry's index where a table is refused
unfoldable pub verdict_answer : Verdict → Index → Answer
verdict_answer (Accept e) i = answer 0 e
verdict_answer Pass i = answer 1 0
verdict_answer (Drop n) i = refused n i

-- how many bytes were signed, or the refusal
unfoldable pub signing_answer : Signing → Index → Answer
signing_answer (S.Signed n) i = answer 0 n
signing_answer (S.Refused n) i = refused n i

-- an opening, or a RecvID to ask for
unfoldable pub done_answer : Done → Index → Answer
done_answer D.Succeeded i = answer 0 0
done_answer (D.Refused n) i = refused n i

-- the tables: how many entries the key table has, or "10 to 17 .. with the entry's index", or 45, or 44
unfoldable pub table_answer : Admitted → Answer
table_answer (Ok n) = answer 0 n
table_answer (Err r) = refused r.number r.index

-- a position, or 28 (when signing 36)
unfoldable pub place_answer : ℕ → Place → Answer
place_answer n (Some x) = answer 0 x
place_answer n None = answer n 0

-- "Otherwise the answer is 28 or 36."
abbrev pub position_number : (n reference s : ℕ) → Answer
position_number n reference s = cond (located (position reference s)) (answer 0 (value (position reference s))) (answer n 0)

-- an option area: 21 (when signing 31) where it is malformed, else how many TCP-AO options it has
unfoldable pub options_answer : ℕ → Option Seen → Answer
options_answer n None = answer n 0
options_answer n (Some s) = answer 0 s.ao.count

-- The calls: the first number of their tests that applies, with the entry's table and index beside 10 to 17 and 45; else 0, or 1 on pass,
-- and the call's own value.

-- how many entries the key table has
abbrev pub table_number : Tables → Answer
table_number t = outcome_answer (λ x. length t.keys) (first (table_tests t) unrefused)

-- the extension of the segment's position
abbrev pub judged_number : Tables → Arrival → State → Answer
judged_number t a q = outcome_answer extension_of_lem (check t q.conn q.seen a)

-- the same of a bare SYN, whether it is judged alone or opens
abbrev pub syn_number : Tables → Arrival → Bool → Answer
syn_number t a strict = outcome_answer extension_of_lem (check_syn_of t a strict)

-- an active opening and asking have no value
abbrev pub opened_number : Tables → (local remote : List ℕ) (local_port remote_port send_id : ℕ) → Answer
opened_number t local remote local_port remote_port send_id =
    outcome_answer (λ x. 0)
    (first (open_tests t local remote (send_entry t (pair_of_lem local remote local_port remote_port) send_id)) unrefused)

abbrev pub opened_md5_number : Tables → (local remote : List ℕ) (local_port remote_port : ℕ) → Answer
opened_md5_number t local remote local_port remote_port =
    outcome_answer (λ x. 0) (first (open_tests t local remote (md5_entry t (pair_of_lem local remote local_port remote_port))) unrefused)

abbrev pub asked_number : Tables → ℕ → Connection → Answer
asked_number t id l = outcome_answer (λ x. 0) (first (ask_tests t id l) unrefused)

-- how many bytes the signed segment has
abbrev pub signed_number : Tables → (segment out : List ℕ) → State → Answer
signed_number t s out q = outcome_answer (λ x. length s + added_on_lem q.conn (outgoing t q).entry) (check_sign t s (length out) q)
