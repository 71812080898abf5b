-- What the calls on both tables and on a connection answer, and what they leave in the buffers lent to them: docs/BOUNDARY.md, "Tables",
-- "The calls on one connection" and "The state". What the calls do is defined in Calls.antt of `rules`, and a state's bytes in
-- Layout.antt of `states`; here are the rules of the boundary alone, and then each export, one definition. Assumes nothing.
use Rattle.std.specs.Prelude.{ℕ, Bool, true, false, cond, not, List, [], length, eqb, Result, Ok, Err}
use Rattle.rules.specs.declared.Verdict.{Verdict}
use Rattle.rules.specs.declared.Verdict.TheVariants.{Accept, Pass, Drop}
use Rattle.rules.specs.Done.{Done}
use Rattle.rules.specs.Done as D
use Rattle.rules.specs.declared.State.{State}
use Rattle.tables.specs.Tables.{Tables}
use Rattle.tables.specs.declared.Refusal.{Refusal}
use Rattle.tables.specs.Preparing.{prepare_answer, prepare_output}
use Rattle.rules.specs.Answers.{Answer, answer, table_answer}
use Rattle.rules.specs.Connection.{arrival_of}
use Rattle.rules.specs.Calls.{judged, judged_syn, opened_passively, opened_actively, opened_actively_md5, asked, signed, output}
use Rattle.rules.specs.declared.Judged.{Judged}
use Rattle.rules.specs.Results.{Settled}
use Rattle.rules.specs.Results.{Signed}
use Rattle.states.specs.Layout.{is_state_of, decode_of, encode_of}
use Rattle.boundary.specs.Word.{word, of_judged, of_syn_judged, of_signed, of_settled}

-- (boundary) "A state buffer of another length gets 18 from every call that takes one, before any other number."
unfoldable pub answered : List ℕ → Answer → ℕ
answered b a = word (cond (is_state_of b) a (answer 18 0))

-- and no buffer changes then: one that holds y at entry, and x after the call of `tcpao`
unfoldable pub changed : List ℕ → List ℕ → List ℕ → List ℕ
changed b x y = cond (is_state_of b) x y

-- the state buffer b after a call that returns the state q: "turns the state back"
abbrev pub state_after : List ℕ → State → List ℕ
state_after b q = changed b (encode_of q) b

-- (boundary) "A call that is refused leaves every buffer as it was": an opening writes the state that it returns only where it is not
-- refused. The other calls write the state back that they return; Unchanged.antt says that a refusal then leaves every byte, but for the
-- count
abbrev pub state_where : List ℕ → Bool → State → List ℕ
state_where b written q = changed b (cond written (encode_of q) b) b

-- whether a segment is accepted
abbrev pub accepts : Verdict → Bool
accepts (Accept e) = true
accepts Pass = false
accepts (Drop n) = false

-- whether a passive opening is not refused: "A passive opening whose SYN is only passed is no refusal: it writes the empty state, all zero"
abbrev pub settles : Verdict → Bool
settles (Accept e) = true
settles Pass = true
settles (Drop n) = false

-- whether an active one is not
abbrev pub opens : Done → Bool
opens D.Succeeded = true
opens (D.Refused n) = false

-- "`setting` says what a bare SYN with TCP-AO gets where no entry matches its pair: 0 pass, any other value drop 26."
abbrev pub strictly : ℕ → Bool
strictly setting = not (eqb setting 0)

-- An export: the answer as C gets it, and the buffers lent for writing as they are at exit, [] where the call has none.
pub record Export : Type 0 where
  pub answer : ℕ
  pub state : List ℕ
  pub out : List ℕ

-- as the contracts write it: a call that only answers, one with an output, one with a state buffer, one with both
abbrev pub answers : ℕ → Export
answers r = record { answer = r; state = []; out = [] }

abbrev pub fills : ℕ → List ℕ → Export
fills r out = record { answer = r; state = []; out = out }

abbrev pub leaves : ℕ → List ℕ → Export
leaves r state = record { answer = r; state = state; out = [] }

abbrev pub writes : ℕ → List ℕ → List ℕ → Export
writes r state out = record { answer = r; state = state; out = out }

-- what a call leaves that returns this in Rattle; b is the state buffer
abbrev pub after_judged : List ℕ → Judged → Export
after_judged b j = leaves (answered b (of_judged j)) (state_after b j.state)

abbrev pub after_opened_passively : List ℕ → Judged → Export
after_opened_passively b j = leaves (answered b (of_judged j)) (state_where b (settles j.verdict) j.state)

abbrev pub after_opened_actively : List ℕ → Settled → Export
after_opened_actively b s = leaves (answered b (of_settled s)) (state_where b (opens s.answer) s.state)

abbrev pub after_asked : List ℕ → Settled → Export
after_asked b s = leaves (answered b (of_settled s)) (state_after b s.state)

-- x is the output as signing leaves it, out as it was
abbrev pub after_signed : (b x out : List ℕ) → Signed → Export
after_signed b x out s = writes (answered b (of_signed s)) (state_after b s.state) (changed b x out)

-- the buffer b behind an opening, or the operator's call, that gives a state or is refused
abbrev pub left_by : List ℕ → Result State Refusal → List ℕ
left_by b (Ok q) = encode_of q
left_by b (Err r) = b

-- The calls of docs/BOUNDARY.md, by their names there.

unfoldable pub check_table_export : Tables → Export
check_table_export t = answers (word (table_answer t.answer))

unfoldable pub prepare_export : (keys md5 out : List ℕ) → Export
prepare_export k m out = fills (word (table_answer (prepare_answer k m (length out)))) (prepare_output k m out)

unfoldable pub open_active_export : Tables → (local remote : List ℕ) (local_port remote_port isn send_id : ℕ) (state : List ℕ) → Export
open_active_export t local remote local_port remote_port isn send_id b =
    after_opened_actively b (opened_actively t local remote local_port remote_port isn send_id)

unfoldable pub open_active_md5_export : Tables → (local remote : List ℕ) (local_port remote_port isn : ℕ) (state : List ℕ) → Export
open_active_md5_export t local remote local_port remote_port isn b =
    after_opened_actively b (opened_actively_md5 t local remote local_port remote_port isn)

unfoldable pub judge_syn_export : Tables → (source destination segment : List ℕ) (setting : ℕ) → Export
judge_syn_export t source destination segment setting =
    answers (word (of_syn_judged (judged_syn t (arrival_of source destination segment) (strictly setting))))

unfoldable pub open_passive_export : Tables → (source destination segment : List ℕ) (isn setting : ℕ) (state : List ℕ) → Export
open_passive_export t source destination segment isn setting b =
    after_opened_passively b (opened_passively t (arrival_of source destination segment) isn (strictly setting))

unfoldable pub judge_export : Tables → (source destination segment state : List ℕ) → Export
judge_export t source destination segment b = after_judged b (judged t (arrival_of source destination segment) (decode_of b))

unfoldable pub sign_export : Tables → (segment out state : List ℕ) → Export
sign_export t segment out b = after_signed b (output t segment out (decode_of b)) out (signed t segment out (decode_of b))

unfoldable pub ask_export : Tables → (recv_id : ℕ) (state : List ℕ) → Export
ask_export t recv_id b = after_asked b (asked t recv_id (decode_of b))
