-- docs/BOUNDARY.md, "The answer", of every call, as statements: the number fits its eight bits, an index and a signed length their
-- thirty-two, which table it is its eight, and these are 0 beside every number but 0 and 10 to 17, 45; the number is 0 exactly on accept or
-- done, and 1 exactly on pass.
-- (That an extension fits is known by its type, and by the contract, since the answer is a u64.) NumberLaws proves them.
use Rattle.std.specs.Prelude.{ℕ, ◌^◌, ◌%◌, ◌<◌, ◌≡◌, Bool, true, false, cond, not, ◌&&◌, ◌||◌, List, eqb, leb}
use Rattle.tables.specs.declared.Index.{Index}
use Rattle.tables.specs.Preparing.{prepare_answer}
use Rattle.rules.specs.declared.Verdict.{Verdict}
use Rattle.rules.specs.Signing.{Signing}
use Rattle.rules.specs.Signing as S
use Rattle.rules.specs.declared.State.{State}
use Rattle.rules.specs.Answers.{Answer, answer, table_answer, verdict_answer}
use Rattle.rules.specs.Connection.{Arrival}
use Rattle.rules.specs.Calls.{is_refused, judged, judged_syn, opened_passively, opened_actively, opened_actively_md5, asked, signed}
use Rattle.rules.specs.History.{judge, sign, ask}
use Rattle.rules.specs.Refusals.{Request, on, judge_syn_of, open_passively, open_actively, open_actively_md5}
use Rattle.rules.specs.Lent.{Lent, tables}
use Rattle.rules.specs.GivenNumbers.{is_pass}
use Rattle.states.specs.Layout.{is_state_of}
use Rattle.boundary.specs.Word.{word, Reads, of_judged, of_syn_judged, of_signed, of_settled}
use Rattle.boundary.specs.Exports.{answered, accepts, opens}

-- 10 to 17 and 45: "a table is refused"
abbrev pub table_number : ℕ → Bool
table_number n = (leb 10 n && leb n 17) || eqb n 45

-- beside "any other" number than 0 and these the value is 0; beside any other than these the table is
abbrev pub together : Answer → Bool
together a =
    (eqb a.number 0 || (eqb a.value 0 || table_number a.number)) && (eqb a.table 0 || table_number a.number)

-- The numbers and values fit.

-- "of `check_table` how many key entries", or "the entry's index"
pub record Fits (a : Answer) : Type 0 where
  pub number : a.number < 2 ^ 8
  pub table : a.table < 2 ^ 8
  pub value : a.value < 2 ^ 32
  pub together : together a ≡ true

-- of `prepare` the length written
abbrev pub PrepareFits : Type 0
PrepareFits = (k m : List ℕ) (room : ℕ) → Fits (table_answer (prepare_answer k m room))

abbrev pub TableFits : Type 0
TableFits = (lent : Lent) → Fits (table_answer (tables lent).answer)

-- a verdict's number, and the index beside it
pub record Verdicts (v : Verdict) (i : Index) : Type 0 where
  pub number : (verdict_answer v i).number < 2 ^ 8
  pub table : i.table < 2 ^ 8
  pub index : i.entry < 2 ^ 32
  pub together : together (verdict_answer v i) ≡ true

abbrev pub JudgedFits : Type 0
JudgedFits = (lent : Lent) (a : Arrival) (q : State) → Verdicts (judged (tables lent) a q).verdict (judged (tables lent) a q).index

abbrev pub JudgedSynFits : Type 0
JudgedSynFits = (lent : Lent) (a : Arrival) (strict : Bool)
    → Verdicts (judged_syn (tables lent) a strict).verdict (judged_syn (tables lent) a strict).index

abbrev pub OpenedFits : Type 0
OpenedFits = (lent : Lent) (a : Arrival) (isn : ℕ) (strict : Bool)
    → Verdicts (opened_passively (tables lent) a isn strict).verdict (opened_passively (tables lent) a isn strict).index

-- an opening, or a key to ask for
abbrev pub AskedFits : Type 0
AskedFits = (lent : Lent) (id : ℕ) (q : State) → Fits (of_settled (asked (tables lent) id q))

abbrev pub ActiveFits : Type 0
ActiveFits = (lent : Lent) (local remote : List ℕ) (local_port remote_port isn send_id : ℕ)
    → Fits (of_settled (opened_actively (tables lent) local remote local_port remote_port isn send_id))

abbrev pub ActiveMd5Fits : Type 0
ActiveMd5Fits = (lent : Lent) (local remote : List ℕ) (local_port remote_port isn : ℕ)
    → Fits (of_settled (opened_actively_md5 (tables lent) local remote local_port remote_port isn))

-- "of `sign` the signed length"
abbrev pub SignedFits : Type 0
SignedFits = (lent : Lent) (s out : List ℕ) (q : State) → Fits (of_signed (signed (tables lent) s out q))

-- so what C reads in the answer of a call that takes a state buffer b is the number and the value, or 18 and 0
abbrev pub AnsweredReads : Type 0
AnsweredReads = (b : List ℕ) (a : Answer) → a.number < 2 ^ 8 → a.table < 2 ^ 8 → answered b a < 2 ^ 64
    → Reads (answered b a) (cond (is_state_of b) a (answer 18 0))

-- "0: accept, or done"; "1: pass"; any other number refuses.

-- the answer of a call, and what it says: accept or done, or pass
abbrev pub answer_of : Request → Answer
answer_of (on (judge lent a) q) = of_judged (judged (tables lent) a q)
answer_of (on (sign lent s out) q) = of_signed (signed (tables lent) s out q)
answer_of (on (ask lent id) q) = of_settled (asked (tables lent) id q)
answer_of (judge_syn_of lent a strict) = of_syn_judged (judged_syn (tables lent) a strict)
answer_of (open_passively lent a isn strict) = of_judged (opened_passively (tables lent) a isn strict)
answer_of (open_actively lent local remote local_port remote_port isn send_id) =
    of_settled (opened_actively (tables lent) local remote local_port remote_port isn send_id)
answer_of (open_actively_md5 lent local remote local_port remote_port isn) =
    of_settled (opened_actively_md5 (tables lent) local remote local_port remote_port isn)

abbrev pub signs : Signing → Bool
signs (S.Signed n) = true
signs (S.Refused n) = false

abbrev pub is_done : Request → Bool
is_done (on (judge lent a) q) = accepts (judged (tables lent) a q).verdict
is_done (on (sign lent s out) q) = signs (signed (tables lent) s out q).answer
is_done (on (ask lent id) q) = opens (asked (tables lent) id q).answer
is_done (judge_syn_of lent a strict) = accepts (judged_syn (tables lent) a strict).verdict
is_done (open_passively lent a isn strict) = accepts (opened_passively (tables lent) a isn strict).verdict
is_done (open_actively lent local remote local_port remote_port isn send_id) =
    opens (opened_actively (tables lent) local remote local_port remote_port isn send_id).answer
is_done (open_actively_md5 lent local remote local_port remote_port isn) =
    opens (opened_actively_md5 (tables lent) local remote local_port remote_port isn).answer

-- only a bare SYN that is judged without a state can pass
abbrev pub is_passed : Request → Bool
is_passed (on c q) = false
is_passed (judge_syn_of lent a strict) = is_pass (judged_syn (tables lent) a strict).verdict
is_passed (open_passively lent a isn strict) = is_pass (opened_passively (tables lent) a isn strict).verdict
is_passed (open_actively lent local remote local_port remote_port isn send_id) = false
is_passed (open_actively_md5 lent local remote local_port remote_port isn) = false

-- an answer's number n tells these two
pub record Tells (n : ℕ) (done passed : Bool) : Type 0 where
  pub zero : eqb n 0 ≡ done
  pub one : eqb n 1 ≡ passed

abbrev pub NumberTells : Type 0
NumberTells = (c : Request) → Tells (answer_of c).number (is_done c) (is_passed c)

-- every call's number and table fit
abbrev pub NumberFits : Type 0
NumberFits = (c : Request) → ((answer_of c).number < 2 ^ 8) × ((answer_of c).table < 2 ^ 8)

-- so the low eight bits of what C gets tell it; of a call that takes a state buffer b, a buffer of another length is neither
abbrev pub WordTells : Type 0
WordTells = (c : Request) → Tells (word (answer_of c) % 2 ^ 8) (is_done c) (is_passed c)

abbrev pub AnsweredTells : Type 0
AnsweredTells = (b : List ℕ) (c : Request)
    → Tells (answered b (answer_of c) % 2 ^ 8) (is_state_of b && is_done c) (is_state_of b && is_passed c)

-- and of `check_table` and `prepare`: 0 exactly where the tables are not refused, and never 1
abbrev pub TableTells : Type 0
TableTells = (lent : Lent)
    → Tells (word (table_answer (tables lent).answer) % 2 ^ 8) (not (is_refused (tables lent).answer)) false

abbrev pub PrepareTells : Type 0
PrepareTells = (k m : List ℕ) (room : ℕ)
    → Tells (word (table_answer (prepare_answer k m room)) % 2 ^ 8) (not (is_refused (prepare_answer k m room))) false
