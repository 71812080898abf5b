-- (boundary) "A call that is refused leaves every buffer as it was, but for a drop's count on an open connection", and "A passive opening
-- whose SYN is only passed is no refusal: it writes the empty state, all zero". The contracts say what stands in each buffer at exit;
-- here are the statements that this is the sentence. UnchangedLaws proves them. Assumes of a state buffer b that its bytes are below 256,
-- as every byte is.
use Rattle.std.specs.Prelude.{ℕ, ◌≡◌, true, false, ◌&&◌, List, length, replicate}
use Rattle.octets.specs.Each.{Octets}
use Rattle.tables.specs.Tables.{Tables}
use Rattle.tables.specs.Preparing.{prepare_answer}
use Rattle.tables.specs.declared.Index.{Index}
use Rattle.tables.specs.Tables.{refused_with}
use Rattle.rules.specs.declared.Verdict.TheVariants.{Pass, Drop}
use Rattle.rules.specs.Signing as S
use Rattle.rules.specs.Done as D
use Rattle.rules.specs.declared.Judged.{Judged}
use Rattle.rules.specs.Connection.{arrival_of, is_open_of, is_counted}
use Rattle.rules.specs.Calls.{judged, opened_passively, opened_actively, opened_actively_md5, asked, signed}
use Rattle.rules.specs.Lent.{Lent, tables}
use Rattle.rules.specs.Refusals.{one_more_of}
use Rattle.states.specs.Layout.{is_state_of, state_bytes, decode_of}
use Rattle.boundary.specs.Exports.{changed, state_where, strictly}
use Rattle.boundary.specs.Exports.{prepare_export, open_passive_export, open_active_export, open_active_md5_export}
use Rattle.boundary.specs.Exports.{judge_export, sign_export, ask_export}

-- a state buffer of another length: whatever the call below would do, no buffer changes
abbrev pub OtherLength : Type 0
OtherLength = (b x y : List ℕ) → is_state_of b ≡ false → changed b x y ≡ y

-- An opening that is refused, and one whose SYN is only passed.

-- what the call of `tcpao` returns
abbrev pub passively : Tables → (source destination segment : List ℕ) (isn setting : ℕ) → Judged
passively t source destination segment isn setting =
    opened_passively t (arrival_of source destination segment) isn (strictly setting)

abbrev pub PassivelyRefused : Type 0
PassivelyRefused = (t : Tables) (source destination segment : List ℕ) (isn setting : ℕ) (b : List ℕ) (n : ℕ)
    → (passively t source destination segment isn setting).verdict ≡ Drop n
    → (open_passive_export t source destination segment isn setting b).state ≡ b

abbrev pub PassivelyPassed : Type 0
PassivelyPassed = (t : Tables) (source destination segment : List ℕ) (isn setting : ℕ) (b : List ℕ)
    → is_state_of b ≡ true → (passively t source destination segment isn setting).verdict ≡ Pass
    → (open_passive_export t source destination segment isn setting b).state ≡ replicate state_bytes 0

abbrev pub ActivelyRefused : Type 0
ActivelyRefused = (t : Tables) (local remote : List ℕ) (local_port remote_port isn send_id : ℕ) (b : List ℕ) (n : ℕ)
    → (opened_actively t local remote local_port remote_port isn send_id).answer ≡ D.Refused n
    → (open_active_export t local remote local_port remote_port isn send_id b).state ≡ b

abbrev pub ActivelyMd5Refused : Type 0
ActivelyMd5Refused = (t : Tables) (local remote : List ℕ) (local_port remote_port isn : ℕ) (b : List ℕ) (n : ℕ)
    → (opened_actively_md5 t local remote local_port remote_port isn).answer ≡ D.Refused n
    → (open_active_md5_export t local remote local_port remote_port isn b).state ≡ b

-- Preparing that is refused.
abbrev pub PrepareRefused : Type 0
PrepareRefused = (k m out : List ℕ) (n : ℕ) (i : Index) → prepare_answer k m (length out) ≡ refused_with n i
    → (prepare_export k m out).out ≡ out

-- The calls on a connection, whose state is decode_of b.

abbrev pub judging : (b : List ℕ) → Lent → (source destination segment : List ℕ) → Judged
judging b lent source destination segment = judged (tables lent) (arrival_of source destination segment) (decode_of b)

-- a drop adds one to its count if the connection is open and the number is counted, and nothing else
abbrev pub JudgeRefused : Type 0
JudgeRefused = (b : List ℕ) → Octets b → (lent : Lent) (source destination segment : List ℕ) (n : ℕ)
    → (judging b lent source destination segment).verdict ≡ Drop n
    → (judge_export (tables lent) source destination segment b).state
    ≡ state_where b (is_open_of (decode_of b).conn && is_counted n) (one_more_of n (decode_of b))

-- and judging never passes: that is for a bare SYN without a state
abbrev pub JudgePassesNone : Type 0
JudgePassesNone = (b : List ℕ) → Octets b → (lent : Lent) (source destination segment : List ℕ)
    → (judging b lent source destination segment).verdict ≡ Pass → ⊥

abbrev pub SignRefused : Type 0
SignRefused = (b : List ℕ) → Octets b → (lent : Lent) (s out : List ℕ) (n : ℕ)
    → (signed (tables lent) s out (decode_of b)).answer ≡ S.Refused n
    → ((sign_export (tables lent) s out b).state ≡ b) × ((sign_export (tables lent) s out b).out ≡ out)

abbrev pub AskRefused : Type 0
AskRefused = (b : List ℕ) → Octets b → (lent : Lent) (id n : ℕ) → (asked (tables lent) id (decode_of b)).answer ≡ D.Refused n
    → (ask_export (tables lent) id b).state ≡ b
