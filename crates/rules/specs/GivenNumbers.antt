-- Which numbers each call can give, and that only a bare SYN judged without a state can pass, as statements: document 01, "Numbers given
-- back". So no refusal has the number 0 or 1, which an answer keeps for what has no number there (Answers.antt). GivenNumberLaws proves
-- them.
use Rattle.std.specs.Prelude.{ℕ, ◌≤◌, ◌≡◌, Bool, true, false, cond, ◌||◌, List, [], ◌∷◌, ◌++◌, eqb, Ok, Err}
use Rattle.keys.specs.Table.{Found}
use Rattle.tables.specs.declared.Index.{Index}
use Rattle.tables.specs.Tables.{Admitted, refused_with, Tables, no_index, max_entries}
use Rattle.rules.specs.declared.Outcome.TheVariants.{Passed}
use Rattle.rules.specs.declared.Verdict.{Verdict}
use Rattle.rules.specs.declared.Verdict.TheVariants.{Accept, Pass, Drop}
use Rattle.rules.specs.declared.Connection.{Connection}
use Rattle.rules.specs.declared.State.{State}
use Rattle.rules.specs.Done as D
use Rattle.octets.specs.Tests.{first}
use Rattle.rules.specs.Connection.{Arrival, arrival_pair_of, is_md5_of}
use Rattle.rules.specs.Calls.{syn_is_md5, judged, unrefused, open_tests, ask_tests, check_sign}
use Rattle.rules.specs.Lent.{Lent, tables}
use Rattle.rules.specs.History.{judge, sign, ask}
use Rattle.rules.specs.Refusals.{Request, on, judge_syn_of, open_passively, open_actively, open_actively_md5, reply}

-- n is one of the numbers l
abbrev pub among : ℕ → List ℕ → Bool
among n [] = false
among n (m ∷ l) = eqb n m || among n l

-- The numbers of each call.

-- the tables': 10 to 17, Ticket 8's 44 and Ticket 9's 45
abbrev pub table_numbers : List ℕ
table_numbers = 10 ∷ 11 ∷ 12 ∷ 13 ∷ 14 ∷ 15 ∷ 16 ∷ 17 ∷ 44 ∷ 45 ∷ []

abbrev pub judge_numbers : List ℕ
judge_numbers = 18 ∷ 19 ∷ (table_numbers ++ (20 ∷ 21 ∷ 22 ∷ 23 ∷ 24 ∷ 25 ∷ 26 ∷ 27 ∷ 28 ∷ 29 ∷ 40 ∷ []))

-- Ticket 9: 46 and 47 are of the MD5 way alone, where 25 and 28 are not given
abbrev pub md5_judge_numbers : List ℕ
md5_judge_numbers = 18 ∷ 19 ∷ (table_numbers ++ (20 ∷ 21 ∷ 22 ∷ 23 ∷ 24 ∷ 26 ∷ 27 ∷ 29 ∷ 40 ∷ 46 ∷ 47 ∷ []))

-- a bare SYN comes without a state, whose family or pair could be another, and has its own number as position: not 18, 23 or 28
abbrev pub syn_numbers : List ℕ
syn_numbers = 19 ∷ (table_numbers ++ (20 ∷ 21 ∷ 22 ∷ 24 ∷ 25 ∷ 26 ∷ 27 ∷ 29 ∷ 40 ∷ []))

-- one whose pair an MD5 entry matches
abbrev pub md5_syn_numbers : List ℕ
md5_syn_numbers = 19 ∷ (table_numbers ++ (20 ∷ 21 ∷ 22 ∷ 24 ∷ 27 ∷ 29 ∷ 40 ∷ 46 ∷ 47 ∷ []))

abbrev pub sign_numbers : List ℕ
sign_numbers = 18 ∷ (table_numbers ++ (30 ∷ 31 ∷ 32 ∷ 33 ∷ 34 ∷ 35 ∷ 36 ∷ 37 ∷ []))

abbrev pub ask_numbers : List ℕ
ask_numbers = 18 ∷ (table_numbers ++ (35 ∷ []))

abbrev pub open_numbers : List ℕ
open_numbers = 19 ∷ (table_numbers ++ (35 ∷ []))

abbrev pub numbers_of : Request → List ℕ
numbers_of (on (judge b a) q) = cond (is_md5_of q.conn) md5_judge_numbers judge_numbers
numbers_of (on (sign b s out) q) = sign_numbers
numbers_of (on (ask b id) q) = ask_numbers
numbers_of (judge_syn_of b a strict) = cond (syn_is_md5 (tables b) (arrival_pair_of a)) md5_syn_numbers syn_numbers
numbers_of (open_passively b a isn strict) = cond (syn_is_md5 (tables b) (arrival_pair_of a)) md5_syn_numbers syn_numbers
numbers_of (open_actively b local remote local_port remote_port isn send_id) = open_numbers
numbers_of (open_actively_md5 b local remote local_port remote_port isn) = open_numbers

-- the tables' counts and indices stay at or below the limit, the tables are two, and their numbers are these, 44 "without an index"
abbrev pub Bounded : ℕ → Admitted → Type 0
Bounded limit (Ok n) = n ≤ limit
Bounded limit (Err r) =
    (among r.number table_numbers ≡ true) × (r.index.table ≤ 1) × (r.index.entry ≤ limit) × (r.number ≡ 44 → r.index ≡ no_index)

abbrev pub is_pass : Verdict → Bool
is_pass (Accept e) = false
is_pass Pass = true
is_pass (Drop n) = false

-- The statements.

-- a call that is refused gives one of its numbers
abbrev pub RefusedAmong : Type 0
RefusedAmong = (c : Request) (n : ℕ) → reply c ≡ D.Refused n → among n (numbers_of c) ≡ true

-- so it lies between 10 and 47, and is neither 0 nor 1
abbrev pub RefusedBounds : Type 0
RefusedBounds = (c : Request) (n : ℕ) → reply c ≡ D.Refused n → (10 ≤ n) × (n ≤ 47)

-- what the tables give: at most 1,024 entries, or 10 to 17 or 45 with an index up to 1,024 in one of two tables, or 44
abbrev pub CheckedWithin : Type 0
CheckedWithin = (b : Lent) → Bounded max_entries (tables b).answer

abbrev pub TableBounds : Type 0
TableBounds = (b : Lent) (n : ℕ) (i : Index) → (tables b).answer ≡ refused_with n i → (10 ≤ n) × (n ≤ 45)

-- judging on a connection never gives pass
abbrev pub JudgeNeverPasses : Type 0
JudgeNeverPasses = (t : Tables) (a : Arrival) (q : State) → is_pass (judged t a q).verdict ≡ false

-- nor does a test of the other calls on a connection, or of an active opening
abbrev pub SignNotPassed : Type 0
SignNotPassed = (t : Tables) (s : List ℕ) (room : ℕ) (q : State) → check_sign t s room q ≡ Passed → ⊥

abbrev pub AskNotPassed : Type 0
AskNotPassed = (t : Tables) (id : ℕ) (l : Connection) → first (ask_tests t id l) unrefused ≡ Passed → ⊥

abbrev pub OpenNotPassed : Type 0
OpenNotPassed = (t : Tables) (local remote : List ℕ) (found : Found) → first (open_tests t local remote found) unrefused ≡ Passed → ⊥
