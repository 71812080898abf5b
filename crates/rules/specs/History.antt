-- One verdict, one count, as a statement: document 01, "Numbers given back", over any list of calls from an opening on. `one-count` of
-- HistoryLaws proves it.
use Rattle.std.specs.Prelude.{ℕ, ◌+◌, min, ◌≡◌, Bool, true, cond, List, [], ◌∷◌, ◌++◌, get_or, replicate, eqb}
use Rattle.tables.specs.Tables.{Tables}
use Rattle.rules.specs.declared.Verdict.{Verdict}
use Rattle.rules.specs.declared.Verdict.TheVariants.{Accept, Pass, Drop}
use Rattle.rules.specs.declared.State.{State}
use Rattle.rules.specs.Connection.{Arrival, is_open_of, value, stop, slots, slot, is_counted}
use Rattle.rules.specs.Calls.{judged, signed, asked, opened_passively, opened_actively, opened_actively_md5}
use Rattle.rules.specs.Lent.{Lent, tables}
use Rattle.rules.specs.Demand3.{sum, NoStop}

-- A call on a connection, with any tables and any bytes: judging an arrival, signing a segment into an output, asking for a key.
pub data Call : Type 0 where
  judge : (lent : Lent) (arrival : Arrival) → Call
  sign : (lent : Lent) (segment out : List ℕ) → Call
  ask : (lent : Lent) (id : ℕ) → Call

-- the state that a call returns
abbrev pub next : Call → State → State
next (judge b a) q = (judged (tables b) a q).state
next (sign b s out) q = (signed (tables b) s out q).state
next (ask b id) q = (asked (tables b) id q).state

-- the state after a list of calls, each of which gets the state that the one before returned
abbrev pub ended : State → List Call → State
ended q [] = q
ended q (c ∷ l) = ended (next c q) l

-- the verdict of a call on an open connection: "the segment that opens is not counted"
abbrev pub verdict_on : Call → State → List Verdict
verdict_on (judge b a) q = cond (is_open_of q.conn) ((judged (tables b) a q).verdict ∷ []) []
verdict_on (sign b s out) q = []
verdict_on (ask b id) q = []

-- the verdicts that were given on the open connection
abbrev pub verdicts_on : State → List Call → List Verdict
verdicts_on q [] = []
verdicts_on q (c ∷ l) = verdict_on c q ++ verdicts_on (next c q) l

-- how many accepts there are among the verdicts, how many drops of the number n, and how many drops that are counted
abbrev pub accepts : List Verdict → ℕ
accepts [] = 0
accepts (Accept e ∷ l) = 1 + accepts l
accepts (Pass ∷ l) = accepts l
accepts (Drop m ∷ l) = accepts l

abbrev pub drops : ℕ → List Verdict → ℕ
drops n [] = 0
drops n (Accept e ∷ l) = drops n l
drops n (Pass ∷ l) = drops n l
drops n (Drop m ∷ l) = cond (eqb m n) 1 0 + drops n l

abbrev pub counted_drops : List Verdict → ℕ
counted_drops [] = 0
counted_drops (Accept e ∷ l) = counted_drops l
counted_drops (Pass ∷ l) = counted_drops l
counted_drops (Drop m ∷ l) = cond (is_counted m) 1 0 + counted_drops l

-- the count of the drops of the number n
abbrev pub drop_count : ℕ → State → ℕ
drop_count n q = get_or q.drops (value (slot n)) 0

-- "All are 0 at opening"
pub record CountsZero (q : State) : Type 0 where
  pub accepted : q.accepted ≡ 0
  pub drops : q.drops ≡ replicate slots 0

-- The statement, of the calls l from the state q on.
pub record OneCount (q : State) (l : List Call) : Type 0 where
  -- one verdict, one count; "Counts of acceptances and of each drop stop at 2^64-1."
  pub accepted : (ended q l).accepted ≡ min stop (accepts (verdicts_on q l))
  pub dropped : (n : ℕ) → is_counted n ≡ true → drop_count n (ended q l) ≡ min stop (drops n (verdicts_on q l))
  -- so each is exact if no count is at its stop at the end
  pub accepted-exactly : NoStop (ended q l) → (ended q l).accepted ≡ accepts (verdicts_on q l)
  pub dropped-exactly : NoStop (ended q l) → (n : ℕ) → is_counted n ≡ true → drop_count n (ended q l) ≡ drops n (verdicts_on q l)
  -- "Below the stop, their sum is how many accepts and drops 20 to 29 were given since opening." Ticket 5: "the counted drops and their
  -- sum include it", 40; Ticket 9: 46 and 47 are "counted and within the sum"
  pub total : NoStop (ended q l) → (ended q l).accepted + sum (ended q l).drops
      ≡ accepts (verdicts_on q l) + counted_drops (verdicts_on q l)

-- from any state whose counts are 0; from a passive and from an active opening, by either way, whatever came of it
abbrev pub FromZero : Type 0
FromZero = (q : State) → CountsZero q → (l : List Call) → OneCount q l

abbrev pub FromPassive : Type 0
FromPassive = (t : Tables) (a : Arrival) (isn : ℕ) (strict : Bool) (l : List Call) → OneCount (opened_passively t a isn strict).state l

abbrev pub FromActive : Type 0
FromActive = (t : Tables) (local remote : List ℕ) (local_port remote_port isn send_id : ℕ) (l : List Call)
    → OneCount (opened_actively t local remote local_port remote_port isn send_id).state l

abbrev pub FromActiveMd5 : Type 0
FromActiveMd5 = (t : Tables) (local remote : List ℕ) (local_port remote_port isn : ℕ) (l : List Call)
    → OneCount (opened_actively_md5 t local remote local_port remote_port isn).state l
