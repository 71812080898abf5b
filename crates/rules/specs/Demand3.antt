-- Demand 3, as a statement: document 01's last section and the demand's own words. `demand3` of OrderLaws proves it.
use Rattle.std.specs.Prelude.{ℕ, ◌+◌, ◌^◌, ◌<◌, max, ◌≡◌, Bool, true, false, cond, Ok}
use mathlib.Core.List.{List, [], ◌∷◌, map, Permᴰ}
use Rattle.octets.specs.Each.{Each}
use Rattle.rules.specs.declared.Verdict.{Verdict}
use Rattle.rules.specs.declared.Verdict.TheVariants.{Accept}
use Rattle.rules.specs.declared.Connection.{Connection}
use Rattle.rules.specs.declared.State.{State}
use Rattle.tables.specs.Tables.{Tables}
use Rattle.tables.specs.Valid.{Apart, ValidTables}
use Rattle.rules.specs.Connection.{Arrival, is_open_of, is_md5_of, sized, extension_of_lem, stop, available}
use Rattle.rules.specs.Calls.{judged}
use Rattle.rules.specs.Lent.{Lent, tables}
use Rattle.rules.specs.Ends.{Typed, Allowed, TrueSegment, Verifies}

-- A list of calls: "each call gets the state that the one before returned, and nothing else writes it meanwhile".

pub record Answers : Type 0 where
  pub verdicts : List Verdict
  pub state : State

abbrev pub judge_all : Tables → State → List Arrival → Answers
judge_all t q [] = record { verdicts = []; state = q }
judge_all t q (a ∷ l) =
    record {
      verdicts = (judged t a q).verdict ∷ (judge_all t (judged t a q).state l).verdicts;
      state = (judge_all t (judged t a q).state l).state;
    }

-- What arrives: "true segments .., and others that verify under none of these keys with any extension".

pub data Arriving (t : Tables) (l : Connection) : Type 0 where
  real : (a : Arrival) (x r : ℕ) → TrueSegment t l a x r → Arriving t l
  other : (a : Arrival) → (Verifies t l a → ⊥) → Arriving t l

module _ {t : Tables} {l : Connection} where
  abbrev pub arrival : Arriving t l → Arrival
  arrival (real a x r p) = a
  arrival (other a o) = a

  -- the true positions, and what the true segments ask for, in the order of arrival
  abbrev pub positions : List (Arriving t l) → List ℕ
  positions [] = []
  positions (real a x r p ∷ k) = x ∷ positions k
  positions (other a o ∷ k) = positions k

  abbrev pub requested : List (Arriving t l) → List ℕ
  requested [] = []
  requested (real a x r p ∷ k) = r ∷ requested k
  requested (other a o ∷ k) = requested k

  -- how many arrivals are true
  abbrev pub trues : List (Arriving t l) → ℕ
  trues [] = 0
  trues (real a x r p ∷ k) = 1 + trues k
  trues (other a o ∷ k) = trues k

  -- "every arrival that is not true counts, except one given 19": 19 is given where the addresses are not both 4 or both 16 bytes
  abbrev pub others : List (Arriving t l) → ℕ
  others [] = 0
  others (real a x r p ∷ k) = others k
  others (other a o ∷ k) = cond (sized a.source a.destination) 1 0 + others k

  -- "each true one is accepted with the sender's extension and no other is"
  abbrev pub Fits : Arriving t l → Verdict → Type 0
  Fits (real a x r p) v = v ≡ Accept (extension_of_lem x)
  Fits (other a o) v = (e : ℕ) → v ≡ Accept e → ⊥

  abbrev pub AllFit : List (Arriving t l) → List Verdict → Type 0
  AllFit [] [] = Unit {0}
  AllFit [] (v ∷ vs) = ⊥
  AllFit (i ∷ k) [] = ⊥
  AllFit (i ∷ k) (v ∷ vs) = Fits i v × AllFit k vs

-- numbers

abbrev pub sum : List ℕ → ℕ
sum [] = 0
sum (n ∷ l) = n + sum l

abbrev pub largest : ℕ → List ℕ → ℕ
largest m [] = m
largest m (x ∷ l) = largest (max m x) l

-- the numbers of a list that pass a test; the last number of a list, or k where it is empty
abbrev pub those : (ℕ → Bool) → List ℕ → List ℕ
those f [] = []
those f (x ∷ l) = cond (f x) (x ∷ those f l) (those f l)

abbrev pub last_or : ℕ → List ℕ → ℕ
last_or k [] = k
last_or k (x ∷ l) = last_or x l

-- "less than 2^31 from each other": any two numbers of the list
abbrev pub Within : ℕ → ℕ → Type 0
Within a b = (a < b + 2 ^ 31) × (b < a + 2 ^ 31)

abbrev pub Close : List ℕ → Type 0
Close [] = Unit {0}
Close (x ∷ l) = Each (Within x) l × Close l

-- "no count at its stop"
pub record NoStop (q : State) : Type 0 where
  pub accepts : q.accepted < stop
  pub drops : Each (λ (n : ℕ). n < stop) q.drops

-- "end alike, but for the outgoing key and the split by drop reason"
pub record Alike (q r : State) : Type 0 where
  pub conn : q.conn ≡ r.conn
  pub sent : q.sent ≡ r.sent
  pub seen : q.seen ≡ r.seen
  pub asks : q.ask_id ≡ r.ask_id
  pub accepted : q.accepted ≡ r.accepted
  pub dropped : sum q.drops ≡ sum r.drops

-- the state after the list
abbrev pub after : (t : Tables) (q : State) → List (Arriving t q.conn) → State
after t q l = (judge_all t q (map arrival l)).state

-- What the demand is given: "an open connection and a fixed valid key table", a state that 18 allows, and "The true positions lie less
-- than 2^31 from each other and from the starting reference." Ticket 9: "the MD5 table given beside the key table is not refused (10 to 17,
-- 45), and in demand 3 it is fixed too. Demand 3 .. not asked for MD5 lines, the connections opened by MD5". Ticket 8: "take neither a
-- clashing table nor one refused with 44"
pub record Given (t : Tables) (q : State) (l : List (Arriving t q.conn)) : Type 0 where
  pub valid : ValidTables t
  pub typed : Typed q
  pub allowed : Allowed q.conn
  pub is_open : is_open_of q.conn ≡ true
  pub way : is_md5_of q.conn ≡ false
  pub close : Close (q.seen ∷ positions l)

-- The demand, of one list of arrivals on the connection of q under the tables t.
pub record Demand3 (t : Tables) (q : State) (l : List (Arriving t q.conn)) : Type 0 where
  pub verdicts : AllFit l (judge_all t q (map arrival l)).verdicts
  -- "After the list the reference is the largest of the starting one and the true positions."
  pub reference : (after t q l).seen ≡ largest q.seen (positions l)
  -- "The outgoing key is what the last true segment asking for an available key asked for, or the starting one."
  pub key : (after t q l).send_id ≡ last_or q.send_id (those (available t q.conn.pair) (requested l))
  -- "With no count at its stop, accepted = accepted at the start + true arrivals, and dropped = dropped at the start + the others that
  -- document 01 counts"
  pub accepted : NoStop (after t q l) → (after t q l).accepted ≡ q.accepted + trues l
  pub dropped : NoStop (after t q l) → sum (after t q l).drops ≡ sum q.drops + others l
  -- what no arrival changes
  pub rest : ((after t q l).conn ≡ q.conn) × ((after t q l).sent ≡ q.sent) × ((after t q l).ask_id ≡ q.ask_id)
  -- "two orders of the same arrivals then end alike": "A count's stop is looked for after the list; of two orders, after both."
  pub orders : (k : List Arrival) → Permᴰ (map arrival l) k → NoStop (after t q l) → NoStop (judge_all t q k).state
      → Alike (after t q l) (judge_all t q k).state

-- "one claim about the whole list of arrivals judged on a connection"
abbrev pub Demand3Holds : Type 0
Demand3Holds = (t : Tables) (q : State) (l : List (Arriving t q.conn)) → Given t q l → Demand3 t q l

-- of lent tables, in either form, that are not refused and to which neither 17 nor 45 would apply, the same
abbrev pub Demand3Lent : Type 0
Demand3Lent = (b : Lent) (n : ℕ) (q : State) (l : List (Arriving (tables b) q.conn)) → (tables b).answer ≡ Ok n
    → Apart (tables b) → Typed q
    → Allowed q.conn → is_open_of q.conn ≡ true → is_md5_of q.conn ≡ false → Close (q.seen ∷ positions l) → Demand3 (tables b) q l
