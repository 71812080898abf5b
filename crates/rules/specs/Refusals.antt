-- A refusal changes nothing but the count, as statements: demand 1 of the definitions, stated once for all calls. Document 01, "Numbers
-- given back": "A refusal leaves outputs and state alike, except that drops 20 to 29 on an open connection add one to that number's count."
-- (Ticket 5: and 40; Ticket 9: and 46, 47). RefusalLaws proves them.
use Rattle.std.specs.Prelude.{ℕ, ◌≡◌, Bool, cond, ◌&&◌, List, [], length, drop}
use Rattle.tables.specs.Tables.{Tables}
use Rattle.rules.specs.declared.Verdict.{Verdict}
use Rattle.rules.specs.declared.Verdict.TheVariants.{Accept, Pass, Drop}
use Rattle.rules.specs.Signing.{Signing}
use Rattle.rules.specs.Signing as S
use Rattle.rules.specs.Done.{Done}
use Rattle.rules.specs.Done as D
use Rattle.rules.specs.declared.State.{State}
use Rattle.rules.specs.Connection.{Arrival, is_open_of, is_counted, slot, count_at_lem, empty}
use Rattle.rules.specs.Calls.{judged, judged_syn, opened_passively, opened_actively, opened_actively_md5, asked, signed, output}
use Rattle.rules.specs.Lent.{Lent, tables}
use Rattle.rules.specs.History.{Call, judge, sign, ask, next}

-- Every call, with all that it is given; its tables are any bytes.
pub data Request : Type 0 where
  on : Call → State → Request
  judge_syn_of : (lent : Lent) (arrival : Arrival) (strict : Bool) → Request
  open_passively : (lent : Lent) (arrival : Arrival) (isn : ℕ) (strict : Bool) → Request
  open_actively : (lent : Lent) (local remote : List ℕ) (local_port remote_port isn send_id : ℕ) → Request
  open_actively_md5 : (lent : Lent) (local remote : List ℕ) (local_port remote_port isn : ℕ) → Request

-- what it answers: done, or refused with a number. A verdict refuses by a drop, signing by no length.
abbrev pub by_verdict : Verdict → Done
by_verdict (Accept e) = D.Succeeded
by_verdict Pass = D.Succeeded
by_verdict (Drop n) = D.Refused n

abbrev pub by_signing : Signing → Done
by_signing (S.Signed n) = D.Succeeded
by_signing (S.Refused n) = D.Refused n

abbrev pub reply : Request → Done
reply (on (judge b a) q) = by_verdict (judged (tables b) a q).verdict
reply (on (sign b s out) q) = by_signing (signed (tables b) s out q).answer
reply (on (ask b id) q) = (asked (tables b) id q).answer
reply (judge_syn_of b a strict) = by_verdict (judged_syn (tables b) a strict).verdict
reply (open_passively b a isn strict) = by_verdict (opened_passively (tables b) a isn strict).verdict
reply (open_actively b local remote local_port remote_port isn send_id) =
    (opened_actively (tables b) local remote local_port remote_port isn send_id).answer
reply (open_actively_md5 b local remote local_port remote_port isn) =
    (opened_actively_md5 (tables b) local remote local_port remote_port isn).answer

-- the state that it returns; judging without a state returns none, as if it were the empty one
abbrev pub state_after : Request → State
state_after (on c q) = next c q
state_after (judge_syn_of b a strict) = empty
state_after (open_passively b a isn strict) = (opened_passively (tables b) a isn strict).state
state_after (open_actively b local remote local_port remote_port isn send_id) =
    (opened_actively (tables b) local remote local_port remote_port isn send_id).state
state_after (open_actively_md5 b local remote local_port remote_port isn) =
    (opened_actively_md5 (tables b) local remote local_port remote_port isn).state

-- the output, before and after; only signing has one
abbrev pub output_before : Request → List ℕ
output_before (on (judge b a) q) = []
output_before (on (sign b s out) q) = out
output_before (on (ask b id) q) = []
output_before (judge_syn_of b a strict) = []
output_before (open_passively b a isn strict) = []
output_before (open_actively b local remote local_port remote_port isn send_id) = []
output_before (open_actively_md5 b local remote local_port remote_port isn) = []

abbrev pub output_after : Request → List ℕ
output_after (on (judge b a) q) = []
output_after (on (sign b s out) q) = output (tables b) s out q
output_after (on (ask b id) q) = []
output_after (judge_syn_of b a strict) = []
output_after (open_passively b a isn strict) = []
output_after (open_actively b local remote local_port remote_port isn send_id) = []
output_after (open_actively_md5 b local remote local_port remote_port isn) = []

-- "add one to that number's count"
abbrev pub one_more_of : ℕ → State → State
one_more_of n q =
    record {
      conn = q.conn;
      sent = q.sent;
      seen = q.seen;
      send_id = q.send_id;
      ask_id = q.ask_id;
      accepted = q.accepted;
      drops = count_at_lem (slot n) q.drops;
    }

-- the state that a refusal with the number n leaves; "An opening refused .. returns the empty state"
abbrev pub left : Request → ℕ → State
left (on (judge b a) q) n = cond (is_open_of q.conn && is_counted n) (one_more_of n q) q
left (on (sign b s out) q) n = q
left (on (ask b id) q) n = q
left (judge_syn_of b a strict) n = empty
left (open_passively b a isn strict) n = empty
left (open_actively b local remote local_port remote_port isn send_id) n = empty
left (open_actively_md5 b local remote local_port remote_port isn) n = empty

pub record Unchanged (c : Request) (n : ℕ) : Type 0 where
  pub output : output_after c ≡ output_before c
  pub state : state_after c ≡ left c n

-- The statement, of every call.
abbrev pub RefusalLeaves : Type 0
RefusalLeaves = (c : Request) (n : ℕ) → reply c ≡ D.Refused n → Unchanged c n

-- "a SYN only passed, returns the empty state"
abbrev pub PassedEmpty : Type 0
PassedEmpty = (t : Tables) (a : Arrival) (isn : ℕ) (strict : Bool) → (opened_passively t a isn strict).verdict ≡ Pass
    → (opened_passively t a isn strict).state ≡ empty

-- "Signing writes only the signed length's bytes of the output."
abbrev pub SigningWrites : Type 0
SigningWrites = (b : Lent) (s out : List ℕ) (q : State) (n : ℕ) → (signed (tables b) s out q).answer ≡ S.Signed n
    → (drop n (output (tables b) s out q) ≡ drop n out) × (length (output (tables b) s out q) ≡ length out)
