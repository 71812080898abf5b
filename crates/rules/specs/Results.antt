-- What signing, an active opening and the operator's call give: the answer, an entry's index where a table is refused (10 to 17, 45), else
-- zeros, and the state behind the call. "A refusal leaves outputs and state alike": the code gives a new state only where it is done, and
-- `signed_as` and `settled_as` say which answer and state its result is, beside the state that was there.
use Rattle.std.specs.Prelude.{Result, Ok, Err}
use Rattle.tables.specs.declared.Index.{Index}
use Rattle.tables.specs.declared.Refusal.{Refusal}
use Rattle.tables.specs.Tables.{no_index}
use Rattle.rules.specs.declared.State.{State}
use Rattle.rules.specs.declared.SignedSegment.{SignedSegment}
use Rattle.rules.specs.Signing.{Signing}
use Rattle.rules.specs.Signing as S
use Rattle.rules.specs.Done.{Done}
use Rattle.rules.specs.Done as D

pub record Signed : Type 0 where
  pub answer : Signing
  pub index : Index
  pub state : State

pub record Settled : Type 0 where
  pub answer : Done
  pub index : Index
  pub state : State

abbrev pub signed_as : State → Result SignedSegment Refusal → Signed
signed_as q (Ok s) = record { answer = S.Signed s.len; index = no_index; state = s.state }
signed_as q (Err r) = record { answer = S.Refused r.number; index = r.index; state = q }

abbrev pub settled_as : State → Result State Refusal → Settled
settled_as old (Ok q) = record { answer = D.Succeeded; index = no_index; state = q }
settled_as old (Err r) = record { answer = D.Refused r.number; index = r.index; state = old }
