-- By what refuses the opening.
use Rattle.std.proofs.Common.{sym, ap}
use Rattle.std.specs.Prelude.{Result}
use Rattle.tables.specs.declared.Refusal.{Refusal}
use Rattle.recording.specs.Recording.{opens_as, opened_by_lem, with_held}
use Rattle.recording.proofs.Settling.{table-part, opens_at, refuses}
use Rattle.recording.proofs.desk.Desk.open.Goals as goal

pub returns-in-Ok : goal.returns-in-Ok
returns-in-Ok c =
    let n = c.table_bytes-n in
    opens_at c.args.self _ c.args.table.now c.args.bytes.now _ n.result _ _
    (table-part c.args.table.now c.args.self.table_length n.result n.ensures) c.check_opening.ensures c.open_state.ensures
    (λ d. ap (λ (r : Result Unit Refusal). opened_by_lem (with_held c.args.bytes.now d) (opens_as r)) c.in-Ok.is)
    (c.at_opening.ensures c.args.table.now)

pub returns-in-Err : goal.returns-in-Err
returns-in-Err c =
    let n = c.table_bytes-n in
    refuses c.args.self _ c.args.table.now c.args.bytes.now _ n.result _ _ _
    (table-part c.args.table.now c.args.self.table_length n.result n.ensures) c.check_opening.ensures (ap opens_as c.in-Err.is)
    (c.stop.ensures c.args.table.now)
