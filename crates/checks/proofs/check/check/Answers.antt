-- Begin, data and end are the whole.
use Rattle.std.proofs.Common.{◌≡◌, ℕ, List, drop, Ok, Err, sym, ap, ◌∙◌}
use Rattle.wire.specs.Header.{header_end_of}
use Rattle.rules.specs.Connection.{Arrival}
use Rattle.checks.specs.BeginLaws.{settled, judge-ends}
use Rattle.checks.proofs.check.check.Goals as goal

pub returns-in-Ok : goal.returns-in-Ok
returns-in-Ok c =
    let a = c.args in
    let b = c.in-Ok.begun in
    let segment = ap (λ (a : Arrival). a.segment) c.arrival.view_is in
    c.finished.ensures
    ∙ ap (λ (s : List ℕ). settled (Ok b) (drop (header_end_of s) s)) segment
    ∙ judge-ends a.tables.now a.conn a.reference a.arrival.now (Ok b) c.in-Ok.ensures

pub returns-in-Err : goal.returns-in-Err
returns-in-Err c =
    let a = c.args in
    judge-ends a.tables.now a.conn a.reference a.arrival.now (Err c.in-Err.outcome) c.in-Err.ensures
