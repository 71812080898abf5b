-- The answer and the state, from what judging found.
use Rattle.std.proofs.Common.{ℕ, List, drop, Ok, Err, ap, ◌∙◌}
use Rattle.wire.specs.Header.{header_end_of}
use Rattle.tables.specs.Tables.{recv_entry}
use Rattle.rules.specs.Segment.{key_id_of}
use Rattle.rules.specs.Connection.{Arrival, arrival_pair_of}
use Rattle.checks.specs.BeginLaws.{settled, syn-ends, syn-by}
use Rattle.tcpao.proofs.Judging.{taken-by, not_opened, passively-is}
use Rattle.tcpao.proofs.Numbered.{passively-numbered}
use Rattle.tcpao.proofs.judge.open_passive.Goals as goal

pub opened_by-requires : goal.opened_by-requires
opened_by-requires c =
    let a = c.args in
    let b = c.in-Ok.begun in
    let gave =
    c.finished-outcome.ensures
    ∙ ap (λ (a : Arrival). settled (Ok b) (drop (header_end_of a.segment) a.segment)) c.arrival.view_is
    ∙ syn-ends a.tables.now a.arrival.now a.strict (Ok b) c.in-Ok.ensures in
    taken-by a.tables.now a.arrival.now a.strict gave (syn-by a.tables.now a.arrival.now a.strict b c.in-Ok.ensures)

pub returns-in-Ok : goal.returns-in-Ok
returns-in-Ok c =
    let a = c.args in
    let b = c.in-Ok.begun in
    let gave =
    c.finished-outcome.ensures
    ∙ ap (λ (a : Arrival). settled (Ok b) (drop (header_end_of a.segment) a.segment)) c.arrival.view_is
    ∙ syn-ends a.tables.now a.arrival.now a.strict (Ok b) c.in-Ok.ensures in
    let both =
    passively-numbered a.tables.now a.arrival.now a.isn a.strict
    (passively-is a.tables.now a.arrival.now a.isn a.strict gave c.from.ensures c.index.ensures c.opened_by.ensures) in
    record { answer = both.0; number = both.1 }

pub returns-in-Err : goal.returns-in-Err
returns-in-Err c =
    let a = c.args in
    let o = c.in-Err.outcome in
    let p = arrival_pair_of a.arrival.now in
    let e = (recv_entry a.tables.now p (key_id_of a.arrival.now.segment)).entry in
    let both =
    passively-numbered a.tables.now a.arrival.now a.isn a.strict
    (passively-is a.tables.now a.arrival.now a.isn a.strict (syn-ends a.tables.now a.arrival.now a.strict (Err o) c.in-Err.ensures)
    c.from-in-Err.ensures c.index-in-Err.ensures (not_opened a.tables.now p a.isn e o c.in-Err.ensures.1 c.empty.ensures)) in
    record { answer = both.0; number = both.1 }
