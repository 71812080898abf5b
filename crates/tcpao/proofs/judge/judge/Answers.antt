-- The answer and the state, from what `check` gives.
use Rattle.std.proofs.Common.{ℕ, List, ap, ◌∙◌}
use Rattle.wire.specs.Header.{sequence}
use Rattle.rules.specs.Connection.{Arrival}
use Rattle.tcpao.proofs.Judging.{at-number, judged-is}
use Rattle.tcpao.proofs.Numbered.{judged-numbered}
use Rattle.tcpao.proofs.judge.judge.Goals as goal

pub after_judging-next-requires : goal.after_judging-next-requires
after_judging-next-requires c =
    let a = c.args in
    at-number a.tables.now a.state.conn a.state.seen a.arrival.now c.check-outcome.ensures
    (c.sequence.ensures ∙ ap (λ (a : Arrival). sequence a.segment) c.arrival.view_is)

pub returns : goal.returns
returns c =
    let a = c.args in
    let both =
    judged-numbered a.tables.now a.arrival.now a.state
    (judged-is a.tables.now a.arrival.now a.state c.check-outcome.ensures c.from.ensures c.index.ensures c.after_judging-next.ensures) in
    record { answer = both.0; number = both.1 }
