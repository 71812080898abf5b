-- The answer, from what `check_syn` gives.
use Rattle.tcpao.proofs.Judging.{syn-is}
use Rattle.tcpao.proofs.Numbered.{syn-numbered}
use Rattle.tcpao.proofs.judge.judge_syn.Goals as goal

pub returns : goal.returns
returns c =
    let a = c.args in
    let both =
    syn-numbered a.tables.now a.arrival.now a.strict
    (syn-is a.tables.now a.arrival.now a.strict c.check_syn-outcome.ensures c.from.ensures c.index.ensures) in
    record { answer = both.0; number = both.1 }
