-- The tests, then the answer by what they come to: the laws of OpenAnswers.
use Rattle.std.proofs.Common.{Ok}
use Rattle.tcpao.proofs.OpenAnswers.{ask-err, ask-ok}
use Rattle.tcpao.proofs.Numbered.{asked-numbered}
use Rattle.tcpao.proofs.operator.ask.Goals as goal

pub returns-in_err-map_err : goal.returns-in_err-map_err
returns-in_err-map_err c =
    let a = c.args in
    let both =
    asked-numbered a.tables.now a.recv_id a.state
    (ask-err a.tables.now a.recv_id a.state c.from_residual.result c.ask_faults.ensures c.map_err.ensures.cases c.in_err-map_err.was c.from_residual.ensures) in
    record { answer = both.0; number = both.1 }

pub returns : goal.returns
returns c =
    let a = c.args in
    let both =
    asked-numbered a.tables.now a.recv_id a.state
    (ask-ok a.tables.now a.recv_id a.state c.ask_faults.ensures c.map_err.ensures.cases c.in_ok-map_err.was c.with_asked.ensures) in
    record { answer = both.0; number = both.1 }
