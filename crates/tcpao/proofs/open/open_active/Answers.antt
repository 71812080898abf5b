-- 19, then the tables and 35 under the entry for the pair: the laws of OpenAnswers.
use Rattle.std.proofs.Common.{Ok, sym, ◌∙◌}
use Rattle.tcpao.proofs.OpenAnswers.{small, mapped-ok, sizes-err, key-err, key-ok, by-id, with-ids, actively}
use Rattle.tcpao.proofs.Numbered.{opened-numbered}
use Rattle.tcpao.proofs.open.open_active.Goals as goal

pub returns-in_err-map_err : goal.returns-in_err-map_err
returns-in_err-map_err c =
    let a = c.args in
    let both =
    opened-numbered a.tables.now a.local.now a.remote.now a.local_port a.remote_port a.isn a.send_id
    (actively a.tables.now a.local.now a.remote.now a.local_port a.remote_port a.isn a.send_id c.from_residual.result
    (sizes-err a.tables.now a.local.now a.remote.now a.local_port a.remote_port (by-id a.tables.now a.send_id) (with-ids a.isn a.send_id) c.from_residual.result
    c.address_faults.ensures c.map_err.ensures.cases c.in_err-map_err.was c.from_residual.ensures)) in
    record { answer = both.0; number = both.1 }

pub pair_of-pair-requires : goal.pair_of-pair-requires
pair_of-pair-requires c =
    let a = c.args in
    small a.local.now a.remote.now
    (sym c.address_faults.ensures ∙ mapped-ok c.address_faults.result c.map_err.result tt c.map_err.ensures.cases c.in_ok-map_err.was)

pub returns-in_err-entry : goal.returns-in_err-entry
returns-in_err-entry c =
    let a = c.args in
    let both =
    opened-numbered a.tables.now a.local.now a.remote.now a.local_port a.remote_port a.isn a.send_id
    (actively a.tables.now a.local.now a.remote.now a.local_port a.remote_port a.isn a.send_id c.from_residual-in_err-entry.result
    (key-err a.tables.now a.local.now a.remote.now a.local_port a.remote_port (by-id a.tables.now a.send_id) (with-ids a.isn a.send_id)
    (sym c.address_faults.ensures ∙ mapped-ok c.address_faults.result c.map_err.result tt c.map_err.ensures.cases c.in_ok-map_err.was)
    c.pair_of-pair.ensures c.find_send.ensures c.key_faults.ensures
    c.from_residual-in_err-entry.result c.map_err-2.ensures.cases c.in_err-entry.was c.from_residual-in_err-entry.ensures)) in
    record { answer = both.0; number = both.1 }

pub returns : goal.returns
returns c =
    let a = c.args in
    let both =
    opened-numbered a.tables.now a.local.now a.remote.now a.local_port a.remote_port a.isn a.send_id
    (actively a.tables.now a.local.now a.remote.now a.local_port a.remote_port a.isn a.send_id (Ok c.opening.result)
    (key-ok a.tables.now a.local.now a.remote.now a.local_port a.remote_port (by-id a.tables.now a.send_id) (with-ids a.isn a.send_id)
    (sym c.address_faults.ensures ∙ mapped-ok c.address_faults.result c.map_err.result tt c.map_err.ensures.cases c.in_ok-map_err.was)
    c.pair_of-pair.ensures c.find_send.ensures c.key_faults.ensures
    c.map_err-2.ensures.cases c.in_ok-entry.was c.opening.ensures)) in
    record { answer = both.0; number = both.1 }
