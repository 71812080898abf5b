-- 19, then the tables and 35 under the entry for the pair: the laws of OpenAnswers.
use Rattle.std.proofs.Common.{Ok, sym, ◌∙◌}
use Rattle.tables.specs.Tables.{md5_entry}
use Rattle.tcpao.proofs.OpenAnswers.{small, mapped-ok, sizes-err, key-err, key-ok, with-none, actively-md5}
use Rattle.tcpao.proofs.Numbered.{opened-md5-numbered}
use Rattle.tcpao.proofs.open.open_active_md5.Goals as goal

pub returns-in_err-map_err : goal.returns-in_err-map_err
returns-in_err-map_err c =
    let a = c.args in
    let both =
    opened-md5-numbered a.tables.now a.local.now a.remote.now a.local_port a.remote_port a.isn
    (actively-md5 a.tables.now a.local.now a.remote.now a.local_port a.remote_port a.isn c.from_residual.result
    (sizes-err a.tables.now a.local.now a.remote.now a.local_port a.remote_port (md5_entry a.tables.now) (with-none a.isn) c.from_residual.result
    c.address_faults.ensures c.map_err.ensures.cases c.in_err-map_err.was c.from_residual.ensures)) in
    record { answer = both.0; number = both.1 }

pub pair_of-pair-requires : goal.pair_of-pair-requires
pair_of-pair-requires c =
    let a = c.args in
    small a.local.now a.remote.now
    (sym c.address_faults.ensures ∙ mapped-ok c.address_faults.result c.map_err.result tt c.map_err.ensures.cases c.in_ok-map_err.was)

pub returns-in_err-map_err-2 : goal.returns-in_err-map_err-2
returns-in_err-map_err-2 c =
    let a = c.args in
    let both =
    opened-md5-numbered a.tables.now a.local.now a.remote.now a.local_port a.remote_port a.isn
    (actively-md5 a.tables.now a.local.now a.remote.now a.local_port a.remote_port a.isn c.from_residual-in_err-map_err-2.result
    (key-err a.tables.now a.local.now a.remote.now a.local_port a.remote_port (md5_entry a.tables.now) (with-none a.isn)
    (sym c.address_faults.ensures ∙ mapped-ok c.address_faults.result c.map_err.result tt c.map_err.ensures.cases c.in_ok-map_err.was)
    c.pair_of-pair.ensures c.find_md5.ensures c.key_faults.ensures
    c.from_residual-in_err-map_err-2.result c.map_err-2.ensures.cases c.in_err-map_err-2.was c.from_residual-in_err-map_err-2.ensures)) in
    record { answer = both.0; number = both.1 }

pub returns : goal.returns
returns c =
    let a = c.args in
    let both =
    opened-md5-numbered a.tables.now a.local.now a.remote.now a.local_port a.remote_port a.isn
    (actively-md5 a.tables.now a.local.now a.remote.now a.local_port a.remote_port a.isn (Ok c.opening.result)
    (key-ok a.tables.now a.local.now a.remote.now a.local_port a.remote_port (md5_entry a.tables.now) (with-none a.isn)
    (sym c.address_faults.ensures ∙ mapped-ok c.address_faults.result c.map_err.result tt c.map_err.ensures.cases c.in_ok-map_err.was)
    c.pair_of-pair.ensures c.find_md5.ensures c.key_faults.ensures
    c.map_err-2.ensures.cases c.in_ok-map_err-2.was c.opening.ensures)) in
    record { answer = both.0; number = both.1 }
