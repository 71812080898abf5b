-- The input, then the rest of the tests; behind them what waits for the data, by the way: the laws of SignAnswers.
use Rattle.std.proofs.Common.{Err, sym, ◌∙◌}
use mathlib.Core.Path.{subst}
use Rattle.std.specs.Prelude.{Result}
use Rattle.rules.specs.declared.Outcome.{Outcome}
use Rattle.tcpao.specs.SignBegin.{SignBegins}
use Rattle.tcpao.specs.declared.sign_begun.SignBegun.{SignBegun}
use Rattle.tcpao.proofs.OpenAnswers.{err-is}
use Rattle.tcpao.proofs.SignAnswers.{gives-input, gives-lines, valid, may-start, may-start-md5, begins-ao, begins-md5}
use Rattle.tcpao.proofs.sign.begin.Goals as goal

pub returns-in_err-sized : goal.returns-in_err-sized
returns-in_err-sized c =
    let a = c.args in
    subst (λ (r : Result SignBegun Outcome). SignBegins a.tables.now a.segment.now a.room a.state r)
    (sym (err-is c.from_residual.result c.in_err-sized.field-0.0 c.from_residual.ensures))
    (gives-input a.tables.now a.segment.now a.room a.state c.in_err-sized.ensures)

pub returns-in_err-granted : goal.returns-in_err-granted
returns-in_err-granted c =
    let a = c.args in
    subst (λ (r : Result SignBegun Outcome). SignBegins a.tables.now a.segment.now a.room a.state r)
    (sym (err-is c.from_residual-in_err-granted.result c.in_err-granted.field-0.0 c.from_residual-in_err-granted.ensures))
    (gives-lines a.tables.now a.segment.now a.room a.state c.in_ok-sized.ensures c.header.ensures c.outgoing.ensures.entry c.in_err-granted.ensures)

pub ready_md5-requires : goal.ready_md5-requires
ready_md5-requires c =
    let a = c.args in
    may-start-md5 a.tables.now a.segment.now a.room a.state c.in_ok-sized.ensures c.header.ensures c.outgoing.ensures.entry
    c.in_ok-granted.ensures (c.outgoing.ensures.short (valid a.tables.now a.segment.now a.room a.state c.in_ok-sized.ensures c.header.ensures c.outgoing.ensures.entry))
    (sym c.is_md5.ensures ∙ c.if-is_md5.true)

pub returns-then-is_md5 : goal.returns-then-is_md5
returns-then-is_md5 c =
    let a = c.args in
    begins-md5 a.tables.now a.segment.now a.room a.state c.in_ok-sized.ensures c.header.ensures c.outgoing.ensures.entry
    c.in_ok-granted.ensures (c.outgoing.ensures.short (valid a.tables.now a.segment.now a.room a.state c.in_ok-sized.ensures c.header.ensures c.outgoing.ensures.entry))
    (sym c.is_md5.ensures ∙ c.if-is_md5.true) c.ready_md5.ensures

pub ready-requires : goal.ready-requires
ready-requires c =
    let a = c.args in
    may-start a.tables.now a.segment.now a.room a.state c.in_ok-sized.ensures c.header.ensures c.outgoing.ensures.entry
    c.in_ok-granted.ensures (c.outgoing.ensures.short (valid a.tables.now a.segment.now a.room a.state c.in_ok-sized.ensures c.header.ensures c.outgoing.ensures.entry))
    (sym c.is_md5.ensures ∙ c.if-is_md5.false)

pub returns : goal.returns
returns c =
    let a = c.args in
    begins-ao a.tables.now a.segment.now a.room a.state c.in_ok-sized.ensures c.header.ensures c.outgoing.ensures.entry
    c.in_ok-granted.ensures (c.outgoing.ensures.short (valid a.tables.now a.segment.now a.room a.state c.in_ok-sized.ensures c.header.ensures c.outgoing.ensures.entry))
    (sym c.is_md5.ensures ∙ c.if-is_md5.false) c.ready.ensures
