-- A number leaves all as it was; else what has begun is ended and written. The laws of SignAnswers.
use borrow.Author.Rules.{rules}
use Rattle.std.proofs.Common.{◌≡◌, Ok, Err, length, refl, sym, ap, ◌∙◌}
use mathlib.Core.Path.{subst}
use Rattle.std.specs.Prelude.{Result}
use Rattle.tables.specs.declared.Refusal.{Refusal}
use Rattle.rules.specs.declared.Outcome.{Outcome}
use Rattle.rules.specs.declared.SignedSegment.{SignedSegment}
use Rattle.rules.specs.Results.{signed_as}
use Rattle.tcpao.specs.SignBegin.{SignBegins}
use Rattle.tcpao.specs.declared.sign_begun.SignBegun.{SignBegun}
use Rattle.tcpao.proofs.OpenAnswers.{mapped-err, mapped-ok, err-is}
use Rattle.tcpao.proofs.SignAnswers.{refuses, keeps, may_write, signs, writes}
use Rattle.tcpao.proofs.Numbered.{signed-numbered}
use Rattle.tcpao.proofs.sign.sign.Goals as goal

pub returns-in_err-begun : goal.returns-in_err-begun
returns-in_err-begun c =
    let a = c.args in
    let k = mapped-err c.begin.result c.map_err.result c.in_err-begun.field-0.0 c.map_err.ensures.cases c.in_err-begun.was in
    let begun = subst (λ (r : Result SignBegun Outcome). SignBegins a.tables.now a.segment.now (length a.out.now) a.state r) k.1 c.begin.ensures in
    let r = err-is c.from_residual.result c.in_err-begun.field-0.0 c.from_residual.ensures ∙ ap Err k.2 in
    let e = ap (signed_as a.state) r ∙ refuses a.tables.now a.segment.now a.out.now a.state begun in
    record { answer = e; storage = keeps a.tables.now a.segment.now a.out.now a.state begun; number = signed-numbered a.tables.now a.segment.now a.out.now a.state e }

pub finish-requires : goal.finish-requires
finish-requires c =
    let a = c.args in
    let b = c.in_ok-begun.begun in
    let k = mapped-ok c.begin.result c.map_err.result b c.map_err.ensures.cases c.in_ok-begun.was in
    let begun = subst (λ (r : Result SignBegun Outcome). SignBegins a.tables.now a.segment.now (length a.out.now) a.state r) k c.begin.ensures in
    may_write a.tables.now a.segment.now a.out.now a.state b begun

pub returns : goal.returns
returns c =
    let a = c.args in
    let b = c.in_ok-begun.begun in
    let k = mapped-ok c.begin.result c.map_err.result b c.map_err.ensures.cases c.in_ok-begun.was in
    let begun = subst (λ (r : Result SignBegun Outcome). SignBegins a.tables.now a.segment.now (length a.out.now) a.state r) k c.begin.ensures in
    let wl : length a.state.conn.pair.local ≡ 16 = search rules in
    let wr : length a.state.conn.pair.remote ≡ 16 = search rules in
    let e = signs a.tables.now a.segment.now a.out.now a.state b begun refl c.after_signing.ensures in
    record { answer = e; storage = writes a.tables.now a.segment.now a.out.now a.state b begun wl wr c.finish.ensures; number = signed-numbered a.tables.now a.segment.now a.out.now a.state e }
