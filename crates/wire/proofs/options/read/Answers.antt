-- `wire::options::read` meets its contract, by what one turn of the loop leaves.
use Rattle.std.proofs.Common.{◌∙◌, arith}
use Rattle.wire.specs.declared.options.Step.TheVariants as S
use Rattle.wire.proofs.Reading.{start, next, wrong, done}
use Rattle.wire.proofs.options.read.Goals as goal

pub loop-at-init : goal.loop-at-init
loop-at-init c = let d = c.default-seen in start _ d.result.md5 d.result.ao d.ensures.0 d.ensures.1

pub returns-in_err-step_at : goal.returns-in_err-step_at
returns-in_err-step_at c = c.from_residual.ensures ∙ wrong _ _ _ _ c.loop-at-test.true c.loop-at.invariant c.step_at.ensures c.in_err-step_at.was

pub returns-in-End : goal.returns-in-End
returns-in-End c = next _ _ _ _ S.End c.loop-at-test.true c.loop-at.invariant c.step_at.ensures c.in_ok-step_at.was c.in-End.is

pub loop-at-preserved-in-Nop : goal.loop-at-preserved-in-Nop
loop-at-preserved-in-Nop c = next _ _ _ _ S.Nop c.loop-at-test.true c.loop-at.invariant c.step_at.ensures c.in_ok-step_at.was c.in-Nop.is

pub overflow_add-at-in-Md5 : goal.overflow_add-at-in-Md5
overflow_add-at-in-Md5 c =
    let z = next _ _ _ _ (S.Md5 c.in-Md5.n) c.loop-at-test.true c.loop-at.invariant c.step_at.ensures c.in_ok-step_at.was c.in-Md5.is in
    omega arith

pub loop-at-smaller-in-Md5 : goal.loop-at-smaller-in-Md5
loop-at-smaller-in-Md5 c =
    let z = next _ _ _ _ (S.Md5 c.in-Md5.n) c.loop-at-test.true c.loop-at.invariant c.step_at.ensures c.in_ok-step_at.was c.in-Md5.is in
    omega arith

pub loop-at-preserved-in-Md5 : goal.loop-at-preserved-in-Md5
loop-at-preserved-in-Md5 c =
    let z = next _ _ _ _ (S.Md5 c.in-Md5.n) c.loop-at-test.true c.loop-at.invariant c.step_at.ensures c.in_ok-step_at.was c.in-Md5.is in
    z.2 _ c.note.ensures

pub overflow_add-at-in-Ao : goal.overflow_add-at-in-Ao
overflow_add-at-in-Ao c =
    let z = next _ _ _ _ (S.Ao c.in-Ao.n) c.loop-at-test.true c.loop-at.invariant c.step_at.ensures c.in_ok-step_at.was c.in-Ao.is in
    omega arith

pub loop-at-smaller-in-Ao : goal.loop-at-smaller-in-Ao
loop-at-smaller-in-Ao c =
    let z = next _ _ _ _ (S.Ao c.in-Ao.n) c.loop-at-test.true c.loop-at.invariant c.step_at.ensures c.in_ok-step_at.was c.in-Ao.is in
    omega arith

pub loop-at-preserved-in-Ao : goal.loop-at-preserved-in-Ao
loop-at-preserved-in-Ao c =
    let z = next _ _ _ _ (S.Ao c.in-Ao.n) c.loop-at-test.true c.loop-at.invariant c.step_at.ensures c.in_ok-step_at.was c.in-Ao.is in
    z.2 _ c.note-in-Ao.ensures

pub overflow_add-at-in-Other : goal.overflow_add-at-in-Other
overflow_add-at-in-Other c =
    let z = next _ _ _ _ (S.Other c.in-Other.n) c.loop-at-test.true c.loop-at.invariant c.step_at.ensures c.in_ok-step_at.was c.in-Other.is in
    omega arith

pub loop-at-smaller : goal.loop-at-smaller
loop-at-smaller c =
    let z = next _ _ _ _ (S.Other c.in-Other.n) c.loop-at-test.true c.loop-at.invariant c.step_at.ensures c.in_ok-step_at.was c.in-Other.is in
    omega arith

pub loop-at-preserved : goal.loop-at-preserved
loop-at-preserved c =
    let z = next _ _ _ _ (S.Other c.in-Other.n) c.loop-at-test.true c.loop-at.invariant c.step_at.ensures c.in_ok-step_at.was c.in-Other.is in
    z.1

pub returns : goal.returns
returns c = done _ _ _ _ c.loop-at.invariant c.loop-at-test.false
