-- `Walking` says what the loop has passed; the laws of Walk.antt are its turns.
use Rattle.std.proofs.Common.{rules, tests, refl, sym, subst, arith, ◌+◌, ◌<◌, length}
use Rattle.keys.specs.declared.table.Marks.{Marks}
use Rattle.keys.proofs.Walk.{Walking, walk_start, walk-done, walk-full, walk_refused, walk-next, behind-less}
use Rattle.keys.proofs.table.load.Goals as goal

pub loop-rest-init : goal.loop-rest-init
loop-rest-init c = walk_start _ _ _ _ refl refl

pub returns-then-index-limit : goal.returns-then-index-limit
returns-then-index-limit c = walk-full c.loop-rest.invariant (search (rules, tests)) c.if-index-limit.true

pub check_first-requires-clause-marked : goal.check_first-requires-clause-marked
check_first-requires-clause-marked c = c.loop-rest.invariant.marked

pub returns-in-Err : goal.returns-in-Err
returns-in-Err c = walk_refused c.loop-rest.invariant (search (rules, tests)) _ c.if-index-limit.false c.in-Err.ensures

pub overflow_add-index : goal.overflow_add-index
overflow_add-index c = let w = c.loop-rest.invariant.within in let h : 0 < length c.loop-rest.rest.now = search (rules, tests) in omega arith

pub loop-rest-smaller : goal.loop-rest-smaller
loop-rest-smaller c = behind-less _ _ (search (rules, tests)) c.in-Ok.ensures.2

pub loop-rest-preserved : goal.loop-rest-preserved
loop-rest-preserved c =
    subst (λ (m : Marks). Walking c.args.table.now c.args.kind c.args.limit m c.in-Ok.behind.now (c.loop-rest.index + 1)) (sym c.mark.ensures)
    (walk-next c.loop-rest.invariant (search (rules, tests)) c.if-index-limit.false c.in-Ok.ensures.0 c.in-Ok.ids c.in-Ok.behind.now c.in-Ok.ensures.1 c.in-Ok.ensures.2 (search rules) (search rules))

pub returns : goal.returns
returns c = walk-done c.loop-rest.invariant (search (rules, tests))
