-- `counts::count_drop`: a number that has a place counts there, and that place is one of them; any other number changes nothing.
use Rattle.std.proofs.Common.{◌∙◌, arith, rules}
use Rattle.states.proofs.Places.{stopped, counted-at, count-is, uncounted-is}
use Rattle.states.proofs.counts.count_drop.Goals as goal

pub offset_bounds-drops-i : goal.offset_bounds-drops-i
offset_bounds-drops-i c = omega (arith, counted-at c.args.n _ c.slot.ensures c.in-Some.is)

pub bounds-drops-i : goal.bounds-drops-i
bounds-drops-i c = counted-at c.args.n _ c.slot.ensures c.in-Some.is

pub offset_bounds-drops-i-in-Some : goal.offset_bounds-drops-i-in-Some
offset_bounds-drops-i-in-Some c = omega (arith, counted-at c.args.n _ c.slot.ensures c.in-Some.is)

pub bounds-drops-i-in-Some : goal.bounds-drops-i-in-Some
bounds-drops-i-in-Some c = counted-at c.args.n _ c.slot.ensures c.in-Some.is

pub returns-in-Some : goal.returns-in-Some
returns-in-Some c = count-is c.args.n _ _ _ c.slot.ensures c.in-Some.is (c.saturating_add.ensures ∙ stopped _ (search rules))

pub returns-in_default : goal.returns-in_default
returns-in_default c = uncounted-is c.args.n _ c.slot.ensures c.in_default.is
