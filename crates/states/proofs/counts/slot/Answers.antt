-- `counts::slot`: 20 to 29 have a place, by their order, and 40, 46 and 47 behind them; no other number has.
use Rattle.std.proofs.Common.{sym, ap, ◌∙◌, inl, inr, arith}
use Rattle.rules.specs.Connection.{slot}
use Rattle.rules.proofs.CountLaws.{slot_is, slot-40, slot-46, slot-47, slot-none}
use Rattle.states.proofs.counts.slot.Goals as goal

pub returns-in-40 : goal.returns-in-40
returns-in-40 c = sym (ap slot c.in-40.is ∙ slot-40)

pub returns-in-46 : goal.returns-in-46
returns-in-46 c = sym (ap slot c.in-46.is ∙ slot-46)

pub returns-in-47 : goal.returns-in-47
returns-in-47 c = sym (ap slot c.in-47.is ∙ slot-47)

pub returns-in-20-to-29 : goal.returns-in-20-to-29
returns-in-20-to-29 c = sym (slot_is c.args.n (omega arith) (omega arith))

pub returns-in_default : goal.returns-in_default
returns-in_default c = sym (slot-none c.args.n (inl (omega arith)) (omega arith) (omega arith) (omega arith))

pub returns-in_default-2 : goal.returns-in_default-2
returns-in_default-2 c = sym (slot-none c.args.n (inr (omega arith)) (omega arith) (omega arith) (omega arith))
