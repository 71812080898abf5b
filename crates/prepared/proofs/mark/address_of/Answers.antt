-- By what padding gives, and a byte stored behind.
use Rattle.std.proofs.Common.{◌-◌, refl, arith, length-take}
use Rattle.prepared.proofs.MarkLaws.{width_some, address_is}
use Rattle.prepared.proofs.mark.address_of.Goals as goal

pub overflow_sub-last : goal.overflow_sub-last
overflow_sub-last c = omega (arith, (width_some c.args.family).0, c.width_of-last.ensures)

pub slice_bounds-padded-end : goal.slice_bounds-padded-end
slice_bounds-padded-end c = omega (arith, c.requires, length-take (c.width_of-last.result - 1) c.args.a.now, (width_some c.args.family).1, c.width_of-last.ensures)

pub slice_bounds-octet_sum-end : goal.slice_bounds-octet_sum-end
slice_bounds-octet_sum-end c = omega (arith, c.requires, length-take (c.width_of-last.result - 1) c.args.a.now, (width_some c.args.family).1, c.width_of-last.ensures)

pub bounds-out-last : goal.bounds-out-last
bounds-out-last c = omega (arith, width_some c.args.family, c.width_of-last.ensures)

pub returns : goal.returns
returns c =
    address_is c.args.family _ c.width_of-last.ensures c.args.a.now _ c.args.mark c.octet_sum.result _ (omega (arith, c.requires)) c.octet_sum.ensures refl c.padded-out.ensures
