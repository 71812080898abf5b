-- By what padding gives.
use Rattle.std.proofs.Common.{rules, ◌≡◌, ◌-◌, arith, length, length-take}
use Rattle.prepared.proofs.MarkLaws.{width_some, stored_is}
use Rattle.prepared.proofs.mark.stored_address.Goals as goal

pub slice_bounds-a-count : goal.slice_bounds-a-count
slice_bounds-a-count c = omega (arith, (width_some c.args.family).0, c.width_of.ensures)

pub slice_bounds-a-end : goal.slice_bounds-a-end
slice_bounds-a-end c = let l : length c.args.a ≡ 16 = search rules in omega (arith, l, (width_some c.args.family).1, c.width_of.ensures)

pub slice_bounds-padded-length : goal.slice_bounds-padded-length
slice_bounds-padded-length c =
    let l : length c.args.a ≡ 16 = search rules in omega (arith, l, length-take (c.width_of.result - 1) c.args.a, (width_some c.args.family).1, c.width_of.ensures)

pub padded-requires : goal.padded-requires
padded-requires c = omega (arith, length-take (c.width_of.result - 1) c.args.a, (width_some c.args.family).1, c.width_of.ensures)

pub returns : goal.returns
returns c = let l : length c.args.a ≡ 16 = search rules in stored_is c.args.family _ c.width_of.ensures c.args.a _ (omega (arith, l)) c.padded.ensures
