use Rattle.std.proofs.Common.{rules, ◌≡◌, arith, length, length-take}
use Rattle.keys.proofs.EntryLaws.{width-le}
use Rattle.prepared.proofs.mark.mark_of.Goals as goal

pub slice_bounds-a-end : goal.slice_bounds-a-end
slice_bounds-a-end c = let l : length c.args.a ≡ 16 = search rules in omega (arith, c.width_of.ensures, width-le c.args.family)

pub slice_bounds-octet_sum-end : goal.slice_bounds-octet_sum-end
slice_bounds-octet_sum-end c =
    let l : length c.args.a ≡ 16 = search rules in omega (arith, length-take c.width_of.result c.args.a, c.width_of.ensures, width-le c.args.family)
