-- An address of any family is no longer than the field.
use Rattle.std.proofs.Common.{◌≡◌, length, sym, arith, length-take-le, rules}
use Rattle.keys.proofs.EntryLaws.{width-le}
use Rattle.states.proofs.writers.is_address.Goals as goal

pub slice_bounds-field-end : goal.slice_bounds-field-end
slice_bounds-field-end c = omega (arith, width-le c.args.family)

pub slice_bounds-same-end : goal.slice_bounds-same-end
slice_bounds-same-end c =
    let l : length c.args.field ≡ 16 = search rules in
    sym (length-take-le c.width_of-w.result c.args.field (omega (arith, width-le c.args.family)))
