use Rattle.std.proofs.Common.{arith}
use Rattle.keys.proofs.EntryLaws.{width-le}
use Rattle.keys.proofs.faults.side_faults.Goals as goal

pub overflow_mul-width_of : goal.overflow_mul-width_of
overflow_mul-width_of c = omega (arith, c.width_of.ensures, width-le c.args.family)
