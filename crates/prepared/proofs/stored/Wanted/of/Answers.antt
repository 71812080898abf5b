-- A limit is a byte.
use Rattle.std.proofs.Common.{arith}
use Rattle.keys.proofs.EntryLaws.{width-le}
use Rattle.prepared.proofs.stored.Wanted.of.Goals as goal

pub overflow_mul-result : goal.overflow_mul-result
overflow_mul-result c = omega (arith, c.width_of.ensures, width-le c.args.pair.family)

pub overflow_cast-result : goal.overflow_cast-result
overflow_cast-result c = omega (arith, c.width_of.ensures, width-le c.args.pair.family)
