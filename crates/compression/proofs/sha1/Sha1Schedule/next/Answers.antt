use Rattle.std.proofs.Common.{arith}
use Rattle.compression.proofs.Ring.{next_in_ring}
use Rattle.compression.proofs.Sha1Compression.{S}
use Rattle.compression.proofs.sha1.Sha1Schedule.next.Goals as goal

pub returns : goal.returns
returns c = λ W h e. next_in_ring S _ _ W _ h (omega (arith, c.requires)) e c.rotate_left.ensures
