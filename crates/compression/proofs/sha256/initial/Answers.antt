use Rattle.std.proofs.Common.{rules}
use Rattle.compression.specs.Sha256Block.{initial}
use Rattle.compression.proofs.sha256.initial.Goals as goal

pub returns : goal.returns
unfolding initial
returns c = search rules
