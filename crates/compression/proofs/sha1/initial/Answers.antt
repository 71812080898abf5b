use Rattle.std.proofs.Common.{rules}
use Rattle.compression.specs.Sha1Block.{initial}
use Rattle.compression.proofs.sha1.initial.Goals as goal

pub returns : goal.returns
unfolding initial
returns c = search rules
