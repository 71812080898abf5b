use Rattle.std.proofs.Common.{rules}
use Rattle.compression.specs.Sha256Block.{round}
use Rattle.compression.proofs.sha256.round.Goals as goal

pub returns : goal.returns
unfolding round
returns c = search rules
