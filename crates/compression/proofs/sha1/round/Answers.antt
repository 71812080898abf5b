use Rattle.std.proofs.Common.{rules}
use Rattle.compression.specs.Sha1Block.{round}
use Rattle.compression.proofs.sha1.round.Goals as goal

pub returns : goal.returns
unfolding round
returns c = search rules
