use Rattle.compression.specs.Sha256Block.{constants}
use Rattle.compression.proofs.sha256.Sha256Rounds8.round.Goals as goal

pub returns : goal.returns
unfolding constants
returns c = c.round.ensures
