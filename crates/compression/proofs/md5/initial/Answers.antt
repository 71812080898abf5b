use Rattle.std.proofs.Common.{rules}
use Rattle.compression.specs.Md5Block.{initial}
use Rattle.compression.proofs.md5.initial.Goals as goal

pub returns : goal.returns
unfolding initial
returns c = search rules
