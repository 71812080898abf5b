use Rattle.std.proofs.Common.{rules}
use Rattle.mac.specs.Aes.{Sboxed}
use Rattle.mac.proofs.aes.sub.Goals as goal

pub returns : goal.returns
unfolding Sboxed
returns c = c.table.ensures c.args.x (search rules)
