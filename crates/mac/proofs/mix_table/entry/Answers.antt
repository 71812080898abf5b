use Rattle.std.proofs.Common.{◌%◌, ◌^◌, arith}
use Rattle.mac.specs.AesWords.{Mixing}
use Rattle.mac.proofs.mix_table.entry.Goals as goal

pub returns : goal.returns
unfolding Mixing
returns c = c.table.ensures (c.args.x % 2 ^ 8) (omega arith)
