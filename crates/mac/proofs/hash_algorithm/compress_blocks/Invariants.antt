use Rattle.std.proofs.Common.{◌≡◌, take}
use Rattle.mac.specs.Blocks.{chained}
use Rattle.mac.proofs.hash_algorithm.compress_blocks.Given as goal

-- the chaining value after the blocks so far
abbrev pub invariant-loop-block : goal.invariant-loop-block
invariant-loop-block g l = l.chain ≡ chained g.H.BlockHash.parts (take g.row.N l.fn.h) l.block-index l.fn.«data»
