use Rattle.std.proofs.Common.{◌≡◌}
use Rattle.mac.specs.AesWords.{round_keys}
use Rattle.mac.specs.Cmac.{chained}
use Rattle.mac.proofs.cmac.chain_blocks.Given as goal

-- X after the blocks so far
abbrev pub invariant-loop-block : goal.invariant-loop-block
invariant-loop-block l = l.x ≡ chained (round_keys l.cipher.keys) l.fn.chain l.block-index l.data
