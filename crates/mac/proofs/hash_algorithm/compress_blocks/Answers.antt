use Rattle.std.proofs.Common.{◌≡◌, ℕ, ◌/◌, take, length, ap, ◌∙◌, arith}
use Rattle.mac.specs.Blocks.{chained}
use Rattle.mac.specs.BlocksLaws.{chained-none, chained_more}
use Rattle.mac.proofs.Chunks.{chunk-is}
use Rattle.mac.proofs.hash_algorithm.compress_blocks.Goals as goal

pub loop-block-init : goal.loop-block-init
loop-block-init g c = c.first-chain.ensures ∙ chained-none g.H.BlockHash.parts _ _

pub loop-block-preserved : goal.loop-block-preserved
loop-block-preserved g c =
    chained_more g.H.BlockHash.parts _ c.args.«data».now c.loop-block.block-index c.loop-block.invariant
    (c.compress-chain.ensures
    ∙ ap (g.H.BlockHash.parts.compress c.loop-block.chain)
    (chunk-is 64 (length c.args.«data».now / 64) c.loop-block.block-index c.args.«data».now c.as_chunks.ensures.front c.loop-block-test.true))

pub returns : goal.returns
returns g c =
    let q : c.loop-block.block-index ≡ length c.args.«data».now / 64 = omega (arith, c.as_chunks.ensures.front_len) in
    c.in_eight.ensures ∙ c.loop-block.invariant ∙ ap (λ (n : ℕ). chained g.H.BlockHash.parts (take g.row.N c.args.h) n c.args.«data».now) q
