use Rattle.std.proofs.Common.{◌≡◌, ℕ, ◌/◌, length, ap, ◌∙◌, arith, length-take}
use Rattle.mac.specs.AesWords.{round_keys}
use Rattle.mac.specs.Cmac.{before, chained}
use Rattle.mac.proofs.Chunks.{chunk-in}
use Rattle.mac.proofs.CmacSteps.{chained_more}
use Rattle.mac.proofs.cmac.chain_blocks.Goals as goal

pub loop-block-preserved : goal.loop-block-preserved
loop-block-preserved c =
    chained_more (round_keys c.args.cipher.now.keys) c.args.chain c.args.«data».now c.loop-block.block-index c.loop-block.invariant
    (chunk-in 16 c.blocks_before-n.result (length c.args.«data».now / 16) c.loop-block.block-index c.args.«data».now c.as_chunks.ensures.front c.loop-block-test.true)
    c.xor.ensures c.encrypt-next.ensures

pub returns : goal.returns
returns c =
    let n = c.blocks_before-n.ensures in
    let l : length c.as_chunks.result.0.now ≡ length c.args.«data».now / 16 = c.as_chunks.ensures.front_len in
    let t = length-take c.blocks_before-n.result c.as_chunks.result.0.now in
    let q : c.loop-block.block-index ≡ before (length c.args.«data».now) = omega (arith, n, l, t) in
    c.loop-block.invariant ∙ ap (λ (k : ℕ). chained (round_keys c.args.cipher.now.keys) c.args.chain k c.args.«data».now) q
