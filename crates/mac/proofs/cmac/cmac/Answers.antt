use Rattle.mac.proofs.CmacSteps.{whole}
use Rattle.mac.proofs.cmac.cmac.Goals as goal

-- all blocks but the last, then the last
pub returns : goal.returns
returns c =
    whole c.args.key c.args.«data».now c.blocks_before-at.result c.blocks_before-at.ensures c.new-cipher.ensures
    c.chain_blocks-chain.ensures c.tag.ensures
