use Rattle.std.proofs.Common.{◌≡◌, length, rules}
use Rattle.mac.proofs.CmacSteps.{held-last}
use Rattle.mac.proofs.cmac.CmacContext.advance.Goals as goal

-- the block that is held goes into X, then all blocks of the bytes but the last, which is held
pub returns : goal.returns
returns c =
    let v = c.args.self in
    let long : length v.block ≡ 16 = search rules in
    held-last v.key v.chain v.block c.args.«data».now v.held c.blocks_before-at.result long c.requires.0 c.requires.1
    c.blocks_before-at.ensures c.new-cipher.ensures c.xor.ensures c.encrypt-x.ensures c.chain_blocks-self.ensures c.hold.ensures.1
