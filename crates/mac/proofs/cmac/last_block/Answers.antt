use Rattle.mac.proofs.CmacSteps.{complete, incomplete}
use Rattle.mac.proofs.cmac.last_block.Goals as goal

pub returns-then-n-eq16 : goal.returns-then-n-eq16
returns-then-n-eq16 c = complete c.args.last.now c.args.k1 c.args.k2 c.padded-m.ensures c.if-n-eq16.true c.xor.ensures

pub returns : goal.returns
returns c = incomplete c.args.last.now c.args.k1 c.args.k2 c.requires c.padded-m.ensures c.if-n-eq16.false c.xor-2.ensures
