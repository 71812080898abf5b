use Rattle.std.proofs.Common.{◌≡◌, length, refl, rules}
use Rattle.mac.proofs.CmacSteps.{held_more}
use Rattle.mac.proofs.cmac.CmacContext.hold.Goals as goal

pub returns : goal.returns
returns c =
    let v = c.args.self in
    let l : length v.block ≡ 16 = search rules in
    (refl, held_more v.key v.chain v.block c.args.«data».now _ v.held c.args.n l c.requires.0 c.requires.1 c.copy_at.ensures)
