-- The bits that both prefixes fix.
use Rattle.keys.proofs.Tests.{addresses-by}
use Rattle.keys.proofs.matching.addresses_meet.Goals as goal

pub returns : goal.returns
returns c =
    let a = c.args in
    addresses-by a.e.now _ a.at a.b _ _ _ _ _ c.width_of.ensures c.fixed_bits.ensures c.fixed_bits-2.ensures c.min-n.ensures c.agrees.ensures
