-- By the first half alone, or by both.
use Rattle.std.proofs.Common.{arith}
use Rattle.prepared.proofs.ScanSteps.{local-few, local-short, local-apart, local-long}
use Rattle.prepared.proofs.stored.near_local.Goals as goal

pub returns-then-n-le64 : goal.returns-then-n-le64
returns-then-n-le64 c = local-short _ _ _ _ _ _ c.family_of.ensures c.fixed_bits-n.ensures _ c.load64.ensures _ c.if-n-le64.true c.top_bits.ensures

pub returns-then-load64-upper : goal.returns-then-load64-upper
returns-then-load64-upper c =
    local-apart _ _ _ _ _ _ c.family_of.ensures c.fixed_bits-n.ensures _ c.load64-2.ensures c.if-n-le64.false c.if-load64-upper.true

pub top_bits-requires-2 : goal.top_bits-requires-2
top_bits-requires-2 c = let l = local-few c.args.family c.args.r.now c.args.upper c.args.lower _ _ c.family_of.ensures c.fixed_bits-n.ensures in omega arith

pub returns : goal.returns
returns c =
    local-long _ _ _ _ _ _ c.family_of.ensures c.fixed_bits-n.ensures _ c.load64-2.ensures c.if-n-le64.false c.if-load64-upper.false _ c.load64-3.ensures _
    c.top_bits-2.ensures
