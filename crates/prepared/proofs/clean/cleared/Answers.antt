use Rattle.std.proofs.Common.{arith}
use lib.ListN.{length-set}
use Rattle.prepared.proofs.Laws.{clear_next, clear_whole}
use Rattle.prepared.proofs.clean.cleared.Goals as goal

pub loop-i-preserved : goal.loop-i-preserved
loop-i-preserved c =
    let l = c.loop-i in
    let v = l.invariant in (
      simp length-set v.0,
      omega (arith, v.1, c.min-n.ensures),
      clear_next _ _ _ l.i c.requires v.0 l.left _ _ (omega arith) v.1 c.min-n.ensures c.keep.ensures v.2,
    )

pub returns : goal.returns
returns c = let l = c.loop-i in clear_whole _ _ _ l.i c.requires l.invariant.0 (omega arith) l.invariant.2
