use Rattle.std.proofs.Common.{refl, arith}
use Rattle.compression.proofs.RoundLaws.{in-none, in-more, in-four}
use Rattle.compression.proofs.rounds.four_rounds.Goals as goal

pub loop-t-init : goal.loop-t-init
loop-t-init g c = (refl, omega arith, in-none _ _ _ _ _)

pub loop-t-preserved : goal.loop-t-preserved
loop-t-preserved g c = (
  refl,
  omega (arith, c.loop-t.invariant.1),
  in-more _ _ _ _ _ _ _ _ c.loop-t.invariant.1 c.loop-t.invariant.2 c.round-s.ensures,
)

pub returns : goal.returns
returns g c = in-four _ _ _ _ _ _ _ (omega arith) c.loop-t.invariant.2
