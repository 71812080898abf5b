use Rattle.std.proofs.Common.{refl, replicate, arith}
use Rattle.compression.proofs.BlockWords.{loaded-none, loaded-more, loaded-all}
use Rattle.compression.proofs.words.load.Goals as goal

pub loop-t-init : goal.loop-t-init
loop-t-init g c = loaded-none _ _ (replicate 16 0) refl

pub loop-t-preserved : goal.loop-t-preserved
loop-t-preserved g c = loaded-more _ _ c.loop-t.words c.loop-t.t _ (omega arith) c.loop-t.invariant c.load.ensures

pub returns : goal.returns
returns g c = loaded-all _ _ c.loop-t.words c.loop-t.t (omega arith) c.loop-t.invariant
