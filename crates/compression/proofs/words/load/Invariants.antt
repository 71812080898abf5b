use Rattle.compression.proofs.BlockWords.{Loaded}
use Rattle.compression.proofs.words.load.Given as goal

-- the words before place t are the block's
abbrev pub invariant-loop-t : goal.invariant-loop-t
invariant-loop-t g l = Loaded g.O.ByteOrder.word l.m l.words l.t
