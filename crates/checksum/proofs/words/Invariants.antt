-- The loop's invariant: what is added and what is left make the whole.
use Rattle.checksum.proofs.Steps.{Summing}
use Rattle.checksum.proofs.words.Given as goal

abbrev pub invariant-loop-pair : goal.invariant-loop-pair
invariant-loop-pair l = Summing l.piece l.total l.pair-iterator.rest.now l.last l.pair-iterator.size
