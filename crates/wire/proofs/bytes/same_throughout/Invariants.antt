-- The loop's invariant: the bytes passed are the same exactly if the difference is 0.
use Rattle.wire.proofs.Same.{Compared}
use Rattle.wire.proofs.bytes.same_throughout.Given as goal

abbrev pub invariant-loop-x : goal.invariant-loop-x
invariant-loop-x l = Compared l.a l.b l.x-iterator.a.rest.now l.x-iterator.b.rest.now l.difference
