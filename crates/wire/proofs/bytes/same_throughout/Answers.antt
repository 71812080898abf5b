-- `wire::bytes::same_throughout` meets its contract.
use Rattle.std.proofs.lemmas.Slice.Zip.{Zip-more, either_empty_from_Zip}
use Rattle.wire.proofs.Same.{lengths, start, turn, done}
use Rattle.wire.proofs.bytes.same_throughout.Goals as goal

pub returns-then-a-b : goal.returns-then-a-b
returns-then-a-b c = lengths _ _ c.if-a-b.true

pub loop-x-init : goal.loop-x-init
loop-x-init c = start _ _ _ _ (cc) (cc) c.if-a-b.false

pub loop-x-preserved : goal.loop-x-preserved
loop-x-preserved c =
    let z = Zip-more c.loop-x.x-iterator c.next.new.self _ _ c.in-Some.is c.next.ensures.steps in
    turn _ _ _ _ _ _ _ _ _ z.0 z.1 c.loop-x.invariant

pub returns : goal.returns
returns c = done _ _ _ _ _ (either_empty_from_Zip c.loop-x.x-iterator c.next.new.self _ c.in-None.is c.next.ensures.steps) c.loop-x.invariant
