-- From the last digit to the first.
use Rattle.std.proofs.Common.{replicate, refl, arith}
use Rattle.recording.proofs.Spelling.{none_written, more-written, one_left, none_left}
use Rattle.recording.proofs.line.decimal.Goals as goal
use Rattle.recording.proofs.line.decimal.Goals.{then-loop-i-test+else-rest-ge10, else-loop-i-test}

pub loop-i-init : goal.loop-i-init
loop-i-init c = none_written c.args.n (replicate 20 0) refl

pub bounds-bytes-i : goal.bounds-bytes-i
bounds-bytes-i c = let w = c.loop-i.invariant in omega (arith, w.0, w.1)

pub loop-i-preserved : goal.loop-i-preserved
loop-i-preserved c =
    let l = c.loop-i in
    more-written c.args.n l.bytes l.i l.rest l.invariant c.loop-i-test.true c.if-rest-ge10.true

pub overflow_sub-bytes : goal.overflow_sub-bytes
overflow_sub-bytes c = c.loop-i.invariant.0

pub bounds-bytes-i-2 : goal.bounds-bytes-i-2
bounds-bytes-i-2 c = let w = c.loop-i.invariant in omega (arith, w.0, w.1)

pub overflow_sub-result : goal.overflow_sub-result
overflow_sub-result c = c.loop-i.invariant.0

pub returns : goal.returns
returns c =
    let l = c.loop-i in
    elim c.loop-i-test.branch [
      | then-loop-i-test+else-rest-ge10 w ↦ none_left c.args.n l.bytes l.i l.rest l.invariant (omega (arith, w.if-rest-ge10.false))
      | else-loop-i-test w ↦ one_left c.args.n l.bytes l.i l.rest l.invariant (omega (arith, w.loop-i-test.false))
    ]
