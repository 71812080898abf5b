-- `position::locate`: each way out is a law of `Places`, at the wrapping difference.
use Rattle.std.proofs.Common.{refl, arith}
use Rattle.states.proofs.Places.{ahead-is, behind-is, half-nowhere, numbered}
use Rattle.states.proofs.position.locate.Goals as goal

pub returns-then-difference : goal.returns-then-difference
returns-then-difference c =
    let a = c.args in
    let e = ahead-is a.reference a.s _ (omega arith) _ (omega arith) c.checked_add.ensures in
    let n = numbered a.reference a.s e in
    record { place = n.0; number = n.1 }

-- exactly half ahead there is none; an edit of must-fail/ gives an answer
-- in the place of these lines, of the way out that it adds
pub returns-then-difference-2 : goal.returns-then-difference-2
returns-then-difference-2 c =
    let a = c.args in
    let n = numbered a.reference a.s (half-nowhere a.reference a.s _ refl (omega arith)) in
    record { place = n.0; number = n.1 }

pub returns : goal.returns
returns c =
    let a = c.args in
    let e = behind-is a.reference a.s _ (omega arith) _ (omega arith) (omega arith) c.checked_sub.ensures in
    let n = numbered a.reference a.s e in
    record { place = n.0; number = n.1 }
