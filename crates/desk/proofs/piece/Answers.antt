-- Each call takes at least one byte.
use Rattle.std.proofs.Common.{ℕ, ◌<◌, [], length, arith, length-drop, length-take, rules}
use Rattle.recording.proofs.ViewLaws.{goes_on}
use Rattle.desk.proofs.piece.Goals as goal

pub loop-rest-smaller : goal.loop-rest-smaller
loop-rest-smaller g c =
    let l = c.loop-rest in
    let some : 0 < length l.rest.now = search rules in
    let more = goes_on [] l.table l.now l.rest.now _ some c.advance-step.ensures.took in
    omega (arith, more.0, more.1, length-take {A = ℕ}, length-drop {A = ℕ})
