use Rattle.std.proofs.Common.{◌≡◌, ◌+◌, ◌-◌, ◌≤◌}
use Rattle.compression.specs.Schedule.{rounds_in}
use Rattle.compression.proofs.rounds.four_rounds.Given as goal

-- the rounds from `at` up to t
abbrev pub invariant-loop-t : goal.invariant-loop-t
invariant-loop-t g l =
    (l.t-end ≡ l.at + 4) × (l.at ≤ l.t) × (l.s ≡ rounds_in g.H.Rounds.step g.H.Rounds.place l.at (l.t - l.at) l.w l.fn.from)
