use Rattle.std.proofs.Common.{◌≡◌, ℕ, ◌<◌, ◌≤◌, length, get_or}
use Rattle.compression.specs.Words.{add32}
use Rattle.compression.proofs.rounds.sum.Given as goal

abbrev pub invariant-loop-i : goal.invariant-loop-i
invariant-loop-i g l =
    (length l.out ≡ g.row.N)
    × ((k : ℕ) → k < l.i → get_or l.out k 0 ≡ add32 (get_or l.fn.h k 0) (get_or l.fn.s k 0))
    × ((k : ℕ) → l.i ≤ k → get_or l.out k 0 ≡ get_or l.fn.h k 0)
