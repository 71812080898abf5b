use Rattle.std.proofs.Common.{◌≡◌, ◌+◌, ℕ, List, length}
use Rattle.compression.specs.Schedule.{ring}
use Rattle.compression.proofs.rounds.eight_words.Given as goal

-- in the places before i stand the words that follow
abbrev pub invariant-loop-i : goal.invariant-loop-i
invariant-loop-i g l =
    (l.i-end ≡ l.from + 8) × (length l.w ≡ 16)
    × ((W : List ℕ) → length W ≡ 16 → l.initial.w ≡ ring g.H.Schedule.next_word l.from W → l.w ≡ ring g.H.Schedule.next_word l.i W)
