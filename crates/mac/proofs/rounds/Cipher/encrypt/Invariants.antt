use Rattle.std.proofs.Common.{◌≡◌, ◌-◌, ◌≤◌}
use Rattle.mac.specs.Aes.{rounds}
use Rattle.mac.specs.AesWords.{state, round_keys}
use Rattle.mac.proofs.rounds.Cipher.encrypt.Given as goal

-- the state is that after the rounds before r
abbrev pub invariant-loop-r : goal.invariant-loop-r
invariant-loop-r l = (1 ≤ l.r) × (state l.s ≡ rounds (round_keys l.self.keys) (state l.initial.s) (l.r - 1))
