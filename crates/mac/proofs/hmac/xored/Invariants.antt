use Rattle.std.proofs.Common.{◌≡◌, ℕ, map, length, take}
use lib.Bits.{bit_xor}
use Rattle.mac.proofs.hmac.xored.Given as goal

-- the first i bytes are those of the key's block, each xor x
abbrev pub invariant-loop-i : goal.invariant-loop-i
invariant-loop-i l = (length l.k ≡ 64) × (length l.out ≡ 64) × (take l.i l.out ≡ map (λ (b : ℕ). bit_xor b l.x) (take l.i l.k))
