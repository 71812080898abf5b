-- The bits of an address, from the first byte's highest on, one by one.
-- Document 01, "Key table": "the first prefix-length bits agree. Prefix 0 matches every address", and number 15, "address bits set past
-- it".
use Rattle.std.specs.Prelude.{ℕ, suc, zero, ◌*◌, ◌-◌, ◌/◌, ◌%◌, ◌^◌, Bool, true, ◌&&◌, ◌||◌, List, length, get_or, eqb, ltb}

-- bit i of s, 0 or 1; a byte that is not there counts as 0
abbrev pub bit : List ℕ → ℕ → ℕ
bit s i = get_or s (i / 8) 0 / 2 ^ (7 - i % 8) % 2

-- the first p bits of a and b agree
unfoldable pub agree : ℕ → List ℕ → List ℕ → Bool
agree zero a b = true
agree (suc p) a b = agree p a b && eqb (bit a p) (bit b p)

-- of the first n bits of s, those from bit p on are zero
unfoldable pub clear_to : ℕ → ℕ → List ℕ → Bool
clear_to p zero s = true
clear_to p (suc n) s = clear_to p n s && (ltb n p || eqb (bit s n) 0)

-- no bit of s is set from bit p on
abbrev pub clear_past_of : ℕ → List ℕ → Bool
clear_past_of p s = clear_to p (8 * length s) s
