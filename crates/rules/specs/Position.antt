-- Document 01, "Positions": the position of a 32-bit sequence number by a reference.
-- Assumes nothing.
use Rattle.std.specs.Prelude.{ℕ, ◌+◌, ◌-◌, ◌%◌, ◌^◌, ◌<◌, ◌≡◌, cond, ltb, leb, Option, Some, None}

-- the position of a sequence number, or none
abbrev pub Place : Type 0
Place = Option ℕ

-- "Subtraction of sequence numbers wraps at 2^32": s less the reference's low 32 bits
abbrev pub wrapping_difference : ℕ → ℕ → ℕ
wrapping_difference s reference = (s + 2 ^ 32 - reference % 2 ^ 32) % 2 ^ 32

-- a number that lies d ahead of the reference, or 2 ^ 32 - d behind it
abbrev pub ahead : ℕ → ℕ → Place
ahead reference d = cond (ltb (reference + d) (2 ^ 64)) (Some (reference + d)) None

abbrev pub behind : ℕ → ℕ → Place
behind reference d = cond (leb (2 ^ 32 - d) reference) (Some (reference + d - 2 ^ 32)) None

-- "The position of a 32-bit number s is the whole number X with remainder s modulo 2^32 and |X - reference| < 2^31,
-- if there is one with 0 <= X < 2^64." `Near` below is that sentence; PositionLaws proves that this is it.
unfoldable pub position : ℕ → ℕ → Place
position reference s =
    cond (ltb (wrapping_difference s reference) (2 ^ 31))
    (ahead reference (wrapping_difference s reference))
    (cond (ltb (2 ^ 31) (wrapping_difference s reference)) (behind reference (wrapping_difference s reference)) None)

-- X has remainder s modulo 2^32, |X - reference| < 2^31, and X < 2^64
pub record Near (reference s x : ℕ) : Type 0 where
  pub remainder : x % 2 ^ 32 ≡ s
  pub above : x < reference + 2 ^ 31
  pub below : reference < x + 2 ^ 31
  pub fits : x < 2 ^ 64

-- The sentence, as statements. If there is such a number, `position` is it; what `position` gives is such a number; and there is no other.
abbrev pub Complete : Type 0
Complete = (reference s x : ℕ) → Near reference s x → position reference s ≡ Some x

abbrev pub Sound : Type 0
Sound = (reference s x : ℕ) → s < 2 ^ 32 → reference < 2 ^ 64 → position reference s ≡ Some x → Near reference s x

abbrev pub Unique : Type 0
Unique = (reference s x y : ℕ) → Near reference s x → Near reference s y → x ≡ y
