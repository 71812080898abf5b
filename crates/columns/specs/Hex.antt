-- Bytes spelled in hexadecimal, two digits to a byte, the higher first, in lower case. Assumes nothing.
use Rattle.std.specs.Prelude.{ℕ, ◌+◌, ◌-◌, ◌*◌, ◌/◌, ◌%◌, Bool, true, false, cond, ◌&&◌, ◌||◌, List, [], ◌∷◌, length, ◌==◌, nat_le}
use Rattle.std.specs.Prelude.{slice_index}
use Rattle.std.proofs.Math.Seq.{paste}

abbrev pub within : ℕ → ℕ → ℕ → Bool
within low high c = nat_le low c && nat_le c high

-- '0' to '9', or 'a' to 'f'
abbrev pub is_digit_of : ℕ → Bool
is_digit_of c = within 48 57 c || within 97 102 c

-- the value of a digit; 0 for any other byte
unfoldable pub digit : ℕ → ℕ
digit c = cond (within 48 57 c) (c - 48) (cond (within 97 102 c) (c - 87) 0)

-- the value of a column that is one digit; 0 for any other
abbrev pub figure : List ℕ → ℕ
figure t = cond (length t == 1) (digit (slice_index t 0)) 0

-- every byte of a text is a digit
unfoldable pub all_digits_of : List ℕ → Bool
all_digits_of [] = true
all_digits_of (c ∷ t) = is_digit_of c && all_digits_of t

-- the bytes that a text spells
unfoldable pub bytes : List ℕ → List ℕ
bytes [] = []
bytes (a ∷ []) = []
bytes (a ∷ (b ∷ t)) = (digit a * 16 + digit b) ∷ bytes t

-- digits alone, an even number of them, that are at most n bytes
unfoldable pub paired : List ℕ → ℕ → Bool
paired t n = (length t % 2 == 0 && all_digits_of t) && nat_le (length t / 2) n

-- A column spells bytes if it is "-", which stands for none, or digits, an even number of them and not none.
unfoldable pub spells : List ℕ → Bool
spells t = cond (length t == 1) (slice_index t 0 == 45) (cond (length t == 0) false (cond (length t % 2 == 0) (all_digits_of t) false))

-- It does, and they are at most n.
unfoldable pub fits : List ℕ → ℕ → Bool
fits t n = spells t && nat_le (length t / 2) n

-- a buffer with the bytes that a column spells at its front; where they do not fit, it stays as it was
unfoldable pub filled : List ℕ → List ℕ → List ℕ
filled t out = cond (fits t (length out)) (paste out 0 (bytes t) (length t / 2)) out
