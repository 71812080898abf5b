-- Numbers in network byte order: the highest byte first.
use Rattle.std.specs.Prelude.{ℕ, ◌+◌, ◌-◌, ◌*◌, ◌/◌, ◌%◌, ◌^◌, List, [], ◌∷◌, ◌++◌, length, replicate, get_or}

-- the number that two, and four, bytes make
abbrev pub be16 : ℕ → ℕ → ℕ
be16 a b = a * 2 ^ 8 + b

abbrev pub be32 : ℕ → ℕ → ℕ → ℕ → ℕ
be32 a b c d = a * 2 ^ 24 + b * 2 ^ 16 + c * 2 ^ 8 + d

-- the number in the bytes of s from `at` on; a byte that is not there counts as 0
abbrev pub get16 : List ℕ → ℕ → ℕ
get16 s at = be16 (get_or s at 0) (get_or s (at + 1) 0)

abbrev pub get32 : List ℕ → ℕ → ℕ
get32 s at = be32 (get_or s at 0) (get_or s (at + 1) 0) (get_or s (at + 2) 0) (get_or s (at + 3) 0)

abbrev pub get64 : List ℕ → ℕ → ℕ
get64 s at = get32 s at * 2 ^ 32 + get32 s (at + 4)

-- the low 16, 32 and 64 bits of a number as bytes
abbrev pub bytes16 : ℕ → List ℕ
bytes16 x = x / 2 ^ 8 % 256 ∷ x % 256 ∷ []

abbrev pub bytes32 : ℕ → List ℕ
bytes32 x = x / 2 ^ 24 % 256 ∷ x / 2 ^ 16 % 256 ∷ x / 2 ^ 8 % 256 ∷ x % 256 ∷ []

abbrev pub bytes64 : ℕ → List ℕ
bytes64 x = x / 2 ^ 56 % 256 ∷ x / 2 ^ 48 % 256 ∷ x / 2 ^ 40 % 256 ∷ x / 2 ^ 32 % 256 ∷ bytes32 x

-- zeros behind a string, up to n bytes; a longer string stays as it is
abbrev pub padded_of : ℕ → List ℕ → List ℕ
padded_of n s = s ++ replicate (n - length s) 0
