-- The words by which the code of AES goes, and the rule of its table. Only contracts of functions that are private to this crate cite
-- this file: what the cipher and the key expansion are, is said in Aes alone. Assumes nothing.
use Rattle.std.specs.Prelude.{◌≡◌, ℕ, ◌/◌, ◌%◌, ◌^◌, ◌<◌, List, [], ◌∷◌, map, bit_xor, slice_index, slice_index_or}
use Rattle.mac.specs.Aes.{columns, xtime, sbox, mix_column, add_word, sub_word}

-- the four bytes of a number, the lowest first: a column of the state is one number of 32 bits, whose lowest byte is the one in row 0
abbrev pub bytes : ℕ → List ℕ
bytes w = w % 2 ^ 8 ∷ w / 2 ^ 8 % 2 ^ 8 ∷ w / 2 ^ 16 % 2 ^ 8 ∷ w / 2 ^ 24 % 2 ^ 8 ∷ []

-- the sixteen bytes of four numbers: a state, or a round key
abbrev pub state : List ℕ → List ℕ
state s = columns (bytes (slice_index s 0)) (bytes (slice_index s 1)) (bytes (slice_index s 2)) (bytes (slice_index s 3))

-- the eleven round keys of eleven times four numbers
abbrev pub round_keys : List (List ℕ) → List (List ℕ)
round_keys ws = map (λ r. state (slice_index_or ws r [])) (0 ∷ 1 ∷ 2 ∷ 3 ∷ 4 ∷ 5 ∷ 6 ∷ 7 ∷ 8 ∷ 9 ∷ 10 ∷ [])

-- row 0 of the column a, row 1 of b, row 2 of c and row 3 of d: ShiftRows makes a column of these, where b, c and d follow a to the right
abbrev pub rows_of : ℕ → ℕ → ℕ → ℕ → List ℕ
rows_of a b c d = a % 2 ^ 8 ∷ b / 2 ^ 8 % 2 ^ 8 ∷ c / 2 ^ 16 % 2 ^ 8 ∷ d / 2 ^ 24 % 2 ^ 8 ∷ []

-- MixColumns of one column
abbrev pub mix_word : List ℕ → List ℕ
mix_word w = mix_column (slice_index w 0) (slice_index w 1) (slice_index w 2) (slice_index w 3)

-- a column of the words s after a round with the round key k: those in places a, b, c and d give it the rows 0 to 3, and `mix` is what the
-- round does with it
abbrev pub column_by : (List ℕ → List ℕ) → List ℕ → List ℕ → ℕ → ℕ → ℕ → ℕ → List ℕ
column_by mix s k a b c d =
    add_word (mix (sub_word (rows_of (slice_index s a) (slice_index s b) (slice_index s c) (slice_index s d)))) (bytes (slice_index k a))

abbrev pub round_by : (List ℕ → List ℕ) → List ℕ → List ℕ → List ℕ
round_by mix s k = columns (column_by mix s k 0 1 2 3) (column_by mix s k 1 2 3 0) (column_by mix s k 2 3 0 1) (column_by mix s k 3 0 1 2)

-- {02} s, s, s and {03} s, where {03} s is {02} s + s: what the byte s in row 0 brings to each row of the column that MixColumns makes
abbrev pub multiples : ℕ → List ℕ
multiples s = xtime s ∷ s ∷ s ∷ bit_xor (xtime s) s ∷ []

-- one row down: a byte in the next row brings the same one row lower
abbrev pub rotated : List ℕ → List ℕ
rotated w = slice_index w 3 ∷ slice_index w 0 ∷ slice_index w 1 ∷ slice_index w 2 ∷ []

-- the rule of the table: the entry of x has the multiples of its S-box value
unfoldable pub Mixing : List ℕ → Type 0
Mixing t = (x : ℕ) → x < 256 → bytes (slice_index t x) ≡ multiples (sbox x)
