-- MD5's handling of a block, RFC 1321, in its order and names. A word is a number below 2 ^ 32, a block a list of bytes; complement,
-- sum and rotation of words are those of `Words`. Assumes nothing.
use Rattle.std.specs.Prelude.{ℕ, zero, suc, ◌+◌, ◌/◌, ◌%◌, ◌^◌, List, [], ◌∷◌, ◌++◌, map, bit_and, bit_or, bit_xor, slice_index}
use Rattle.octets.specs.Octets.{be32}
use Rattle.compression.specs.Words.{not32, add32, ROTL, words_by}
use Rattle.compression.specs.Schedule.{rounds}

-- §2: "each consecutive group of four bytes is interpreted as a word with the low-order (least significant) byte given first"
abbrev pub low_first : List ℕ → ℕ → ℕ
low_first s at = be32 (slice_index s (at + 3)) (slice_index s (at + 2)) (slice_index s (at + 1)) (slice_index s at)

-- so the low 32 bits of a number as bytes, and the low 64: §3.2, "two 32-bit words .. low-order word first"
abbrev pub bytes_low32 : ℕ → List ℕ
bytes_low32 x = x % 256 ∷ x / 2 ^ 8 % 256 ∷ x / 2 ^ 16 % 256 ∷ x / 2 ^ 24 % 256 ∷ []

abbrev pub bytes_low64 : ℕ → List ℕ
bytes_low64 x = bytes_low32 x ++ (x / 2 ^ 32 % 256 ∷ x / 2 ^ 40 % 256 ∷ x / 2 ^ 48 % 256 ∷ x / 2 ^ 56 % 256 ∷ [])

-- §3.3: the words A, B, C, D, "in hexadecimal, low-order bytes first": 01 23 45 67, 89 ab cd ef, fe dc ba 98, 76 54 32 10
unfoldable pub initial : List ℕ
initial = 0x6745_2301 ∷ 0xefcd_ab89 ∷ 0x98ba_dcfe ∷ 0x1032_5476 ∷ []

-- §3.4: F(X,Y,Z) = XY v not(X) Z, G(X,Y,Z) = XZ v Y not(Z), H(X,Y,Z) = X xor Y xor Z, I(X,Y,Z) = Y xor (X v not(Z))
abbrev pub F : ℕ → ℕ → ℕ → ℕ
F x y z = bit_or (bit_and x y) (bit_and (not32 x) z)

abbrev pub G : ℕ → ℕ → ℕ → ℕ
G x y z = bit_or (bit_and x z) (bit_and y (not32 z))

abbrev pub H : ℕ → ℕ → ℕ → ℕ
H x y z = bit_xor (bit_xor x y) z

abbrev pub I : ℕ → ℕ → ℕ → ℕ
I x y z = bit_xor y (bit_or x (not32 z))

-- "a 64-element table T[1 ... 64]", "the integer part of 4294967296 times abs(sin(i))", as the appendix prints it; T[i] is at place i - 1
unfoldable pub table : List ℕ
table =
    0xd76a_a478 ∷ 0xe8c7_b756 ∷ 0x2420_70db ∷ 0xc1bd_ceee ∷ 0xf57c_0faf ∷ 0x4787_c62a ∷ 0xa830_4613 ∷ 0xfd46_9501 ∷
    0x6980_98d8 ∷ 0x8b44_f7af ∷ 0xffff_5bb1 ∷ 0x895c_d7be ∷ 0x6b90_1122 ∷ 0xfd98_7193 ∷ 0xa679_438e ∷ 0x49b4_0821 ∷
    0xf61e_2562 ∷ 0xc040_b340 ∷ 0x265e_5a51 ∷ 0xe9b6_c7aa ∷ 0xd62f_105d ∷ 0x0244_1453 ∷ 0xd8a1_e681 ∷ 0xe7d3_fbc8 ∷
    0x21e1_cde6 ∷ 0xc337_07d6 ∷ 0xf4d5_0d87 ∷ 0x455a_14ed ∷ 0xa9e3_e905 ∷ 0xfcef_a3f8 ∷ 0x676f_02d9 ∷ 0x8d2a_4c8a ∷
    0xfffa_3942 ∷ 0x8771_f681 ∷ 0x6d9d_6122 ∷ 0xfde5_380c ∷ 0xa4be_ea44 ∷ 0x4bde_cfa9 ∷ 0xf6bb_4b60 ∷ 0xbebf_bc70 ∷
    0x289b_7ec6 ∷ 0xeaa1_27fa ∷ 0xd4ef_3085 ∷ 0x0488_1d05 ∷ 0xd9d4_d039 ∷ 0xe6db_99e5 ∷ 0x1fa2_7cf8 ∷ 0xc4ac_5665 ∷
    0xf429_2244 ∷ 0x432a_ff97 ∷ 0xab94_23a7 ∷ 0xfc93_a039 ∷ 0x655b_59c3 ∷ 0x8f0c_cc92 ∷ 0xffef_f47d ∷ 0x8584_5dd1 ∷
    0x6fa8_7e4f ∷ 0xfe2c_e6e0 ∷ 0xa301_4314 ∷ 0x4e08_11a1 ∷ 0xf753_7e82 ∷ 0xbd3a_f235 ∷ 0x2ad7_d2bb ∷ 0xeb86_d391 ∷ []

-- The operations [abcd k s i] of rounds 1 to 4, in the document's order: i is 1 to 64 there, and 0 to 63 for t here. Which word X[k]
-- operation t takes, a line to a round:
unfoldable pub places : List ℕ
places =
    0 ∷ 1 ∷ 2 ∷ 3 ∷ 4 ∷ 5 ∷ 6 ∷ 7 ∷ 8 ∷ 9 ∷ 10 ∷ 11 ∷ 12 ∷ 13 ∷ 14 ∷ 15 ∷
    1 ∷ 6 ∷ 11 ∷ 0 ∷ 5 ∷ 10 ∷ 15 ∷ 4 ∷ 9 ∷ 14 ∷ 3 ∷ 8 ∷ 13 ∷ 2 ∷ 7 ∷ 12 ∷
    5 ∷ 8 ∷ 11 ∷ 14 ∷ 1 ∷ 4 ∷ 7 ∷ 10 ∷ 13 ∷ 0 ∷ 3 ∷ 6 ∷ 9 ∷ 12 ∷ 15 ∷ 2 ∷
    0 ∷ 7 ∷ 14 ∷ 5 ∷ 12 ∷ 3 ∷ 10 ∷ 1 ∷ 8 ∷ 15 ∷ 6 ∷ 13 ∷ 4 ∷ 11 ∷ 2 ∷ 9 ∷ []

abbrev pub place_of : ℕ → ℕ
place_of t = slice_index places t

-- its count s of the rotation: the four of its round in turn;
abbrev pub round_shifts : ℕ → List ℕ
round_shifts zero = 7 ∷ 12 ∷ 17 ∷ 22 ∷ []
round_shifts (suc zero) = 5 ∷ 9 ∷ 14 ∷ 20 ∷ []
round_shifts (suc (suc zero)) = 4 ∷ 11 ∷ 16 ∷ 23 ∷ []
round_shifts (suc (suc (suc q))) = 6 ∷ 10 ∷ 15 ∷ 21 ∷ []

unfoldable pub shift_of : ℕ → ℕ
shift_of t = slice_index (round_shifts (t / 16)) (t % 4)

-- and its round's function
abbrev pub round_function : ℕ → ℕ → ℕ → ℕ → ℕ
round_function zero = F
round_function (suc zero) = G
round_function (suc (suc zero)) = H
round_function (suc (suc (suc q))) = I

unfoldable pub function_of : ℕ → ℕ → ℕ → ℕ → ℕ
function_of t = round_function (t / 16)

-- "a = b + ((a + F(b,c,d) + X[k] + T[i]) <<< s)", with the values f of the function, x of X[k] and k of T[i]. The next operation of the
-- document is [dabc ..]: here the registers are put into that order, so that each operation is on a, b, c, d.
unfoldable pub operation : (f x k n : ℕ) → List ℕ → List ℕ
operation f x k n s =
    slice_index s 3
    ∷ add32 (slice_index s 1) (ROTL n (add32 (add32 (add32 (slice_index s 0) f) x) k))
    ∷ slice_index s 1
    ∷ slice_index s 2
    ∷ []

-- operation t, with the word x
abbrev pub step : ℕ → ℕ → List ℕ → List ℕ
step t x s = operation (function_of t (slice_index s 1) (slice_index s 2) (slice_index s 3)) x (slice_index table t) (shift_of t) s

-- the words X of a block, in the order in which the operations take them
abbrev pub taken : List ℕ → List ℕ
taken X = map (λ k. slice_index X k) places

-- "Save A as AA, B as BB, .." before the operations, "A = A + AA, .." behind them: the registers after a block of the words X, of those h
-- before it, and after the block m
abbrev pub registers : List ℕ → List ℕ
registers h = slice_index h 0 ∷ slice_index h 1 ∷ slice_index h 2 ∷ slice_index h 3 ∷ []

unfoldable pub sum4 : List ℕ → List ℕ → List ℕ
sum4 h s =
    add32 (slice_index h 0) (slice_index s 0)
    ∷ add32 (slice_index h 1) (slice_index s 1)
    ∷ add32 (slice_index h 2) (slice_index s 2)
    ∷ add32 (slice_index h 3) (slice_index s 3)
    ∷ []

unfoldable pub compress_words : List ℕ → List ℕ → List ℕ
compress_words h X = sum4 h (rounds step 0 64 (taken X) (registers h))

abbrev pub words : ℕ → List ℕ → List ℕ
words = words_by low_first

abbrev pub compress : List ℕ → List ℕ → List ℕ
compress h m = compress_words h (words 16 m)

-- §3.5: "we begin with the low-order byte of A, and end with the high-order byte of D"
unfoldable pub digest : List ℕ → List ℕ
digest h = bytes_low32 (slice_index h 0) ++ bytes_low32 (slice_index h 1) ++ bytes_low32 (slice_index h 2) ++ bytes_low32 (slice_index h 3)
