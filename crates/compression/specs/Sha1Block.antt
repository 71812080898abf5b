-- SHA-1's compression of a block, FIPS 180-4, in the standard's order and names. Assumes nothing.
use Rattle.std.specs.Prelude.{ℕ, zero, suc, ◌-◌, ◌/◌, List, [], ◌∷◌, ◌++◌, bit_xor, slice_index}
use Rattle.octets.specs.Octets.{bytes32}
use Rattle.compression.specs.Words.{add32, ROTL, Ch, Parity, Maj, words}
use Rattle.compression.specs.Schedule.{extended, rounds}

-- §4.1.1: f_t goes by t / 20: 0 for the rounds 0 to 19, 1 for 20 to 39, 2 for 40 to 59, 3 for 60 to 79
abbrev pub quarter_f : ℕ → ℕ → ℕ → ℕ → ℕ
quarter_f zero = Ch
quarter_f (suc zero) = Parity
quarter_f (suc (suc zero)) = Maj
quarter_f (suc (suc (suc q))) = Parity

unfoldable pub f : ℕ → ℕ → ℕ → ℕ → ℕ
f t = quarter_f (t / 20)

-- §4.2.1: the constants K_t, by the same quarters
abbrev pub quarter_k : ℕ → ℕ
quarter_k q = slice_index (0x5a82_7999 ∷ 0x6ed9_eba1 ∷ 0x8f1b_bcdc ∷ 0xca62_c1d6 ∷ []) q

unfoldable pub K : ℕ → ℕ
K t = quarter_k (t / 20)

-- §5.3.1: H^(0)
unfoldable pub initial : List ℕ
initial = 0x6745_2301 ∷ 0xefcd_ab89 ∷ 0x98ba_dcfe ∷ 0x1032_5476 ∷ 0xc3d2_e1f0 ∷ []

-- §6.1.2, step 1: W_t of the words before it, from t = 16 on; and the message schedule W_0 .. W_79 of the first sixteen, w
abbrev pub next : List ℕ → ℕ → ℕ
next W t =
    ROTL 1 (bit_xor (bit_xor (bit_xor (slice_index W (t - 3)) (slice_index W (t - 8))) (slice_index W (t - 14))) (slice_index W (t - 16)))

unfoldable pub schedule : List ℕ → List ℕ
schedule w = extended next 64 w

-- Step 2: the working variables a, b, c, d, e
abbrev pub variables : List ℕ → List ℕ
variables h = slice_index h 0 ∷ slice_index h 1 ∷ slice_index h 2 ∷ slice_index h 3 ∷ slice_index h 4 ∷ []

-- Step 3: one round on the working variables a, b, c, d, e, with the values F of f_t(b, c, d), k of K_t and w of W_t; and round t
unfoldable pub round : ℕ → ℕ → ℕ → List ℕ → List ℕ
round F k w s =
    add32 (add32 (add32 (add32 (ROTL 5 (slice_index s 0)) F) (slice_index s 4)) k) w
    ∷ slice_index s 0
    ∷ ROTL 30 (slice_index s 1)
    ∷ slice_index s 2
    ∷ slice_index s 3
    ∷ []

abbrev pub step : ℕ → ℕ → List ℕ → List ℕ
step t w s = round (f t (slice_index s 1) (slice_index s 2) (slice_index s 3)) (K t) w s

-- Step 4: the sums, and so H^(i) of H^(i-1) and a block's words w, and of the block m
unfoldable pub sum5 : List ℕ → List ℕ → List ℕ
sum5 h s =
    add32 (slice_index h 0) (slice_index s 0)
    ∷ add32 (slice_index h 1) (slice_index s 1)
    ∷ add32 (slice_index h 2) (slice_index s 2)
    ∷ add32 (slice_index h 3) (slice_index s 3)
    ∷ add32 (slice_index h 4) (slice_index s 4)
    ∷ []

unfoldable pub compress_words : List ℕ → List ℕ → List ℕ
compress_words h w = sum5 h (rounds step 0 80 (schedule w) (variables h))

abbrev pub compress : List ℕ → List ℕ → List ℕ
compress h m = compress_words h (words 16 m)

-- the message digest: H_0 to H_4, the highest byte of each first
unfoldable pub digest : List ℕ → List ℕ
digest h = bytes32 (slice_index h 0) ++ bytes32 (slice_index h 1) ++ bytes32 (slice_index h 2)
    ++ bytes32 (slice_index h 3) ++ bytes32 (slice_index h 4)
