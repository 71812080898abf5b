-- SHA-256's compression of a block, FIPS 180-4, in the standard's order and names. Assumes nothing.
use Rattle.std.specs.Prelude.{ℕ, ◌-◌, List, [], ◌∷◌, ◌++◌, bit_xor, slice_index}
use Rattle.octets.specs.Octets.{bytes32}
use Rattle.compression.specs.Words.{add32, ROTR, SHR, Ch, Maj, words}
use Rattle.compression.specs.Schedule.{extended, rounds}

-- §4.1.2: the functions Σ_0, Σ_1, σ_0 and σ_1
abbrev pub Sigma0 : ℕ → ℕ
Sigma0 x = bit_xor (bit_xor (ROTR 2 x) (ROTR 13 x)) (ROTR 22 x)

abbrev pub Sigma1 : ℕ → ℕ
Sigma1 x = bit_xor (bit_xor (ROTR 6 x) (ROTR 11 x)) (ROTR 25 x)

abbrev pub sigma0 : ℕ → ℕ
sigma0 x = bit_xor (bit_xor (ROTR 7 x) (ROTR 18 x)) (SHR 3 x)

abbrev pub sigma1 : ℕ → ℕ
sigma1 x = bit_xor (bit_xor (ROTR 17 x) (ROTR 19 x)) (SHR 10 x)

-- §4.2.2: the constants K_0 to K_63
unfoldable pub constants : List ℕ
constants =
    0x428a_2f98 ∷ 0x7137_4491 ∷ 0xb5c0_fbcf ∷ 0xe9b5_dba5 ∷ 0x3956_c25b ∷ 0x59f1_11f1 ∷ 0x923f_82a4 ∷ 0xab1c_5ed5 ∷
    0xd807_aa98 ∷ 0x1283_5b01 ∷ 0x2431_85be ∷ 0x550c_7dc3 ∷ 0x72be_5d74 ∷ 0x80de_b1fe ∷ 0x9bdc_06a7 ∷ 0xc19b_f174 ∷
    0xe49b_69c1 ∷ 0xefbe_4786 ∷ 0x0fc1_9dc6 ∷ 0x240c_a1cc ∷ 0x2de9_2c6f ∷ 0x4a74_84aa ∷ 0x5cb0_a9dc ∷ 0x76f9_88da ∷
    0x983e_5152 ∷ 0xa831_c66d ∷ 0xb003_27c8 ∷ 0xbf59_7fc7 ∷ 0xc6e0_0bf3 ∷ 0xd5a7_9147 ∷ 0x06ca_6351 ∷ 0x1429_2967 ∷
    0x27b7_0a85 ∷ 0x2e1b_2138 ∷ 0x4d2c_6dfc ∷ 0x5338_0d13 ∷ 0x650a_7354 ∷ 0x766a_0abb ∷ 0x81c2_c92e ∷ 0x9272_2c85 ∷
    0xa2bf_e8a1 ∷ 0xa81a_664b ∷ 0xc24b_8b70 ∷ 0xc76c_51a3 ∷ 0xd192_e819 ∷ 0xd699_0624 ∷ 0xf40e_3585 ∷ 0x106a_a070 ∷
    0x19a4_c116 ∷ 0x1e37_6c08 ∷ 0x2748_774c ∷ 0x34b0_bcb5 ∷ 0x391c_0cb3 ∷ 0x4ed8_aa4a ∷ 0x5b9c_ca4f ∷ 0x682e_6ff3 ∷
    0x748f_82ee ∷ 0x78a5_636f ∷ 0x84c8_7814 ∷ 0x8cc7_0208 ∷ 0x90be_fffa ∷ 0xa450_6ceb ∷ 0xbef9_a3f7 ∷ 0xc671_78f2 ∷ []

abbrev pub K : ℕ → ℕ
K t = slice_index constants t

-- §5.3.3: H^(0)
unfoldable pub initial : List ℕ
initial = 0x6a09_e667 ∷ 0xbb67_ae85 ∷ 0x3c6e_f372 ∷ 0xa54f_f53a ∷ 0x510e_527f ∷ 0x9b05_688c ∷ 0x1f83_d9ab ∷ 0x5be0_cd19 ∷ []

-- §6.2.2, step 1: W_t of the words 2, 7, 15 and 16 places before it, from t = 16 on; and the message schedule W_0 .. W_63 of the first
-- sixteen, w
abbrev pub next : List ℕ → ℕ → ℕ
next W t =
    add32 (add32 (add32 (sigma1 (slice_index W (t - 2))) (slice_index W (t - 7)))
    (sigma0 (slice_index W (t - 15)))) (slice_index W (t - 16))

unfoldable pub schedule : List ℕ → List ℕ
schedule w = extended next 48 w

-- Step 2: the working variables a to h
abbrev pub variables : List ℕ → List ℕ
variables h = slice_index h 0 ∷ slice_index h 1 ∷ slice_index h 2 ∷ slice_index h 3
    ∷ slice_index h 4 ∷ slice_index h 5 ∷ slice_index h 6 ∷ slice_index h 7 ∷ []

-- Step 3: one round on the working variables a to h, with the values k of K_t and w of W_t; and round t
abbrev pub T1 : ℕ → ℕ → ℕ → ℕ → ℕ → ℕ → ℕ
T1 e f g h k w = add32 (add32 (add32 (add32 h (Sigma1 e)) (Ch e f g)) k) w

abbrev pub T2 : ℕ → ℕ → ℕ → ℕ
T2 a b c = add32 (Sigma0 a) (Maj a b c)

unfoldable pub round : ℕ → ℕ → List ℕ → List ℕ
round k w s =
    let t = T1 (slice_index s 4) (slice_index s 5) (slice_index s 6) (slice_index s 7) k w in
    add32 t (T2 (slice_index s 0) (slice_index s 1) (slice_index s 2))
    ∷ slice_index s 0
    ∷ slice_index s 1
    ∷ slice_index s 2
    ∷ add32 (slice_index s 3) t
    ∷ slice_index s 4
    ∷ slice_index s 5
    ∷ slice_index s 6
    ∷ []

abbrev pub step : ℕ → ℕ → List ℕ → List ℕ
step t w s = round (K t) w s

-- Step 4: the sums, and so H^(i) of H^(i-1) and a block's words w, and of the block m
unfoldable pub sum8 : List ℕ → List ℕ → List ℕ
sum8 h s =
    add32 (slice_index h 0) (slice_index s 0)
    ∷ add32 (slice_index h 1) (slice_index s 1)
    ∷ add32 (slice_index h 2) (slice_index s 2)
    ∷ add32 (slice_index h 3) (slice_index s 3)
    ∷ add32 (slice_index h 4) (slice_index s 4)
    ∷ add32 (slice_index h 5) (slice_index s 5)
    ∷ add32 (slice_index h 6) (slice_index s 6)
    ∷ add32 (slice_index h 7) (slice_index s 7)
    ∷ []

unfoldable pub compress_words : List ℕ → List ℕ → List ℕ
compress_words h w = sum8 h (rounds step 0 64 (schedule w) (variables h))

abbrev pub compress : List ℕ → List ℕ → List ℕ
compress h m = compress_words h (words 16 m)

-- the message digest: H_0 to H_7, the highest byte of each first
unfoldable pub digest : List ℕ → List ℕ
digest h =
    bytes32 (slice_index h 0) ++ bytes32 (slice_index h 1) ++ bytes32 (slice_index h 2) ++ bytes32 (slice_index h 3)
    ++ bytes32 (slice_index h 4) ++ bytes32 (slice_index h 5) ++ bytes32 (slice_index h 6) ++ bytes32 (slice_index h 7)
