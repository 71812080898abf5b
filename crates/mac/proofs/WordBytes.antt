-- Words by their bytes: four bytes packed, XOR byte by byte, a rotation by one byte, one round key from the one before. Assumes nothing.
use Rattle.std.proofs.Common.{◌≡◌, ℕ, ◌+◌, ◌*◌, ◌/◌, ◌%◌, ◌^◌, ◌<◌, List, [], ◌∷◌, refl, ap, ◌∙◌, arith}
use lib.Bits.{bit_xor, bit_or, xor_shr, xor_mod, or_shifted}
use Rattle.mac.specs.Aes.{columns, add_word, sub_word, rot_word, rcon, next_key_of}
use Rattle.mac.specs.AesWords.{bytes, rotated}

-- four bytes as one number
abbrev pub pack : ℕ → ℕ → ℕ → ℕ → ℕ
pack a b c d = ((d * 2 ^ 8 + c) * 2 ^ 8 + b) * 2 ^ 8 + a

module _ (a b c d : ℕ) (ha : a < 2 ^ 8) (hb : b < 2 ^ 8) (hc : c < 2 ^ 8) (hd : d < 2 ^ 8) where
  byte0 : pack a b c d % 2 ^ 8 ≡ a
  byte0 = omega arith

  byte1 : pack a b c d / 2 ^ 8 % 2 ^ 8 ≡ b
  byte1 = omega arith

  byte2 : pack a b c d / 2 ^ 16 % 2 ^ 8 ≡ c
  byte2 = omega arith

  byte3 : pack a b c d / 2 ^ 24 % 2 ^ 8 ≡ d
  byte3 = omega arith

  pub pack-bytes : bytes (pack a b c d) ≡ a ∷ b ∷ c ∷ d ∷ []
  pack-bytes = λ i. byte0 i ∷ byte1 i ∷ byte2 i ∷ byte3 i ∷ []

  rotated-pack : bit_or (pack a b c d * 2 ^ 8 % 2 ^ 32) (pack a b c d / 2 ^ 24) ≡ pack d a b c
  rotated-pack =
      let high : pack a b c d * 2 ^ 8 % 2 ^ 32 ≡ ((c * 2 ^ 8 + b) * 2 ^ 8 + a) * 2 ^ 8 = omega arith in
      let low : pack a b c d / 2 ^ 24 ≡ d = omega arith in
      (λ i. bit_or (high i) (low i)) ∙ or_shifted ((c * 2 ^ 8 + b) * 2 ^ 8 + a) 8 d hd

-- a word is its bytes, packed: one division at a time
packed : (x y z w a b c d : ℕ) → x ≡ y * 2 ^ 8 + a → y ≡ z * 2 ^ 8 + b → z ≡ w * 2 ^ 8 + c → w ≡ d → x ≡ pack a b c d
packed x y z w a b c d p q r s = omega arith

split : (x : ℕ) → x < 2 ^ 32 → x ≡ pack (x % 2 ^ 8) (x / 2 ^ 8 % 2 ^ 8) (x / 2 ^ 16 % 2 ^ 8) (x / 2 ^ 24 % 2 ^ 8)
split x h =
    let p : x / 2 ^ 16 ≡ x / 2 ^ 8 / 2 ^ 8 = omega arith in
    let q : x / 2 ^ 24 ≡ x / 2 ^ 16 / 2 ^ 8 = omega arith in
    packed x (x / 2 ^ 8) (x / 2 ^ 16) (x / 2 ^ 24) (x % 2 ^ 8) (x / 2 ^ 8 % 2 ^ 8) (x / 2 ^ 16 % 2 ^ 8) (x / 2 ^ 24 % 2 ^ 8)
    (omega arith) (omega (arith, p)) (omega (arith, q)) (omega arith)

rotated_of : (x a b c d : ℕ) → a < 2 ^ 8 → b < 2 ^ 8 → c < 2 ^ 8 → d < 2 ^ 8 → x ≡ pack a b c d
    → bytes (bit_or (x * 2 ^ 8 % 2 ^ 32) (x / 2 ^ 24)) ≡ d ∷ a ∷ b ∷ c ∷ []
rotated_of x a b c d ha hb hc hd e =
    ap (λ (n : ℕ). bytes (bit_or (n * 2 ^ 8 % 2 ^ 32) (n / 2 ^ 24))) e ∙ ap (λ (n : ℕ). bytes n) (rotated-pack a b c d ha hb hc hd)
    ∙ pack-bytes d a b c hd ha hb hc

-- a rotation by eight bits
pub rotated-bytes : (x : ℕ) → x < 2 ^ 32 → bytes (bit_or (x * 2 ^ 8 % 2 ^ 32) (x / 2 ^ 24)) ≡ rotated (bytes x)
rotated-bytes x h =
    rotated_of x (x % 2 ^ 8) (x / 2 ^ 8 % 2 ^ 8) (x / 2 ^ 16 % 2 ^ 8) (x / 2 ^ 24 % 2 ^ 8) (omega arith) (omega arith) (omega arith)
    (omega arith) (split x h)

-- XOR byte by byte
xor-byte : (a b k : ℕ) → bit_xor a b / 2 ^ k % 2 ^ 8 ≡ bit_xor (a / 2 ^ k % 2 ^ 8) (b / 2 ^ k % 2 ^ 8)
xor-byte a b k = ap (λ (x : ℕ). x % 2 ^ 8) (xor_shr a b k) ∙ xor_mod (a / 2 ^ k) (b / 2 ^ k) 8

pub xor_bytes : (a b : ℕ) → bytes (bit_xor a b) ≡ add_word (bytes a) (bytes b)
xor_bytes a b = λ i. xor_mod a b 8 i ∷ xor-byte a b 8 i ∷ xor-byte a b 16 i ∷ xor-byte a b 24 i ∷ []

-- the same, of words whose bytes are known
pub xor-of : {u v : List ℕ} (a b : ℕ) → bytes a ≡ u → bytes b ≡ v → bytes (bit_xor a b) ≡ add_word u v
xor-of a b p q = xor_bytes a b ∙ (λ i. add_word (p i) (q i))

-- 5.2: Rcon as a word, and four words from the four before
rcon-bytes : (x : ℕ) → x < 2 ^ 8 → bytes x ≡ rcon x
rcon-bytes x h =
    let a : x % 2 ^ 8 ≡ x = omega arith in
    let b : x / 2 ^ 8 % 2 ^ 8 ≡ 0 = omega arith in
    let c : x / 2 ^ 16 % 2 ^ 8 ≡ 0 = omega arith in
    let d : x / 2 ^ 24 % 2 ^ 8 ≡ 0 = omega arith in (λ i. a i ∷ b i ∷ c i ∷ d i ∷ [])

pub next-key-bytes : (x w k0 k1 k2 k3 a b c d : ℕ) → x < 2 ^ 8 → bytes w ≡ sub_word (rot_word (bytes k3)) → a ≡ bit_xor k0 (bit_xor x w)
    → b ≡ bit_xor k1 a → c ≡ bit_xor k2 b → d ≡ bit_xor k3 c
    → columns (bytes a) (bytes b) (bytes c) (bytes d) ≡ next_key_of x (columns (bytes k0) (bytes k1) (bytes k2) (bytes k3))
unfolding next_key_of
next-key-bytes x w k0 k1 k2 k3 a b c d l h ea eb ec ed =
    let t = xor-of x w (rcon-bytes x l) h in
    let p = ap (λ (n : ℕ). bytes n) ea ∙ xor-of k0 (bit_xor x w) refl t in
    let q = ap (λ (n : ℕ). bytes n) eb ∙ xor-of k1 a refl p in
    let r = ap (λ (n : ℕ). bytes n) ec ∙ xor-of k2 b refl q in
    let s = ap (λ (n : ℕ). bytes n) ed ∙ xor-of k3 c refl r in (λ i. columns (p i) (q i) (r i) (s i))
