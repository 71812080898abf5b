-- Words of 32 bits, FIPS 180-4 in the standard's names: what SHA-1 and SHA-256 do with them, and those of a block. MD5 cites some of them.
-- A word is a number below 2 ^ 32, a block a list of bytes. Assumes nothing.
use Rattle.std.specs.Prelude.{ℕ, zero, suc, ◌+◌, ◌-◌, ◌*◌, ◌/◌, ◌%◌, ◌^◌, List, [], ◌∷◌, ◌++◌, map, bit_and, bit_or, bit_xor, slice_index}
use Rattle.std.specs.List.{range_with_len}
use Rattle.octets.specs.Octets.{get32}

-- §2.2.2, §3.2: the complement of a word, the sum modulo 2 ^ 32
abbrev pub not32 : ℕ → ℕ
not32 x = 2 ^ 32 - 1 - x

abbrev pub add32 : ℕ → ℕ → ℕ
add32 x y = (x + y) % 2 ^ 32

-- the n words f 0 to f (n - 1); so the sums of n words of two lists, one by one
abbrev pub made : ℕ → (ℕ → ℕ) → List ℕ
made n f = map f (range_with_len 0 n)

abbrev pub sums : ℕ → List ℕ → List ℕ → List ℕ
sums n h s = made n (λ i. add32 (slice_index h i) (slice_index s i))

-- ROTL^n(x) = (x << n) ∨ (x >> 32 - n), ROTR^n(x) = (x >> n) ∨ (x << 32 - n), SHR^n(x) = x >> n
abbrev pub ROTL : ℕ → ℕ → ℕ
ROTL n x = bit_or (x * 2 ^ n % 2 ^ 32) (x / 2 ^ (32 - n))

abbrev pub ROTR : ℕ → ℕ → ℕ
ROTR n x = bit_or (x / 2 ^ n) (x * 2 ^ (32 - n) % 2 ^ 32)

abbrev pub SHR : ℕ → ℕ → ℕ
SHR n x = x / 2 ^ n

-- §4.1.1, §4.1.2: the functions of three words
abbrev pub Ch : ℕ → ℕ → ℕ → ℕ
Ch x y z = bit_xor (bit_and x y) (bit_and (not32 x) z)

abbrev pub Parity : ℕ → ℕ → ℕ → ℕ
Parity x y z = bit_xor (bit_xor x y) z

abbrev pub Maj : ℕ → ℕ → ℕ → ℕ
Maj x y z = bit_xor (bit_xor (bit_and x y) (bit_and x z)) (bit_and y z)

-- §5.2.1: the first t of the sixteen words of the block m, where `word m i` is the word in its bytes from i on; FIPS 180-4 has the highest
-- byte first
unfoldable pub words_by : (List ℕ → ℕ → ℕ) → ℕ → List ℕ → List ℕ
words_by word zero m = []
words_by word (suc t) m = words_by word t m ++ (word m (4 * t) ∷ [])

abbrev pub words : ℕ → List ℕ → List ℕ
words = words_by get32
