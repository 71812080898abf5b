-- The table of `mix_table`: its rule by one computed test, and that four entries, each rotated to its row, are a column of
-- MixColumns. Assumes nothing.
use Rattle.std.proofs.Common.{◌≡◌, ℕ, zero, suc, ◌+◌, ◌*◌, ◌%◌, ◌^◌, ◌<◌, T, List, [], ◌∷◌, get_or, sym, refl, ap, ◌∙◌, pow-suc, arith}
use lib.Bits.{bit_xor, xor_lt}
use Rattle.compression.specs.TableLaws.{agree, each}
use Rattle.mac.specs.Aes.{xtime, inverse, affine_from, affine, sbox, mixed, mix_column, add_word}
use Rattle.mac.specs.AesWords.{bytes, multiples, rotated, Mixing}
use Rattle.mac.proofs.Xor.{around}
use Rattle.mac.proofs.WordBytes.{pack, pack-bytes, xor-of}

-- the S-box and its multiples are bytes
digit : (x r p : ℕ) → r < p → x % 2 + 2 * r < p * 2
digit x r p h = omega arith

affine-lt : (n i b : ℕ) → affine_from n i b < 2 ^ n
affine-lt zero i b = omega arith
affine-lt (suc n) i b = rw (pow-suc 2 n) (digit _ (affine_from n (suc i) b) (2 ^ n) (affine-lt n (suc i) b))

sbox-lt : (x : ℕ) → sbox x < 2 ^ 8
unfolding affine sbox
sbox-lt x = affine-lt 8 0 (inverse x)

xtime-byte : (x : ℕ) → x < 2 ^ 8 → xtime x % 2 ^ 8 ≡ xtime x
unfolding xtime
xtime-byte x h = each (λ b. xtime b % 2 ^ 8) xtime 256 tt x h

xtime-lt : (x : ℕ) → x < 2 ^ 8 → xtime x < 2 ^ 8
xtime-lt x h = let e : xtime x % 2 ^ 8 ≡ xtime x = xtime-byte x h in omega (arith, e)

-- the multiples of s as one number
abbrev entry_of : ℕ → ℕ
entry_of s = pack (xtime s) s s (bit_xor (xtime s) s)

entry_of-bytes : (s : ℕ) → s < 2 ^ 8 → bytes (entry_of s) ≡ multiples s
entry_of-bytes s h =
    let d = xtime-lt s h in pack-bytes (xtime s) s s (bit_xor (xtime s) s) d h h (xor_lt 8 (xtime s) s d h)

unfoldable pub entry : ℕ → ℕ
entry x = entry_of (sbox x)

-- one computed test over the whole table gives its rule at each entry
pub mixing : (t : List ℕ) → T (agree (λ x. get_or t x 0) entry 256) → Mixing t
unfolding entry Mixing
mixing t h x l = ap (λ (n : ℕ). bytes n) (each (λ y. get_or t y 0) entry 256 h x l) ∙ entry_of-bytes (sbox x) (sbox-lt x)

-- 5.1.3, (5.6), from the rows' multiples
mixed-rows : (a b c d : ℕ)
    → add_word (add_word (add_word (multiples a) (rotated (multiples b))) (rotated (rotated (multiples c))))
    (rotated (rotated (rotated (multiples d))))
    ≡ mix_column a b c d
mixed-rows a b c d = λ i.
    mixed a b c d
    ∷ around a (xtime b) (bit_xor (xtime c) c) d i
    ∷ (around a b (xtime c) (bit_xor (xtime d) d) ∙ around b (xtime c) (bit_xor (xtime d) d) a) i
    ∷ sym (around (xtime d) (bit_xor (xtime a) a) b c) i ∷ []

pub column-bytes : (a b c d k e f g h : ℕ) → bytes e ≡ multiples a → bytes f ≡ rotated (multiples b)
    → bytes g ≡ rotated (rotated (multiples c)) → bytes h ≡ rotated (rotated (rotated (multiples d)))
    → bytes (bit_xor (bit_xor (bit_xor (bit_xor e f) g) h) k) ≡ add_word (mix_column a b c d) (bytes k)
column-bytes a b c d k e f g h p q r s =
    let u = xor-of e f p q in
    let v = xor-of (bit_xor e f) g u r in
    let w = xor-of (bit_xor (bit_xor e f) g) h v s in xor-of (bit_xor (bit_xor (bit_xor e f) g) h) k (w ∙ mixed-rows a b c d) refl
