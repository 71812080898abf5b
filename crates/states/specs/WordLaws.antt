-- Numbers as bytes, highest first, and back: what LayoutLaws needs of them.
-- Assumes nothing but, where it says `Octets`, that the bytes are below 256.
use Rattle.std.specs.Prelude.{◌≡◌, ℕ, zero, suc, ◌+◌, ◌*◌, ◌/◌, ◌%◌, ◌^◌, ◌<◌, ◌≤◌, List, [], ◌∷◌, ◌++◌, length, take, drop, slice_index, refl}
use Rattle.std.proofs.Common.{sym, ap, ◌∙◌, append_assoc, arith, length-append, length-drop, drop_at, drop-drop, get_or-drop, take-add}
use Rattle.octets.specs.Octets.{be16, be32, get16, get32, bytes16, bytes32, bytes64}
use Rattle.octets.specs.Each.{Octets}
use Rattle.states.specs.Layout.{get64, words_at_lem, word_bytes}

-- From a number to its bytes and back.

low16 : (x : ℕ) → be16 (x / 2 ^ 8 % 256) (x % 256) ≡ x % 2 ^ 16
low16 x = omega arith

join32 : (a b c d x y z : ℕ) → be16 a b ≡ x → be16 c d ≡ y → x * 2 ^ 16 + y ≡ z → be32 a b c d ≡ z
join32 a b c d x y z p q r = omega arith

low32 : (x : ℕ) → be32 (x / 2 ^ 24 % 256) (x / 2 ^ 16 % 256) (x / 2 ^ 8 % 256) (x % 256) ≡ x % 2 ^ 32
low32 x =
    let h : x / 2 ^ 24 ≡ x / 2 ^ 16 / 2 ^ 8 = omega arith in
    join32 (x / 2 ^ 24 % 256) (x / 2 ^ 16 % 256) (x / 2 ^ 8 % 256) (x % 256) (x / 2 ^ 16 % 2 ^ 16) (x % 2 ^ 16) (x % 2 ^ 32) (rw h (low16 (x / 2 ^ 16))) (low16 x) (omega arith)

pub back16 : (x : ℕ) → x < 2 ^ 16 → get16 (bytes16 x) 0 ≡ x
back16 x h = low16 x ∙ omega arith

pub back32 : (x : ℕ) → x < 2 ^ 32 → get32 (bytes32 x) 0 ≡ x
back32 x h = low32 x ∙ omega arith

high : (x : ℕ) → (x / 2 ^ 56 ≡ x / 2 ^ 32 / 2 ^ 24) × (x / 2 ^ 48 ≡ x / 2 ^ 32 / 2 ^ 16) × (x / 2 ^ 40 ≡ x / 2 ^ 32 / 2 ^ 8)
high x = (omega arith, omega arith, omega arith)

join64 : (h l x : ℕ) → x < 2 ^ 64 → h ≡ x / 2 ^ 32 % 2 ^ 32 → l ≡ x % 2 ^ 32 → h * 2 ^ 32 + l ≡ x
join64 h l x k p q = omega arith

pub back64 : (x : ℕ) → x < 2 ^ 64 → get64 (bytes64 x) 0 ≡ x
back64 x k = let q = high x in join64 _ _ x k (rw (q.0, q.1, q.2) (low32 (x / 2 ^ 32))) (low32 x)

-- From bytes to their number and back.

-- the number at a place is the number at the front of what begins there
module _ (b : List ℕ) (at : ℕ) where
  one : (k n : ℕ) → n ≡ at + k → slice_index b n ≡ slice_index (drop at b) k
  one k n e = ap (λ (m : ℕ). slice_index b m) e ∙ sym (get_or-drop at b k 0)

  pub from16 : get16 b at ≡ get16 (drop at b) 0
  from16 i = be16 (one 0 at (omega arith) i) (one 1 (at + 1) refl i)

  pub from32 : get32 b at ≡ get32 (drop at b) 0
  from32 i = be32 (one 0 at (omega arith) i) (one 1 (at + 1) refl i) (one 2 (at + 2) refl i) (one 3 (at + 3) refl i)

pub from64 : (b : List ℕ) (at : ℕ) → get64 b at ≡ get64 (drop at b) 0
from64 b at i = from32 b at i * 2 ^ 32 + (from32 b (at + 4) ∙ ap (λ (l : List ℕ). get32 l 0) (sym (drop-drop 4 at b)) ∙ sym (from32 (drop at b) 4)) i

pub forth16 : (l : List ℕ) → 2 ≤ length l → Octets l → bytes16 (get16 l 0) ≡ take 2 l
forth16 [] h o = absurd (omega arith)
forth16 (a ∷ []) h o = absurd (omega arith)
forth16 (a ∷ b ∷ l) h o = let p = o 0 in let q = o 1 in λ i. (two a b p q).0 i ∷ (two a b p q).1 i ∷ []
  where
    two : (a b : ℕ) → a < 256 → b < 256 → (be16 a b / 2 ^ 8 % 256 ≡ a) × (be16 a b % 256 ≡ b)
    two a b p q = (omega arith, omega arith)

pub forth32 : (l : List ℕ) → 4 ≤ length l → Octets l → bytes32 (get32 l 0) ≡ take 4 l
forth32 [] h o = absurd (omega arith)
forth32 (a ∷ []) h o = absurd (omega arith)
forth32 (a ∷ b ∷ []) h o = absurd (omega arith)
forth32 (a ∷ b ∷ c ∷ []) h o = absurd (omega arith)
forth32 (a ∷ b ∷ c ∷ d ∷ l) h o = let f = four a b c d (o 0) (o 1) (o 2) (o 3) in λ i. f.0 i ∷ f.1 i ∷ f.2 i ∷ f.3 i ∷ []
  where
    four : (a b c d : ℕ) → a < 256 → b < 256 → c < 256 → d < 256
        → (be32 a b c d / 2 ^ 24 % 256 ≡ a) × (be32 a b c d / 2 ^ 16 % 256 ≡ b) × (be32 a b c d / 2 ^ 8 % 256 ≡ c) × (be32 a b c d % 256 ≡ d)
    four a b c d p q r s = (omega arith, omega arith, omega arith, omega arith)

split64 : (h l : ℕ) → l < 2 ^ 32 → bytes64 (h * 2 ^ 32 + l) ≡ bytes32 h ++ bytes32 l
split64 h l k =
    let q = high (h * 2 ^ 32 + l) in
    let e : (h * 2 ^ 32 + l) / 2 ^ 32 ≡ h = omega arith in
    rw (q.0, q.1, q.2, e)
    (λ i. h / 2 ^ 24 % 256 ∷ h / 2 ^ 16 % 256 ∷ h / 2 ^ 8 % 256 ∷ h % 256 ∷ (low h l).0 i ∷ (low h l).1 i ∷ (low h l).2 i ∷ (low h l).3 i ∷ [])
  where
    low : (h l : ℕ) → ((h * 2 ^ 32 + l) / 2 ^ 24 % 256 ≡ l / 2 ^ 24 % 256) × ((h * 2 ^ 32 + l) / 2 ^ 16 % 256 ≡ l / 2 ^ 16 % 256)
        × ((h * 2 ^ 32 + l) / 2 ^ 8 % 256 ≡ l / 2 ^ 8 % 256) × ((h * 2 ^ 32 + l) % 256 ≡ l % 256)
    low h l = (omega arith, omega arith, omega arith, omega arith)

pub forth64 : (l : List ℕ) → 8 ≤ length l → Octets l → bytes64 (get64 l 0) ≡ take 8 l
forth64 l h o =
    let d = length-drop 4 l in
    let r = forth32 (drop 4 l) (omega arith) (λ i. rw (get_or-drop 4 l i 0) (o (4 + i))) in
    split64 (get32 l 0) (get32 l 4) (small (o 4) (o 5) (o 6) (o 7))
    ∙ (λ i. forth32 l (omega arith) o i ++ (ap bytes32 (from32 l 4) ∙ r) i)
    ∙ sym (take-add 4 4 l)
  where
    small : {a b c d : ℕ} → a < 256 → b < 256 → c < 256 → d < 256 → be32 a b c d < 2 ^ 32
    small p q r s = omega arith

-- Numbers of eight bytes, one behind the other.

pub length-words : (l : List ℕ) → length (word_bytes l) ≡ 8 * length l
unfolding word_bytes
length-words [] = refl
length-words (x ∷ l) = length-append (bytes64 x) (word_bytes l) ∙ ap (λ (n : ℕ). 8 + n) (length-words l) ∙ (let e : 8 + 8 * length l ≡ 8 * suc (length l) = omega arith in e)

-- read where they were written, between p and r
pub words_back : (p l r : List ℕ) → ((i : ℕ) → slice_index l i < 2 ^ 64) → words_at_lem (length l) (p ++ (word_bytes l ++ r)) (length p) ≡ l
unfolding words_at_lem word_bytes
words_back p [] r h = refl
words_back p (x ∷ l) r h =
    let tail : List ℕ = bytes64 x ++ (word_bytes l ++ r) in
    let first : get64 (p ++ tail) (length p) ≡ x =
    from64 _ (length p) ∙ ap (λ (q : List ℕ). get64 q 0) (drop_at p tail (length p) refl) ∙ back64 x (h 0) in
    let rest : words_at_lem (length l) (p ++ tail) (length p + 8) ≡ l =
    sym (λ i. words_at_lem (length l) (append_assoc p (bytes64 x) (word_bytes l ++ r) i) (length-append p (bytes64 x) i))
    ∙ words_back (p ++ bytes64 x) l r (λ k. h (suc k)) in
    λ i. first i ∷ rest i

pub words-from : (n : ℕ) (b : List ℕ) (at k : ℕ) → words_at_lem n b (at + k) ≡ words_at_lem n (drop at b) k
unfolding words_at_lem
words-from zero b at k = refl
words-from (suc n) b at k =
    let first : get64 b (at + k) ≡ get64 (drop at b) k = from64 b (at + k) ∙ ap (λ (r : List ℕ). get64 r 0) (sym (drop-drop k at b)) ∙ sym (from64 (drop at b) k) in
    let e : at + k + 8 ≡ at + (k + 8) = omega arith in
    let rest : words_at_lem n b (at + k + 8) ≡ words_at_lem n (drop at b) (k + 8) = ap (words_at_lem n b) e ∙ words-from n b at (k + 8) in
    λ i. first i ∷ rest i

pub words-forth : (n : ℕ) (b : List ℕ) (at : ℕ) → Octets b → at + 8 * n ≤ length b → word_bytes (words_at_lem n b at) ≡ take (8 * n) (drop at b)
unfolding words_at_lem word_bytes
words-forth zero b at o h = refl
words-forth (suc n) b at o h =
    let d = length-drop at b in
    let e : 8 + 8 * n ≡ 8 * suc n = omega arith in
    (λ i. (ap bytes64 (from64 b at) ∙ forth64 (drop at b) (omega arith) (λ k. rw (get_or-drop at b k 0) (o (at + k)))) i
    ++ (words-forth n b (at + 8) o (omega arith) ∙ ap (take (8 * n)) (sym (drop-drop 8 at b))) i)
    ∙ sym (take-add 8 (8 * n) (drop at b)) ∙ ap (λ (k : ℕ). take k (drop at b)) e
