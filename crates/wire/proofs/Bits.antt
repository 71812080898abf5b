-- Bits by whole bytes: what the loops of `prefix` need. A byte decides eight bits at once.
-- Assumes of a byte that it is below 256.
use Prim.Native.Nat.{ℕ, suc, zero, ◌+◌, ◌*◌, ◌-◌, ◌/◌, ◌%◌, ◌^◌, ◌≤◌, ◌<◌, min}
use mathlib.Core.Bool.{Bool, true, false, ◌&&◌}
use mathlib.Core.Path.{◌≡◌, refl, sym, ap, ◌∙◌}
use mathlib.Core.List.{List, [], ◌∷◌, ◌++◌}
use lib.ListN.{length, get_or, take, length-take}
use Rattle.std.proofs.lemmas.List.{take_more}
use lib.Dec.{eqb, ltb}
use lib.Pow.{shl_exact, mod-pow-add}
use lib.Bits.{bit_and, and_mask}
use native.Mathlib.Omega.{arith}
use native.Mathlib.Nat.{add-zero, add-suc, pow-suc, div-div-eq-div-mul, div-one, one-mul, mod-one}
use native.Mathlib.Numerals.{add-one}
use borrow.Author.Tests.{eq-eqb, ne_eqb, eqb-true, eqb-false, lt-ltb, le-ltb, ltb-true, ltb-false}
use Rattle.wire.specs.Prefix.{agree, clear_to, clear_past_of}
use Rattle.octets.specs.Each.{Octets}
use Rattle.wire.specs.Bytes.{same_bytes}

-- the first n bits of a byte, and those past them
abbrev top_equal : ℕ → ℕ → ℕ → Bool
top_equal n x y = eqb (x / 2 ^ (8 - n)) (y / 2 ^ (8 - n))

abbrev low_clear : ℕ → ℕ → Bool
low_clear n x = eqb (x % 2 ^ (8 - n)) 0

-- two numbers are equal where their halves and their last bits are
halves2 : (u v : ℕ) (p q : Bool) → eqb (u / 2) (v / 2) ≡ p → eqb (u % 2) (v % 2) ≡ q → (p && q) ≡ eqb u v
halves2 u v true true e f = sym (eq-eqb u v (let a = eqb-true (u / 2) (v / 2) e in let b = eqb-true (u % 2) (v % 2) f in omega arith))
halves2 u v true false e f = sym (ne_eqb u v (λ q. eqb-false (u % 2) (v % 2) f (ap (λ (n : ℕ). n % 2) q)))
halves2 u v false q e f = sym (ne_eqb u v (λ q. eqb-false (u / 2) (v / 2) e (ap (λ (n : ℕ). n / 2) q)))

halves : (u v : ℕ) → (eqb (u / 2) (v / 2) && eqb (u % 2) (v % 2)) ≡ eqb u v
halves u v = halves2 u v (eqb (u / 2) (v / 2)) (eqb (u % 2) (v % 2)) refl refl

pub regroup : (x p q : Bool) → ((x && p) && q) ≡ (x && (p && q))
regroup true p q = refl
regroup false p q = refl

all_true : (x : Bool) → (x && true) ≡ x
all_true true = refl
all_true false = refl

-- one bit more of a byte
more : (x n : ℕ) → n < 8 → x / 2 ^ (8 - n) ≡ x / 2 ^ (7 - n) / 2
more x n h =
    let e : 8 - n ≡ suc (7 - n) = omega arith in
    rw (e, pow-suc) (sym (div-div-eq-div-mul x (2 ^ (7 - n)) 2))

module _ (a b : List ℕ) (i : ℕ) (ha : get_or a i 0 < 256) (hb : get_or b i 0 < 256) where
  pub byte : (n : ℕ) → n ≤ 8 → agree (8 * i + n) a b ≡ (agree (8 * i) a b && top_equal n (get_or a i 0) (get_or b i 0))
  unfolding agree
  byte zero h =
      let p : get_or a i 0 / 256 ≡ 0 = omega arith in
      let q : get_or b i 0 / 256 ≡ 0 = omega arith in
      rw (add-zero, p, q) (sym (all_true (agree (8 * i) a b)))
  byte (suc n) h =
      let x = get_or a i 0 in
      let y = get_or b i 0 in
      let k : n < 8 = omega arith in
      let d : (8 * i + n) / 8 ≡ i = omega arith in
      let m : (8 * i + n) % 8 ≡ n = omega arith in
      let j : 8 - suc n ≡ 7 - n = omega arith in
      rw (add-suc, d, m, j, byte n (omega arith), more x n k, more y n k, regroup, halves)

  -- eight equal bits more
  pub same_byte : agree (8 * i) a b ≡ true → get_or a i 0 ≡ get_or b i 0 → agree (8 * (i + 1)) a b ≡ true
  same_byte e q =
      let n : 8 * (i + 1) ≡ 8 * i + 8 = omega arith in
      rw (n, byte 8 (omega arith), e, q) (eq-eqb (get_or b i 0 / 2 ^ (8 - 8)) (get_or b i 0 / 2 ^ (8 - 8)) refl)

  differs : agree (8 * i) a b ≡ true → (get_or a i 0 ≡ get_or b i 0 → ⊥) → agree (8 * i + 8) a b ≡ false
  differs e q = rw (byte 8 (omega arith), e, div-one (get_or a i 0), div-one (get_or b i 0)) (ne_eqb _ _ q)

  -- the bits of the last byte decide
  last : (p n : ℕ) → p ≡ 8 * i + n → n ≤ 8 → agree (8 * i) a b ≡ true → top_equal n (get_or a i 0) (get_or b i 0) ≡ agree p a b
  last p n h k e = rw (h, byte n k, e)

stays : (m k : ℕ) (a b : List ℕ) → agree m a b ≡ false → agree (m + k) a b ≡ false
unfolding agree
stays m zero a b e = rw add-zero e
stays m (suc k) a b e = rw (add-suc, stays m k a b e)

pub none : (a b : List ℕ) → agree 0 a b ≡ true
unfolding agree
none a b = refl

-- in the code's words: x and y are the bytes read at i
pub agree-more : (a b : List ℕ) (i x y : ℕ) → x < 256 → y < 256 → x ≡ get_or a i 0 → y ≡ get_or b i 0 → agree (8 * i) a b ≡ true → x ≡ y
    → agree (8 * (i + 1)) a b ≡ true
agree-more a b i x y ha hb ea eb e q = same_byte a b i (omega arith) (omega arith) e (cc)

pub agree-not : (a b : List ℕ) (i p x y : ℕ) → x < 256 → y < 256 → x ≡ get_or a i 0 → y ≡ get_or b i 0 → agree (8 * i) a b ≡ true → (x ≡ y → ⊥)
    → 8 * i + 8 ≤ p → false ≡ agree p a b
agree-not a b i p x y ha hb ea eb e q h =
    let n : p ≡ 8 * i + 8 + (p - (8 * i + 8)) = omega arith in
    rw n (sym (stays (8 * i + 8) (p - (8 * i + 8)) a b (differs a b i (omega arith) (omega arith) e (λ z. q (ea ∙ z ∙ sym eb)))))

pub agree-last : (a b : List ℕ) (i w p n x y : ℕ) → x < 256 → y < 256 → x ≡ get_or a w 0 → y ≡ get_or b w 0 → i ≡ w → p ≡ 8 * w + n → n ≤ 8
    → agree (8 * i) a b ≡ true → top_equal n x y ≡ agree p a b
agree-last a b i w p n x y ha hb ea eb q h k e =
    (λ j. top_equal n (ea j) (eb j)) ∙ last a b w (omega arith) (omega arith) p n h k (rw q at e)

-- two strings with a byte more
same_push : (p q : List ℕ) (x y : ℕ) → length p ≡ length q → same_bytes (p ++ (x ∷ [])) (q ++ (y ∷ [])) ≡ (same_bytes p q && eqb x y)
unfolding same_bytes
same_push [] [] x y l = all_true (eqb x y)
same_push [] (v ∷ q) x y l = absurd (omega arith)
same_push (u ∷ p) [] x y l = absurd (omega arith)
same_push (u ∷ p) (v ∷ q) x y l = rw (same_push p q x y (omega arith)) (sym (regroup (eqb u v) (same_bytes p q) (eqb x y)))

-- the first n bytes decide the first 8 * n bits
front : (a b : List ℕ) (n : ℕ) → Octets a → Octets b → n ≤ length a → n ≤ length b → agree (8 * n) a b ≡ same_bytes (take n a) (take n b)
unfolding agree same_bytes
front a b zero o q h k = refl
front a b (suc n) o q h k =
    let m : 8 * suc n ≡ 8 * n + 8 = omega arith in
    let x = get_or a n 0 in
    let y = get_or b n 0 in
    let f = ap (λ (j : ℕ). take j a) (sym (add-one n)) ∙ take_more a n 0 (omega arith) in
    let g = ap (λ (j : ℕ). take j b) (sym (add-one n)) ∙ take_more b n 0 (omega arith) in
    let l : length (take n a) ≡ length (take n b) = omega (arith, length-take n a, length-take n b) in
    rw (m, byte a b n (o n) (q n) 8 (omega arith), div-one x, div-one y, front a b n o q (omega arith) (omega arith), f, g)
    (sym (same_push (take n a) (take n b) x y l))

-- r says so of as many bytes as both have, w at most
pub front_is : (a b : List ℕ) (w m n : ℕ) (r z : Bool) → Octets a → Octets b → m ≡ min w (length a) → n ≡ min m (length b)
    → r ≡ same_bytes (take n a) (take n b) → r ≡ z → agree (8 * n) a b ≡ z
front_is a b w m n r z o q e f g h = front a b n o q (omega arith) (omega arith) ∙ sym g ∙ h

-- bytes at the front that differ decide
pub agree-front : (a b : List ℕ) (n p : ℕ) → agree (8 * n) a b ≡ false → 8 * n ≤ p → false ≡ agree p a b
agree-front a b n p e h =
    let k : p ≡ 8 * n + (p - 8 * n) = omega arith in
    rw k (sym (stays (8 * n) (p - 8 * n) a b e))

-- a byte that differs decides, whatever stands before it
pub agree-unlike : (a b : List ℕ) (i p x y : ℕ) → x < 256 → y < 256 → x ≡ get_or a i 0 → y ≡ get_or b i 0 → (x ≡ y → ⊥) → 8 * i + 8 ≤ p
    → false ≡ agree p a b
agree-unlike a b i p x y ha hb ea eb q h = go (agree (8 * i) a b) refl
  where
    go : (t : Bool) → agree (8 * i) a b ≡ t → false ≡ agree p a b
    go true e = agree-not a b i p x y ha hb ea eb e q h
    go false e = agree-front a b i p e (omega arith)

-- a mask of the low bits
pub one_shl : (k : ℕ) → k ≤ 8 → (1 * 2 ^ k) % 2 ^ 64 ≡ 2 ^ k
one_shl k h = shl_exact 1 k 64 (omega arith) (omega arith) ∙ one-mul (2 ^ k)

pub clear_is : (x k : ℕ) → k ≤ 8 → eqb (bit_and x ((1 * 2 ^ k) % 2 ^ 64 - 1)) 0 ≡ eqb (x % 2 ^ k) 0
clear_is x k h =
    ap (λ (m : ℕ). eqb (bit_and x (m - 1)) 0) (one_shl k h) ∙ ap (λ (m : ℕ). eqb m 0) (and_mask x k)

-- the low k + 1 bits are zero where the last is and the k above it are
low2 : (u k : ℕ) (p q : Bool) → eqb (u / 2 % 2 ^ k) 0 ≡ p → eqb (u % 2) 0 ≡ q → (p && q) ≡ eqb (u % 2 ^ (k + 1)) 0
low2 u k true true e f =
    sym (eq-eqb _ _ (mod-pow-add u k 1 ∙ (let a = eqb-true (u / 2 % 2 ^ k) 0 e in let b = eqb-true (u % 2) 0 f in omega arith)))
low2 u k true false e f = sym (ne_eqb _ _ (λ (q : u % 2 ^ (k + 1) ≡ 0). eqb-false (u % 2) 0 f (let m = mod-pow-add u k 1 in omega arith)))
low2 u k false b e f = sym (ne_eqb _ _ (λ (q : u % 2 ^ (k + 1) ≡ 0). eqb-false (u / 2 % 2 ^ k) 0 e (let m = mod-pow-add u k 1 in omega arith)))

lows : (u k : ℕ) → (eqb (u / 2 % 2 ^ k) 0 && eqb (u % 2) 0) ≡ eqb (u % 2 ^ (k + 1)) 0
lows u k = low2 u k (eqb (u / 2 % 2 ^ k) 0) (eqb (u % 2) 0) refl refl

module _ (s : List ℕ) (p i n : ℕ) (h : get_or s i 0 < 256) where
  -- the byte's bits that the prefix keeps say nothing
  first : (m : ℕ) → m ≤ p - 8 * i → clear_to p (8 * i + m) s ≡ clear_to p (8 * i) s
  unfolding clear_to
  first zero k = rw add-zero
  first (suc m) k = rw (add-suc, first m (omega arith), lt-ltb (8 * i + m) p (omega arith)) (all_true (clear_to p (8 * i) s))

  -- and the others, one after another
  rest : (m j : ℕ) → m ≡ n + j → m ≤ 8 → p ≤ 8 * i + n → clear_to p (8 * i + n) s ≡ clear_to p (8 * i) s
      → clear_to p (8 * i + m) s ≡ (clear_to p (8 * i) s && eqb (get_or s i 0 / 2 ^ (8 - m) % 2 ^ j) 0)
  unfolding clear_to
  rest m zero e k l f = rw (e, add-zero, f, mod-one) (sym (all_true (clear_to p (8 * i) s)))
  rest m (suc j) e k l f =
      let d : (8 * i + (n + j)) / 8 ≡ i = omega arith in
      let t : (8 * i + (n + j)) % 8 ≡ n + j = omega arith in
      let w : 8 - suc (n + j) ≡ 7 - (n + j) = omega arith in
      rw (e, add-suc, add-suc, d, t, w, rest (n + j) j refl (omega arith) l f, le-ltb (8 * i + (n + j)) p (omega arith), more (get_or s i 0) (n + j) (omega arith), regroup, lows, add-one)

-- a whole byte, of which the prefix keeps the first n bits
clear-byte : (s : List ℕ) (p i n : ℕ) → get_or s i 0 < 256 → n ≡ min (p - 8 * i) 8
    → clear_to p (8 * (i + 1)) s ≡ (clear_to p (8 * i) s && low_clear n (get_or s i 0))
clear-byte s p i n h e = go (ltb (p - 8 * i) 8) refl where
  eight : 8 * (i + 1) ≡ 8 * i + 8
  eight = omega arith

  go : (b : Bool) → ltb (p - 8 * i) 8 ≡ b → clear_to p (8 * (i + 1)) s ≡ (clear_to p (8 * i) s && low_clear n (get_or s i 0))
  go true t =
      let k = ltb-true (p - 8 * i) 8 t in
      let q : n ≡ p - 8 * i = omega arith in
      rw (eight, q, rest s p i (p - 8 * i) h 8 (8 - (p - 8 * i)) (omega arith) (omega arith) (omega arith) (first s p i (p - 8 * i) h (p - 8 * i) (omega arith)), div-one)
  go false t =
      let k = ltb-false (p - 8 * i) 8 t in
      let q : n ≡ 8 = omega arith in
      rw (eight, q, first s p i 8 h 8 (omega arith), mod-one) (sym (all_true (clear_to p (8 * i) s)))

-- a turn of the loop: n is what the prefix keeps of the byte, r what its test says
pub clear-turn : (s : List ℕ) (p i l n : ℕ) (r b : Bool) → get_or s i 0 < 256 → l ≡ p - 8 * i → n ≡ min l 8 → r ≡ low_clear n (get_or s i 0) → r ≡ b
    → clear_to p (8 * i) s ≡ true → clear_to p (8 * (i + 1)) s ≡ b
clear-turn s p i l n r b h e f g q t = clear-byte s p i n h (rw e at f) ∙ rw t (sym g ∙ q)

clear_stays : (s : List ℕ) (p m k : ℕ) → clear_to p m s ≡ false → clear_to p (m + k) s ≡ false
unfolding clear_to
clear_stays s p m zero e = rw add-zero e
clear_stays s p m (suc k) e = rw (add-suc, clear_stays s p m k e)

pub clear-not : (s : List ℕ) (p i : ℕ) → i < length s → clear_to p (8 * (i + 1)) s ≡ false → false ≡ clear_past_of p s
clear-not s p i h e =
    let t : 8 * length s ≡ 8 * (i + 1) + (8 * length s - 8 * (i + 1)) = omega arith in
    rw t (sym (clear_stays s p (8 * (i + 1)) (8 * length s - 8 * (i + 1)) e))

pub clear_none : (p : ℕ) (s : List ℕ) → clear_to p 0 s ≡ true
unfolding clear_to
clear_none p s = refl
