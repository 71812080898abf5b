-- Words are equal exactly if their bytes are: what `prefix::hosts_agree` needs.
-- Assumes of a byte that it is below 256.
use Rattle.std.specs.Prelude.{ℕ, ◌+◌, ◌*◌, ◌/◌, ◌%◌, ◌^◌, ◌<◌, Bool, true, false, ◌&&◌, ◌≡◌, refl, List, get_or, eqb}
use Rattle.std.proofs.Common.{ap, sym, ◌∙◌, arith, ne_eqb, eq-eqb, eqb-true}
use Rattle.std.proofs.lemmas.Bool.{eqb-false}
use Rattle.std.proofs.lemmas.Nat.{div-mul-add, mod-mul-add}
use Rattle.std.proofs.Math.Nat.{div-one}
use Rattle.octets.specs.Octets.{be32, get32, get64}
use Rattle.octets.specs.Each.{Octets}
use Rattle.wire.specs.Prefix.{agree}
use Rattle.wire.proofs.Bits.{byte, none, regroup}

-- two numbers of one low part below m and a high part
parts : (m x y u v : ℕ) → y < m → v < m → eqb (x * m + y) (u * m + v) ≡ (eqb x u && eqb y v)
parts m x y u v h k = go (eqb x u) (eqb y v) refl refl where
  go : (p q : Bool) → eqb x u ≡ p → eqb y v ≡ q → eqb (x * m + y) (u * m + v) ≡ (p && q)
  go true true e f = rw (eqb-true x u e, eqb-true y v f) (eq-eqb (u * m + v) (u * m + v) refl)
  go true false e f = ne_eqb _ _ (λ s. eqb-false y v f (sym (mod-mul-add x m y h) ∙ ap (λ (n : ℕ). n % m) s ∙ mod-mul-add u m v k))
  go false q e f = ne_eqb _ _ (λ s. eqb-false x u e (sym (div-mul-add x m y h) ∙ ap (λ (n : ℕ). n / m) s ∙ div-mul-add u m v k))

-- a word's bytes, one behind another
four : (a b c d w x y z : ℕ) → b < 256 → c < 256 → d < 256 → x < 256 → y < 256 → z < 256
    → (((eqb a w && eqb b x) && eqb c y) && eqb d z) ≡ eqb (be32 a b c d) (be32 w x y z)
four a b c d w x y z hb hc hd hx hy hz =
    let m : be32 a b c d ≡ ((a * 256 + b) * 256 + c) * 256 + d = omega arith in
    let n : be32 w x y z ≡ ((w * 256 + x) * 256 + y) * 256 + z = omega arith in
    let last = parts 256 ((a * 256 + b) * 256 + c) d ((w * 256 + x) * 256 + y) z hd hz in
    let third = parts 256 (a * 256 + b) c (w * 256 + x) y hc hy in
    rw (m, n, last, third, parts 256 a b w x hb hx) refl

module _ (a b : List ℕ) (o : Octets a) (q : Octets b) where
  -- the bits of one byte more
  next : (i : ℕ) → agree (8 * i + 8) a b ≡ (agree (8 * i) a b && eqb (get_or a i 0) (get_or b i 0))
  next i = rw (byte a b i (o i) (q i) 8 (omega arith), div-one (get_or a i 0), div-one (get_or b i 0)) refl

  -- of four more
  word : (i : ℕ) → agree (8 * i + 32) a b ≡ (agree (8 * i) a b && eqb (get32 a i) (get32 b i))
  word i =
      let e1 : 8 * i + 8 ≡ 8 * (i + 1) = omega arith in
      let e2 : 8 * (i + 1) + 8 ≡ 8 * (i + 2) = omega arith in
      let e3 : 8 * (i + 2) + 8 ≡ 8 * (i + 3) = omega arith in
      let e4 : 8 * i + 32 ≡ 8 * (i + 3) + 8 = omega arith in
      rw (e4, next (i + 3), ← e3, next (i + 2), ← e2, next (i + 1), ← e1, next i)
      (grouped (agree (8 * i) a b) _ _ _ _
      ∙ ap (λ (t : Bool). agree (8 * i) a b && t)
      (four _ _ _ _ _ _ _ _ (o (i + 1)) (o (i + 2)) (o (i + 3)) (q (i + 1)) (q (i + 2)) (q (i + 3))))
    where
      grouped : (g r s t u : Bool) → ((((g && r) && s) && t) && u) ≡ (g && (((r && s) && t) && u))
      grouped true r s t u = refl
      grouped false r s t u = refl

  -- of eight more
  long : (i : ℕ) → agree (8 * i + 64) a b ≡ (agree (8 * i) a b && eqb (get64 a i) (get64 b i))
  long i =
      let e1 : 8 * i + 32 ≡ 8 * (i + 4) = omega arith in
      let e2 : 8 * i + 64 ≡ 8 * (i + 4) + 32 = omega arith in
      let h : get32 a (i + 4) < 2 ^ 32 = omega (arith, o (i + 4), o (i + 4 + 1), o (i + 4 + 2), o (i + 4 + 3)) in
      let k : get32 b (i + 4) < 2 ^ 32 = omega (arith, q (i + 4), q (i + 4 + 1), q (i + 4 + 2), q (i + 4 + 3)) in
      rw (e2, word (i + 4), ← e1, word i)
      (regroup (agree (8 * i) a b) _ _
      ∙ ap (λ (t : Bool). agree (8 * i) a b && t)
      (sym (parts (2 ^ 32) (get32 a i) (get32 a (i + 4)) (get32 b i) (get32 b (i + 4)) h k)))

-- both words decide all 128 bits. In the code's words: x and y are the first words, u and v the second ones.
module _ (a b : List ℕ) (o : Octets a) (q : Octets b) where
  words : agree 128 a b ≡ (eqb (get64 a 0) (get64 b 0) && eqb (get64 a 8) (get64 b 8))
  words =
      long a b o q 8
      ∙ ap (λ (t : Bool). t && eqb (get64 a 8) (get64 b 8))
      (long a b o q 0 ∙ ap (λ (t : Bool). t && eqb (get64 a 0) (get64 b 0)) (none a b))

  pub agree-second : (x y u v : ℕ) → x ≡ get64 a 0 → y ≡ get64 b 0 → u ≡ get64 a 8 → v ≡ get64 b 8 → x ≡ y → eqb u v ≡ agree 128 a b
  agree-second x y u v e f g h r =
      sym (words ∙ rw (← g, ← h, ← e, ← f, r) (ap (λ (t : Bool). t && eqb u v) (eq-eqb y y refl)))

  pub agree-first : (x y : ℕ) → x ≡ get64 a 0 → y ≡ get64 b 0 → (x ≡ y → ⊥) → eqb x y ≡ agree 128 a b
  agree-first x y e f r =
      ne_eqb x y r
      ∙ sym (words ∙ rw (← e, ← f) (ap (λ (t : Bool). t && eqb (get64 a 8) (get64 b 8)) (ne_eqb x y r)))
