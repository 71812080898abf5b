-- A message schedule kept in sixteen words: FIPS 180-4 §6.1.3. Each word behind the first sixteen is mixed of four of the sixteen before it.
-- Over any such rule for the next word: SHA-1's and SHA-256's. Assumes nothing.
use Rattle.std.proofs.Common.{◌≡◌, ℕ, zero, suc, ◌+◌, ◌-◌, ◌%◌, ◌<◌, ◌≤◌, Bool, true, false, ltb, List, [], ◌∷◌, ◌++◌, length, get_or, drop, set, sym, refl, ap, ◌∙◌, ap₂, append_assoc, append-nil, arith, length-append, length-drop, get_or-drop, drop-cons, drop-drop, get_or-append-add, ltb-false, ltb-true}
use lib.ListN.{get_or-append}
use lib.Seq.{drop-append-le, set_at, drop-length}
use Rattle.compression.specs.Schedule.{extended, following, ring}

-- How the next word is mixed: of the words a, b, c and sixteen places before it.
pub record Mix : Type 0 where
  pub mix : ℕ → ℕ → ℕ → ℕ → ℕ
  pub a : ℕ
  pub b : ℕ
  pub c : ℕ
  pub a-near : (0 < a) × (a ≤ 16)
  pub b-near : (0 < b) × (b ≤ 16)
  pub c-near : (0 < c) × (c ≤ 16)

abbrev pub next_by : Mix → List ℕ → ℕ → ℕ
next_by S W t = S.mix (get_or W (t - S.a) 0) (get_or W (t - S.b) 0) (get_or W (t - S.c) 0) (get_or W (t - 16) 0)

none : (next : List ℕ → ℕ → ℕ) (W : List ℕ) → extended next 0 W ≡ W
unfolding extended
none next W = refl

more : (next : List ℕ → ℕ → ℕ) (n : ℕ) (W : List ℕ) → extended next (suc n) W ≡ extended next n W ++ (next (extended next n W) (16 + n) ∷ [])
unfolding extended
more next n W = refl

module _ (next : List ℕ → ℕ → ℕ) where
  length-extended : (n : ℕ) (W : List ℕ) → length (extended next n W) ≡ length W + n
  length-extended zero W = ap length (none next W) ∙ omega arith
  length-extended (suc n) W =
      ap length (more next n W) ∙ length-append (extended next n W) _ ∙ omega (arith, length-extended n W)

  -- the words that were there stay
  first : (n j : ℕ) (W : List ℕ) → j < length W → get_or (extended next n W) j 0 ≡ get_or W j 0
  first zero j W h = ap (λ (l : List ℕ). get_or l j 0) (none next W)
  first (suc n) j W h =
      ap (λ (l : List ℕ). get_or l j 0) (more next n W)
      ∙ get_or-append (extended next n W) _ 0 j (omega (arith, length-extended n W))
      ∙ first n j W h

  length-new : (i : ℕ) (W : List ℕ) → length W ≡ 16 → length (drop 16 (extended next i W)) ≡ i
  length-new i W h = length-drop 16 (extended next i W) ∙ omega (arith, length-extended i W)

  -- what stands in the place (i + k) % 16 is word i + k
  ring-at : (i k : ℕ) (W : List ℕ) → length W ≡ 16 → i < 16 → k < 16
      → get_or (ring next i W) ((i + k) % 16) 0 ≡ get_or (extended next i W) (i + k) 0
  ring-at i k W h l m = go (ltb (i + k) 16) refl
    where
      go : (b : Bool) → ltb (i + k) 16 ≡ b → get_or (ring next i W) ((i + k) % 16) 0 ≡ get_or (extended next i W) (i + k) 0
      go true e =
          let u = ltb-true (i + k) 16 e in
          let z : (i + k) % 16 ≡ length (drop 16 (extended next i W)) + k = omega (arith, length-new i W h) in
          ap (λ (n : ℕ). get_or (ring next i W) n 0) z
          ∙ get_or-append-add (drop 16 (extended next i W)) (drop i W) k 0
          ∙ get_or-drop i W k 0
          ∙ sym (first i (i + k) W (omega arith))
      go false e =
          let u = ltb-false (i + k) 16 e in
          let z : (i + k) % 16 ≡ i + k - 16 = omega arith in
          let y : 16 + (i + k - 16) ≡ i + k = omega arith in
          ap (λ (n : ℕ). get_or (ring next i W) n 0) z
          ∙ get_or-append (drop 16 (extended next i W)) (drop i W) 0 (i + k - 16) (omega (arith, length-new i W h))
          ∙ get_or-drop 16 (extended next i W) (i + k - 16) 0
          ∙ ap (λ (n : ℕ). get_or (extended next i W) n 0) y

  -- None of the words that follow is there yet; one more; all sixteen.
  pub ring-none : (W : List ℕ) → length W ≡ 16 → W ≡ ring next 0 W
  ring-none W h =
      let e : drop 16 (extended next 0 W) ≡ [] = ap (drop 16) (none next W) ∙ ap (λ (n : ℕ). drop n W) (sym h) ∙ drop-length W in
      ap (λ (l : List ℕ). l ++ W) (sym e)

  pub ring-more : (i v : ℕ) (W w : List ℕ) → length W ≡ 16 → i < 16
      → w ≡ ring next i W → v ≡ next (extended next i W) (16 + i) → set w i v ≡ ring next (i + 1) W
  ring-more i v W w h l ew ev =
      let E : List ℕ = extended next i W in
      let n : ℕ = next E (16 + i) in
      let s : i + 1 ≡ suc i = omega arith in
      let new : drop 16 (extended next (suc i) W) ≡ drop 16 E ++ (n ∷ [])
      = ap (drop 16) (more next i W) ∙ drop-append-le 16 E (n ∷ []) (omega (arith, length-extended i W)) in
      ap₂ (λ (x : List ℕ) (y : ℕ). set x i y) ew ev
      ∙ ap (λ (z : List ℕ). set (drop 16 E ++ z) i n) (drop-cons W i 0 (omega arith))
      ∙ set_at (drop 16 E) (get_or W i 0) (drop (suc i) W) n i (length-new i W h)
      ∙ sym (ap (λ (z : List ℕ). z ++ drop (suc i) W) new ∙ append_assoc (drop 16 E) (n ∷ []) (drop (suc i) W))
      ∙ ap (λ (k : ℕ). ring next k W) (sym s)

  pub ring-all : (W w : List ℕ) → length W ≡ 16 → w ≡ ring next 16 W → w ≡ following next W
  ring-all W w h e =
      let d : drop 16 W ≡ [] = ap (λ (n : ℕ). drop n W) (sym h) ∙ drop-length W in
      e ∙ ap (λ (l : List ℕ). following next W ++ l) d ∙ append-nil (following next W)

module _ (S : Mix) where
  abbrev pub next : List ℕ → ℕ → ℕ
  next = next_by S

  -- the next word looks no further back than sixteen places
  near : (d n : ℕ) (W : List ℕ) → next (drop d W) (16 + n) ≡ next W (16 + (d + n))
  near d n W =
      let p = back S.a S.a-near.1 in
      let q = back S.b S.b-near.1 in
      let r = back S.c S.c-near.1 in
      let s = back 16 (omega arith) in
      λ i. S.mix (p i) (q i) (r i) (s i)
    where
      back : (k : ℕ) → k ≤ 16 → get_or (drop d W) (16 + n - k) 0 ≡ get_or W (16 + (d + n) - k) 0
      back k h =
          let e : d + (16 + n - k) ≡ 16 + (d + n) - k = omega arith in
          get_or-drop d W (16 + n - k) 0 ∙ ap (λ (m : ℕ). get_or W m 0) e

  -- the words from place a on are the schedule of the sixteen that stand there
  window : (a n : ℕ) (W : List ℕ) → length W ≡ 16 → drop a (extended next (a + n) W) ≡ extended next n (drop a (extended next a W))
  window a zero W h =
      let e : a + 0 ≡ a = omega arith in
      ap (λ (k : ℕ). drop a (extended next k W)) e ∙ sym (none next (drop a (extended next a W)))
  window a (suc n) W h =
      let e : a + suc n ≡ suc (a + n) = omega arith in
      let E : List ℕ = extended next (a + n) W in
      let p : drop a E ≡ extended next n (drop a (extended next a W)) = window a n W h in
      ap (λ (k : ℕ). drop a (extended next k W)) e
      ∙ ap (drop a) (more next (a + n) W)
      ∙ drop-append-le a E _ (omega (arith, length-extended next (a + n) W))
      ∙ ap₂ (λ (x : List ℕ) (y : ℕ). x ++ (y ∷ [])) p (sym (near a n E) ∙ ap (λ (z : List ℕ). next z (16 + n)) p)
      ∙ sym (more next n (drop a (extended next a W)))

  -- the word made in place i, of the ring, is the one sixteen places on
  pub next_in_ring : (i v : ℕ) (W w : List ℕ) → length W ≡ 16 → i < 16 → w ≡ ring next i W
      → v ≡ S.mix (get_or w ((i + (16 - S.a)) % 16) 0) (get_or w ((i + (16 - S.b)) % 16) 0) (get_or w ((i + (16 - S.c)) % 16) 0) (get_or w i 0)
      → v ≡ next (extended next i W) (16 + i)
  next_in_ring i v W w h l e ev =
      let p = back S.a S.a-near in
      let q = back S.b S.b-near in
      let r = back S.c S.c-near in
      ev ∙ (λ j. S.mix (p j) (q j) (r j) (last j))
    where
      at : (k b : ℕ) → k + b ≡ 16 → k < 16 → get_or w ((i + k) % 16) 0 ≡ get_or (extended next i W) (16 + i - b) 0
      at k b s m =
          let p : i + k ≡ 16 + i - b = omega arith in
          ap (λ (z : List ℕ). get_or z ((i + k) % 16) 0) e
          ∙ ring-at next i k W h l m
          ∙ ap (λ (n : ℕ). get_or (extended next i W) n 0) p

      back : (b : ℕ) → (0 < b) × (b ≤ 16) → get_or w ((i + (16 - b)) % 16) 0 ≡ get_or (extended next i W) (16 + i - b) 0
      back b n = at (16 - b) b (omega (arith, n.0, n.1)) (omega (arith, n.0, n.1))

      last : get_or w i 0 ≡ get_or (extended next i W) (16 + i - 16) 0
      last =
          let p : i ≡ (i + 0) % 16 = omega arith in
          ap (λ (n : ℕ). get_or w n 0) p ∙ at 0 16 (omega arith) (omega arith)

  -- The words w are those of the schedule E from place `at` on, and n more stand behind them.
  abbrev pub From : ℕ → ℕ → List ℕ → List ℕ → Type 0
  From at n w E = (length w ≡ 16) × (drop at E ≡ extended next n w)

  pub from_first : (n : ℕ) (W : List ℕ) → length W ≡ 16 → From 0 n W (extended next n W)
  from_first n W h = (h, refl)

  pub from_next : (at n : ℕ) (w v E : List ℕ) → From at (16 + n) w E → v ≡ following next w → From (at + 16) n v E
  from_next at n w v E p e = (
    ap length e ∙ length-new next 16 w p.0,
    sym (drop-drop 16 at E) ∙ ap (drop 16) p.1 ∙ window 16 n w p.0 ∙ ap (extended next n) (sym e),
  )

  pub from_at : (at n i : ℕ) (w E : List ℕ) → From at n w E → i < 16 → get_or E (at + i) 0 ≡ get_or w i 0
  from_at at n i w E p l =
      sym (get_or-drop at E i 0) ∙ ap (λ (z : List ℕ). get_or z i 0) p.1 ∙ first next n i w (omega (arith, p.0))
