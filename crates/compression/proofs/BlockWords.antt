-- The words of a block, as a loop writes them: w's first t are those of the block m, where `word m i` is the word in its bytes from i on.
-- Assumes nothing.
use Rattle.std.proofs.Common.{◌≡◌, ℕ, ◌+◌, ◌*◌, ◌<◌, ◌≤◌, List, length, take, set, sym, refl, ◌∙◌, add-one, arith, length-set, take_all, take-suc-set}
use Rattle.compression.specs.Words.{words_by}

module _ (word : List ℕ → ℕ → ℕ) where
  abbrev pub Loaded : List ℕ → List ℕ → ℕ → Type 0
  Loaded m w t = (t ≤ 16) × (length w ≡ 16) × (take t w ≡ words_by word t m)

  pub loaded-none : (m w : List ℕ) → length w ≡ 16 → Loaded m w 0
  unfolding words_by
  loaded-none m w l = (omega arith, l, refl)

  next : (m w : List ℕ) (t v : ℕ) → t < length w → take t w ≡ words_by word t m → v ≡ word m (4 * t)
      → take (t + 1) (set w t v) ≡ words_by word (t + 1) m
  unfolding words_by
  next m w t v h e ev = rw (add-one, take-suc-set) (cc)

  pub loaded-more : (m w : List ℕ) (t v : ℕ) → t < 16 → Loaded m w t → v ≡ word m (4 * t) → Loaded m (set w t v) (t + 1)
  loaded-more m w t v h p e = (omega arith, length-set w t v ∙ p.1, next m w t v (omega (arith, p.1)) p.2 e)

  pub loaded-all : (m w : List ℕ) (t : ℕ) → 16 ≤ t → Loaded m w t → w ≡ words_by word 16 m
  loaded-all m w t h p =
      let q : t ≡ 16 = omega (arith, p.0) in
      sym (take_all 16 w (omega (arith, p.1))) ∙ (rw q at p.2)
