-- The hashes by their algorithm, as the code of src/hash_algorithm.rt comes to them: what it does in the arm of one, in the room of the
-- longest, is what the algorithm's parts say. Assumes nothing.
use Rattle.std.proofs.Common.{◌≡◌, ℕ, List, length, take, sym, ap, ◌∙◌, subst, arith, take_all}
use Rattle.mac.specs.Blocks.{chained}
use Rattle.mac.specs.Hmac.{filled}
use Rattle.mac.specs.HashContexts.{parts_of, words_of, digest_bytes_of, digest_room}
use Rattle.mac.specs.declared.hash_algorithm.HashAlgorithm.{HashAlgorithm}

-- all eight, which SHA-256 uses
pub all-eight : (h : List ℕ) → length h ≡ 8 → take 8 h ≡ h
all-eight h l = take_all 8 h (omega arith)

-- What each part is, of an algorithm.
abbrev pub Digested : HashAlgorithm → List ℕ → List ℕ → Type 0
Digested a h r = r ≡ filled digest_room ((parts_of a).digest (take (words_of a) h))

abbrev pub Initial : HashAlgorithm → List ℕ → Type 0
Initial a r = take (words_of a) r ≡ (parts_of a).initial

abbrev pub Suffix : HashAlgorithm → ℕ → List ℕ → Type 0
Suffix a n r = r ≡ (parts_of a).suffix n

abbrev pub Chained : HashAlgorithm → List ℕ → ℕ → List ℕ → List ℕ → Type 0
Chained a h n d r = take (words_of a) r ≡ chained (parts_of a) (take (words_of a) h) n d

-- In the arm of the algorithm b.
module _ (a b : HashAlgorithm) (is : a ≡ b) where
  pub bytes-in : digest_bytes_of b ≡ digest_bytes_of a
  bytes-in = ap digest_bytes_of (sym is)

  pub initial-in : (i r : List ℕ) → i ≡ (parts_of b).initial → take (words_of b) r ≡ i → Initial a r
  initial-in i r ei er = subst (λ (z : HashAlgorithm). Initial z r) (sym is) (er ∙ ei)

  pub chained-in : (h d x y r : List ℕ) (n : ℕ) → x ≡ take (words_of b) h → y ≡ chained (parts_of b) x n d → take (words_of b) r ≡ y
      → Chained a h n d r
  chained-in h d x y r n ex ey er =
      subst (λ (z : HashAlgorithm). Chained z h n d r) (sym is) (er ∙ ey ∙ ap (λ (c : List ℕ). chained (parts_of b) c n d) ex)

  pub suffix-in : (n : ℕ) (r : List ℕ) → r ≡ (parts_of b).suffix n → Suffix a n r
  suffix-in n r e = subst (λ (z : HashAlgorithm). Suffix z n r) (sym is) e

  pub digested-in : (h x d r : List ℕ) → x ≡ take (words_of b) h → d ≡ (parts_of b).digest x → r ≡ filled digest_room d → Digested a h r
  digested-in h x d r ex ed er =
      subst (λ (z : HashAlgorithm). Digested z h r) (sym is) (er ∙ ap (filled digest_room) (ed ∙ ap (parts_of b).digest ex))
