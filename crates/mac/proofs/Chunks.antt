-- The blocks of k bytes of a string, as `as_chunks` lends them. Assumes nothing.
use Rattle.std.proofs.Common.{◌≡◌, ℕ, zero, suc, ◌+◌, ◌*◌, ◌<◌, List, [], length, get_or, take, drop, sym, refl, ap, ◌∙◌, arith, add_comm, mul-suc, drop-drop, length-take}
use Rattle.std.proofs.lemmas.List.{get_or-take}
use Rattle.std.specs.Simd.{first_chunks}

length-first_chunks : (k n : ℕ) (s : List ℕ) → length (first_chunks k n s) ≡ n
length-first_chunks k zero s = refl
length-first_chunks k (suc n) s = ap suc (length-first_chunks k n (drop k s))

-- the blocks of k bytes of a string
pub chunk-at : (k n i : ℕ) (s : List ℕ) → i < n → get_or (first_chunks k n s) i [] ≡ take k (drop (k * i) s)
chunk-at k zero i s h = absurd (omega arith)
chunk-at k (suc n) zero s h = let z : k * 0 ≡ 0 = omega arith in rw z refl
chunk-at k (suc n) (suc i) s h =
    let e : k + k * i ≡ k * suc i = add_comm k (k * i) ∙ sym (mul-suc k i) in
    chunk-at k n i (drop k s) (omega arith) ∙ ap (take k) (drop-drop (k * i) k s ∙ ap (λ (a : ℕ). drop a s) e)

-- the same of the first n of them
pub chunk-in : (k n m j : ℕ) (s : List ℕ) {l : List (List ℕ)} → l ≡ first_chunks k m s → j < length (take n l)
    → get_or (take n l) j [] ≡ take k (drop (k * j) s)
chunk-in k n m j s {l} e h =
    let t = length-take n l in
    let c : length l ≡ m = ap length e ∙ length-first_chunks k m s in
    get_or-take n l j [] (omega (arith, t)) ∙ ap (λ (c : List (List ℕ)). get_or c j []) e ∙ chunk-at k m j s (omega (arith, t, c))

-- and of all of them
pub chunk-is : (k m j : ℕ) (s : List ℕ) {l : List (List ℕ)} → l ≡ first_chunks k m s → j < length l → get_or l j [] ≡ take k (drop (k * j) s)
chunk-is k m j s {l} e h =
    let c : length l ≡ m = ap length e ∙ length-first_chunks k m s in
    ap (λ (c : List (List ℕ)). get_or c j []) e ∙ chunk-at k m j s (omega (arith, c))
