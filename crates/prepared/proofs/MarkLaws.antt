-- Laws that the proofs of mark.rt share, and those of stored.rt that put a front together or look at a block of the columns.
use Prim.Native.Nat.{ℕ, suc, ◌+◌, ◌*◌, ◌-◌, ◌%◌, ◌≤◌, ◌<◌}
use mathlib.Core.Bool.{Bool, true, false, cond}
use mathlib.Core.Path.{◌≡◌, refl, sym, ap, ◌∙◌}
use mathlib.Core.List.{List, [], ◌∷◌, ◌++◌, append_assoc, append-nil}
use native.Mathlib.Omega.{arith}
use lib.Dec.{eqb}
use lib.ListN.{length, get_or, take, drop, set, replicate, length-append, length-take, length-drop}
use lib.Seq.{paste, set_at, take_at, take-length, drop-append-add}
use Rattle.std.specs.List.{fold}
use Rattle.octets.specs.Octets.{padded_of}
use Rattle.keys.specs.Entry.{width}
use Rattle.prepared.specs.Prepared.{octet_sum_of, address_of, stored_address_of, clean_family}
use Rattle.prepared.specs.Prepared.{front_at_lem, slot_at}
use Rattle.prepared.proofs.Laws.{drop-zeros, laid}

-- sums

pub sum-fold : (s : List ℕ) (a : ℕ) → a < 256 → fold (λ n x. (n + x) % 256) a s ≡ (a + octet_sum_of s) % 256
sum-fold [] a h = omega arith
sum-fold (x ∷ s) a h = let e = sum-fold s ((a + x) % 256) (omega arith) in omega arith

-- addresses without their last byte

pub width_some : (f : ℕ) → (1 ≤ width f) × (width f ≤ 16)
unfolding width
width_some f = go (eqb f 4)
  where
    go : (b : Bool) → (1 ≤ cond b 4 16) × (cond b 4 16 ≤ 16)
    go true = (omega arith, omega arith)
    go false = (omega arith, omega arith)

module _ (f w : ℕ) (we : w ≡ width f) (a x : List ℕ) where
  front_length : 15 ≤ length a → length (take (w - 1) a) ≡ w - 1
  front_length l = let t = length-take (w - 1) a in let b = width_some f in omega arith

  pub stored_is : 15 ≤ length a → x ≡ padded_of 15 (take (w - 1) a) → x ≡ stored_address_of f a
  stored_is l e =
      let t = front_length l in
      let b = width_some f in
      let z : 15 - length (take (w - 1) a) ≡ 16 - w = omega arith in
      e ∙ ap (λ (m : ℕ). take (w - 1) a ++ replicate m 0) z
      ∙ ap (λ (v : ℕ). take (v - 1) a ++ replicate (16 - v) 0) we

  pub address_is : (m n v : ℕ) → 15 ≤ length a → n ≡ octet_sum_of (take (w - 1) a) % 256 → v ≡ (m + (256 - n)) % 256
      → x ≡ padded_of 16 (take (w - 1) a)
      → set x (w - 1) v ≡ address_of f m a
  unfolding address_of
  address_is m n v l ne ve e =
      let t = front_length l in
      let b = width_some f in
      let z : 16 - length (take (w - 1) a) ≡ suc (16 - w) = omega arith in
      let q : x ≡ take (w - 1) a ++ (0 ∷ replicate (16 - w) 0) =
      e ∙ ap (λ (k : ℕ). take (w - 1) a ++ replicate k 0) z in
      (λ i. set (q i) (w - 1) ((ve ∙ ap (λ (j : ℕ). (m + (256 - j)) % 256) ne) i))
      ∙ set_at (take (w - 1) a) 0 (replicate (16 - w) 0) ((m + (256 - octet_sum_of (take (w - 1) a) % 256)) % 256) (w - 1) t
      ∙ ap (λ (v : ℕ). take (v - 1) a ++ ((m + (256 - octet_sum_of (take (v - 1) a) % 256)) % 256 ∷ replicate (16 - v) 0)) we

-- a front put together

-- s laid behind p, in front of m zeros
laid_on : (p s x y : List ℕ) (m at : ℕ) → length p ≡ at → x ≡ p ++ replicate m 0 → y ≡ paste x at s (length s)
    → y ≡ (p ++ s) ++ replicate (m - length s) 0
laid_on p s x y m at e xe ye =
    ye ∙ ap (λ (l : List ℕ). paste l at s (length s)) xe
    ∙ (λ i. (take_at p (replicate m 0) at e i ++ take-length s i) ++ dropped i)
  where
    dropped : drop (at + length s) (p ++ replicate m 0) ≡ replicate (m - length s) 0
    dropped =
        ap (λ (k : ℕ). drop (k + length s) (p ++ replicate m 0)) (sym e)
        ∙ drop-append-add p (replicate m 0) (length s) ∙ drop-zeros (length s) m

laid-three : (p a q x y z : List ℕ) → length p ≡ 4 → length a ≡ 16 → length q ≡ 8 → x ≡ p ++ replicate 24 0 → y ≡ paste x 4 a (length a)
    → z ≡ paste y 20 q (length q) → z ≡ p ++ (a ++ q)
laid-three p a q x y z lp la lq xe ye ze =
    let l = length-append p a in
    let n : 24 - length a - length q ≡ 0 = omega arith in
    laid_on (p ++ a) q y z (24 - length a) 20 (omega arith) (laid_on p a x y 24 4 lp xe ye) ze
    ∙ ap (λ (k : ℕ). ((p ++ a) ++ q) ++ replicate k 0) n ∙ append-nil ((p ++ a) ++ q) ∙ append_assoc p a q

module _ (t : List ℕ) (n i : ℕ) (s : List ℕ) (se : s ≡ slot_at t n i) (ls : length s ≡ 24) where
  abbrev head_of : List ℕ
  head_of = get_or t (4 + i) 0 ∷ get_or t (4 + n + i) 0 ∷ get_or t (4 + 2 * n + i) 0 ∷ get_or s 0 0 ∷ []

  pub front_by : (g : ℕ) (a x y z : List ℕ) → g ≡ clean_family (get_or s 0 0)
      → a ≡ address_of g (get_or t (4 + 3 * n + i) 0) (take 15 (drop 1 s)) → length a ≡ 16 → x ≡ paste (replicate 28 0) 0 head_of 4
      → y ≡ paste x 4 a (length a) → z ≡ paste y 20 (take 8 (drop 16 s)) (length (take 8 (drop 16 s))) → z ≡ front_at_lem t n i
  unfolding front_at_lem
  front_by g a x y z ge ae la xe ye ze =
      let l = length-take 8 (drop 16 s) in
      let d = length-drop 16 s in
      laid-three head_of a (take 8 (drop 16 s)) x y z refl la (omega arith) (laid 28 head_of x xe) ye ze
      ∙ (λ k.
      (get_or t (4 + i) 0 ∷ get_or t (4 + n + i) 0 ∷ get_or t (4 + 2 * n + i) 0 ∷ get_or (se k) 0 0 ∷ [])
      ++ ((ae ∙ (λ j. address_of ((ge ∙ ap (λ (u : List ℕ). clean_family (get_or u 0 0)) se) j) (get_or t (4 + 3 * n + i) 0) (take 15 (drop 1 (se j))))) k
      ++ take 8 (drop 16 (se k))))

-- a block of the columns: `d` is false only if no entry passed is one

abbrev pub NoneBefore : (ℕ → Bool) → Bool → ℕ → Type 0
NoneBefore test d i = d ≡ false → (j : ℕ) → j < i → test j ≡ false
