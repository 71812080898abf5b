-- How long a record is, and what is wrong with it, by its kind.
use Rattle.std.proofs.Common.{◌≡◌, ℕ, ◌+◌, ◌%◌, ◌<◌, ◌≤◌, Bool, true, false, cond, not, ◌&&◌, ◌||◌, eqb, ltb, List, length, get_or, sym, refl, ap, ◌∙◌, mod-lt, arith, ltb-false, eq-eqb, ne_eqb, eqb-true}
use borrow.Author.Tests.{eqb-false}
use Rattle.octets.specs.Octets.{be16}
use Rattle.recording.specs.Recording.{kind_of, record_bytes_of, entry_length, used_length, placed, faulty}

pub bytes-1 : (k : ℕ) → k ≡ 1 → record_bytes_of k ≡ 131
unfolding record_bytes_of
bytes-1 k e = rw (eq-eqb k 1 e)

pub bytes_2 : (k : ℕ) → (k ≡ 1 → ⊥) → k ≡ 2 → record_bytes_of k ≡ 48
unfolding record_bytes_of
bytes_2 k n e = rw (ne_eqb k 1 n, eq-eqb k 2 e)

pub bytes-3 : (k : ℕ) → (k ≡ 1 → ⊥) → (k ≡ 2 → ⊥) → record_bytes_of k ≡ 1601
unfolding record_bytes_of
bytes-3 k n m = rw (ne_eqb k 1 n, ne_eqb k 2 m)

pub bytes-range : (k : ℕ) → (48 ≤ record_bytes_of k) × (record_bytes_of k ≤ 1601)
bytes-range k = go (eqb k 1) (eqb k 2) refl refl
  where
    go : (a b : Bool) → eqb k 1 ≡ a → eqb k 2 ≡ b → (48 ≤ record_bytes_of k) × (record_bytes_of k ≤ 1601)
    go true b p q = let e = bytes-1 k (eqb-true k 1 p) in (omega arith, omega arith)
    go false true p q = let e = bytes_2 k (eqb-false k 1 p) (eqb-true k 2 q) in (omega arith, omega arith)
    go false false p q = let e = bytes-3 k (eqb-false k 1 p) (eqb-false k 2 q) in (omega arith, omega arith)

-- what is held of a record
pub held-range : (n k b r : ℕ) → b ≡ record_bytes_of k → r ≡ n % b → (r ≡ n % record_bytes_of k) × (r < record_bytes_of k) × (r < 1601)
held-range n k b r e q =
    let w = bytes-range k in
    let p : r ≡ n % record_bytes_of k = q ∙ ap (λ (m : ℕ). n % m) e in
    let l : n % record_bytes_of k < record_bytes_of k = mod-lt n (omega arith) in
    (p, omega arith, omega arith)

-- faults

module _ (stage : ℕ) (r : List ℕ) (k : ℕ) (p : Bool) (ke : k ≡ get_or r 0 0) (pe : p ≡ placed stage k) where
  pub is-misplaced : not p ≡ true → true ≡ faulty stage r
  unfolding faulty
  is-misplaced h = rw (sym ke, sym pe, h)

  by_kind : not p ≡ false → faulty stage r ≡ cond (eqb k 1) (ltb 129 (entry_length r)) (eqb k 3 && ltb 1598 (used_length r))
  unfolding faulty
  by_kind h = rw (sym ke, sym pe, h)

  pub entry-fault : not p ≡ false → k ≡ 1 → (x : ℕ) → x ≡ get_or r 1 0 → ltb 129 x ≡ faulty stage r
  entry-fault h e x q = ap (ltb 129) q ∙ sym (by_kind h ∙ rw (eq-eqb k 1 e))

  pub segment-fault : not p ≡ false → (k ≡ 1 → ⊥) → k ≡ 3 → (a b x : ℕ) → a ≡ get_or r 1 0 → b ≡ get_or r 2 0 → x ≡ be16 a b → ltb 1598 x ≡ faulty stage r
  segment-fault h n e a b x qa qb q =
      ap (ltb 1598) (q ∙ (λ i. be16 (qa i) (qb i))) ∙ sym (by_kind h ∙ rw (ne_eqb k 1 n, eq-eqb k 3 e))

  pub no-fault : not p ≡ false → (k ≡ 1 → ⊥) → (k ≡ 3 → ⊥) → false ≡ faulty stage r
  no-fault h n m = sym (by_kind h ∙ rw (ne_eqb k 1 n, ne_eqb k 3 m))

-- a record that is whole and has no fault

or-false : (a b : Bool) → (a || b) ≡ false → (a ≡ false) × (b ≡ false)
or-false true b h = let z : ◌≡◌ {A = ℕ} 0 1 = cc h in absurd (omega arith)
or-false false b h = (refl, h)

module _ (stage : ℕ) (r : List ℕ) (f : faulty stage r ≡ false) (l : length r ≡ record_bytes_of (kind_of r)) where
  pub first-there : 0 < length r
  first-there = let w = bytes-range (kind_of r) in omega arith

  parts : (not (placed stage (kind_of r)) ≡ false) × (cond (eqb (kind_of r) 1) (ltb 129 (entry_length r)) (eqb (kind_of r) 3 && ltb 1598 (used_length r)) ≡ false)
  unfolding faulty
  parts = or-false _ _ f

  pub entry-fits : get_or r 0 0 ≡ 1 → 2 + entry_length r ≤ length r
  entry-fits e =
      let a : ltb 129 (entry_length r) ≡ false = (rw (eq-eqb (get_or r 0 0) 1 e) at parts).1 in
      let b = ltb-false 129 (entry_length r) a in
      let c = bytes-1 (get_or r 0 0) e in
      omega arith

  pub opening-fits : (get_or r 0 0 ≡ 1 → ⊥) → get_or r 0 0 ≡ 2 → 48 ≤ length r
  opening-fits n e = let c = bytes_2 (get_or r 0 0) n e in omega arith

  -- what is neither an entry nor the opening, and is placed, is a segment
  is-segment : (get_or r 0 0 ≡ 1 → ⊥) → (get_or r 0 0 ≡ 2 → ⊥) → eqb (get_or r 0 0) 3 ≡ true
  is-segment n m = go (eqb stage 0) (eqb stage 1) (eqb (get_or r 0 0) 3) refl refl refl
    where
      go : (a b c : Bool) → eqb stage 0 ≡ a → eqb stage 1 ≡ b → eqb (get_or r 0 0) 3 ≡ c → c ≡ true
      go a b true p q u = refl
      go true b false p q u = let z : ◌≡◌ {A = ℕ} 0 1 = cc (rw (p, ne_eqb (get_or r 0 0) 1 n, ne_eqb (get_or r 0 0) 2 m) at parts).0 in absurd (omega arith)
      go false true false p q u = let z : ◌≡◌ {A = ℕ} 0 1 = cc (rw (p, q, u) at parts).0 in absurd (omega arith)
      go false false false p q u = let z : ◌≡◌ {A = ℕ} 0 1 = cc (rw (p, q) at parts).0 in absurd (omega arith)

  pub segment-fits : (get_or r 0 0 ≡ 1 → ⊥) → (get_or r 0 0 ≡ 2 → ⊥) → 3 + used_length r ≤ length r
  segment-fits n m =
      let a : ltb 1598 (used_length r) ≡ false = (rw (ne_eqb (get_or r 0 0) 1 n, is-segment n m) at parts).1 in
      let b = ltb-false 1598 (used_length r) a in
      let c = bytes-3 (get_or r 0 0) n m in
      omega arith
