-- Laws of the option reader, for what stands above: an option before the rest, padding before the rest, an option alone of its kind.
-- Assumes nothing: any bytes.
use Rattle.std.specs.Prelude.{ℕ, suc, zero, ◌+◌, ◌-◌, ◌≤◌, ◌<◌, List, [], ◌∷◌, ◌++◌, map, Bool, true, false, cond, Some, ◌||◌, ◌≡◌, refl, length, get_or, drop, replicate, ltb, eqb}
use Rattle.std.proofs.Common.{sym, ap, ◌∙◌, length-append, arith, add-zero, le-ltb, ne_eqb, ltb-false}
use Rattle.std.proofs.Math.Seq.{drop-append_seam}
use Rattle.std.proofs.lemmas.Bool.{eqb-false}
use Rattle.octets.specs.Tests.{any}
use Rattle.wire.specs.Options.{TcpOption, Reading, malformed, options, more, least, length_faults_of, read_from, of_kind, occurrence, occurrences, seen, options_of}
use Rattle.wire.specs.declared.options.Occurrence.{Occurrence}
use Rattle.wire.specs.declared.options.Seen.{Seen}

-- to pass over n bytes is to read on behind them
pub read-skip : (n at : ℕ) (s : List ℕ) → n ≤ length s → read_from n at s ≡ read_from 0 (at + n) (drop n s)
unfolding read_from
read-skip zero at s h = rw add-zero
read-skip (suc n) at [] h = absurd (omega arith)
read-skip (suc n) at (x ∷ s) h =
    let e : at + 1 + n ≡ at + suc n = omega arith in
    read-skip n (at + 1) s (omega arith) ∙ ap (λ (k : ℕ). read_from 0 k (drop n s)) e

-- a length that is there, long enough and inside the area is no fault
pub faultless : (k : ℕ) (r : List ℕ) → 0 < length r → least k ≤ get_or r 0 0 → get_or r 0 0 ≤ 1 + length r → any (length_faults_of k r) ≡ false
faultless k r a b c =
    let e : (length r ≡ 0 → ⊥) = λ q. omega arith in
    rw (ne_eqb (length r) 0 e, le-ltb (get_or r 0 0) (least k) b, le-ltb (1 + length r) (get_or r 0 0) c)

pos : (n : ℕ) → (n ≡ 0 → ⊥) → 0 < n
pos zero h = absurd (h refl)
pos (suc n) h = omega arith

-- a length without a fault
pub length_good : (k : ℕ) (r : List ℕ) → any (length_faults_of k r) ≡ false → (0 < length r) × (least k ≤ get_or r 0 0) × (get_or r 0 0 ≤ 1 + length r)
length_good k r e = go (eqb (length r) 0) (ltb (get_or r 0 0) (least k)) (ltb (1 + length r) (get_or r 0 0)) refl refl refl e where
  go : (a b c : Bool) → eqb (length r) 0 ≡ a → ltb (get_or r 0 0) (least k) ≡ b → ltb (1 + length r) (get_or r 0 0) ≡ c → (a || (b || (c || false))) ≡ false
      → (0 < length r) × (least k ≤ get_or r 0 0) × (get_or r 0 0 ≤ 1 + length r)
  go true b c p q r z = let z : ◌≡◌ {A = ℕ} 0 1 = cc in absurd (omega arith)
  go false true c p q r z = let z : ◌≡◌ {A = ℕ} 0 1 = cc in absurd (omega arith)
  go false false true p q r z = let z : ◌≡◌ {A = ℕ} 0 1 = cc in absurd (omega arith)
  go false false false p q t z = (pos (length r) (eqb-false (length r) 0 p), ltb-false _ _ q, ltb-false _ _ t)

-- an option of kind k and n bytes, then the rest
pub read-option : (k n at : ℕ) (body rest : List ℕ) → 2 ≤ k → least k ≤ n → n ≡ 2 + length body
    → read_from 0 at (k ∷ n ∷ (body ++ rest)) ≡ more (record { kind = k; at = at; len = n }) (read_from 0 (at + n) rest)
unfolding read_from
read-option k n at body rest h l e =
    let r = n ∷ (body ++ rest) in
    let z : (k ≡ 0 → ⊥) = λ q. omega arith in
    let o : (k ≡ 1 → ⊥) = λ q. omega arith in
    let t = length-append body rest in
    let f : any (length_faults_of k r) ≡ false = faultless k r (omega arith) l (omega arith) in
    let p : n - 1 ≡ suc (length body) = omega arith in
    let q : at + 1 + (n - 1) ≡ at + n = omega arith in
    let d : read_from (n - 1) (at + 1) r ≡ read_from 0 (at + n) rest =
    read-skip (n - 1) (at + 1) r (omega arith) ∙ (λ i. read_from 0 (q i) (drop (p i) r)) ∙ ap (read_from 0 (at + n)) (drop-append_seam body rest) in
    rw (ne_eqb k 0 z, ne_eqb k 1 o, f, d)

-- padding by kind 1
pub read-pads : (p at : ℕ) (rest : List ℕ) → read_from 0 at (replicate p 1 ++ rest) ≡ read_from 0 (at + p) rest
unfolding read_from
read-pads zero at rest = rw add-zero
read-pads (suc p) at rest =
    let e : at + 1 + p ≡ at + suc p = omega arith in
    read-pads p (at + 1) rest ∙ ap (λ (k : ℕ). read_from 0 k rest) e

-- the same options d places later
abbrev pub later : ℕ → TcpOption → TcpOption
later d o = record { kind = o.kind; at = d + o.at; len = o.len }

abbrev pub shifted : ℕ → Reading → Reading
shifted d malformed = malformed
shifted d (options l) = options (map (later d) l)

shifted-more : (d : ℕ) (o : TcpOption) (x : Reading) → more (later d o) (shifted d x) ≡ shifted d (more o x)
shifted-more d o malformed = refl
shifted-more d o (options l) = refl

-- where bytes stand decides the places alone
pub read-shift : (d n at : ℕ) (s : List ℕ) → read_from n (d + at) s ≡ shifted d (read_from n at s)
unfolding read_from
read-shift d n at [] = refl
read-shift d (suc n) at (k ∷ r) =
    let e : d + at + 1 ≡ d + (at + 1) = omega arith in
    ap (λ (j : ℕ). read_from n j r) e ∙ read-shift d n (at + 1) r
read-shift d zero at (k ∷ r) =
    let e : d + at + 1 ≡ d + (at + 1) = omega arith in
    let next : (n : ℕ) → read_from n (d + at + 1) r ≡ shifted d (read_from n (at + 1) r) = λ n. ap (λ (j : ℕ). read_from n j r) e ∙ read-shift d n (at + 1) r in
    go (eqb k 0) (eqb k 1) (any (length_faults_of k r)) (read_from 0 (at + 1) r) (read_from (get_or r 0 0 - 1) (at + 1) r) (next 0) (next (get_or r 0 0 - 1))
  where
    o : TcpOption
    o = record { kind = k; at = at; len = get_or r 0 0 }

    go : (p q t : Bool) {x y : Reading} (x₀ y₀ : Reading) → x ≡ shifted d x₀ → y ≡ shifted d y₀
        → cond p (options []) (cond q x (cond t malformed (more (later d o) y))) ≡ shifted d (cond p (options []) (cond q x₀ (cond t malformed (more o y₀))))
    go true q t x₀ y₀ e f = refl
    go false true t x₀ y₀ e f = e
    go false false true x₀ y₀ e f = refl
    go false false false x₀ y₀ e f = ap (more (later d o)) f ∙ shifted-more d o y₀

of_kind-later : (k d : ℕ) (l : List TcpOption) → of_kind k (map (later d) l) ≡ map (later d) (of_kind k l)
of_kind-later k d [] = refl
of_kind-later k d (o ∷ l) = go (eqb o.kind k) (of_kind-later k d l) where
  go : (t : Bool) {x : List TcpOption} → x ≡ map (later d) (of_kind k l)
      → cond t (later d o ∷ x) x ≡ map (later d) (cond t (o ∷ of_kind k l) (of_kind k l))
  go true e = ap (λ (x : List TcpOption). later d o ∷ x) e
  go false e = e

-- where none is counted there is none
pub none-counted : (l : List TcpOption) → (occurrence l).count ≡ 0 → l ≡ []
none-counted [] e = refl
none-counted (o ∷ l) e = absurd (omega arith)

-- once or not at all
abbrev pub once : Bool → ℕ → Occurrence
once true n = record { count = 1; at = 0; len = n }
once false n = record { count = 0; at = 0; len = 0 }

once_is : (k j n : ℕ) (l : List TcpOption) → l ≡ [] → occurrence (cond (eqb k j) (record { kind = k; at = 0; len = n } ∷ l) l) ≡ once (eqb k j) n
once_is k j n l e = go (eqb k j) where
  go : (t : Bool) → occurrence (cond t (record { kind = k; at = 0; len = n } ∷ l) l) ≡ once t n
  go true = rw e
  go false = rw e

-- An option of kind k and n bytes, p bytes of padding, and a rest that is well formed without kinds 19 and 29: of the kinds that are
-- reported there is this option alone, at 0, if k is one of them.
pub alone : (k n p : ℕ) (body rest : List ℕ) (e : Seen) → 2 ≤ k → least k ≤ n → n ≡ 2 + length body
    → options_of rest ≡ Some e → e.md5.count ≡ 0 → e.ao.count ≡ 0
    → options_of (k ∷ n ∷ (body ++ (replicate p 1 ++ rest))) ≡ Some (record { md5 = once (eqb k 19) n; ao = once (eqb k 29) n })
unfolding options_of
alone k n p body rest e h l b f m a =
    ap seen (read-option k n 0 body (replicate p 1 ++ rest) h l b ∙ ap (more o) (read-pads p (0 + n) rest ∙ there)) ∙ go (read_from 0 0 rest) f
  where
    o : TcpOption
    o = record { kind = k; at = 0; len = n }

    there : read_from 0 (0 + n + p) rest ≡ shifted (0 + n + p) (read_from 0 0 rest)
    there = ap (λ (j : ℕ). read_from 0 j rest) (sym (add-zero (0 + n + p))) ∙ read-shift (0 + n + p) 0 0 rest

    go : (x : Reading) → seen x ≡ Some e → seen (more o (shifted (0 + n + p) x)) ≡ Some (record { md5 = once (eqb k 19) n; ao = once (eqb k 29) n })
    go malformed q = let z : ◌≡◌ {A = ℕ} 0 1 = cc in absurd (omega arith)
    go (options x) q =
        let u : record { md5 = occurrences 19 x; ao = occurrences 29 x } ≡ e = cc in
        let v : (j : ℕ) → (occurrences j x).count ≡ 0 → of_kind j (map (later (0 + n + p)) x) ≡ [] =
        λ j r. of_kind-later j (0 + n + p) x ∙ ap (map (later (0 + n + p))) (none-counted (of_kind j x) r) in
        λ i. Some (record {
          md5 = once_is k 19 n _ (v 19 (ap (λ (y : Seen). y.md5.count) u ∙ m)) i;
          ao = once_is k 29 n _ (v 29 (ap (λ (y : Seen). y.ao.count) u ∙ a)) i;
        })

-- in particular TCP-AO
pub ao-alone : (n p : ℕ) (body rest : List ℕ) (e : Seen) → 4 ≤ n → n ≡ 2 + length body → options_of rest ≡ Some e → e.md5.count ≡ 0 → e.ao.count ≡ 0
    → options_of (29 ∷ n ∷ (body ++ (replicate p 1 ++ rest)))
    ≡ Some (record { md5 = record { count = 0; at = 0; len = 0 }; ao = record { count = 1; at = 0; len = n } })
ao-alone n p body rest e l b f m a = alone 29 n p body rest e (omega arith) l b f m a
