-- Where an option that is found lies: inside the area, with its kind and its length there. For what stands above.
-- Assumes nothing: any bytes.
use Rattle.std.specs.Prelude.{ℕ, suc, zero, ◌+◌, ◌-◌, ◌≤◌, ◌<◌, List, [], ◌∷◌, Bool, true, false, cond, Some, ◌≡◌, refl, length, get_or, eqb}
use Rattle.std.proofs.Common.{sym, ap, ◌∙◌, subst, arith, eqb-true}
use Rattle.octets.specs.Each.{Each}
use Rattle.octets.specs.Tests.{any}
use Rattle.wire.specs.Options.{TcpOption, Reading, malformed, options, more, least, length_faults_of, read_from, of_kind, occurrence, occurrences, seen, options_of}
use Rattle.wire.specs.declared.options.Occurrence.{Occurrence}
use Rattle.wire.specs.declared.options.Seen.{Seen}
use Rattle.wire.specs.OptionLaws.{length_good}

-- What is known of an option that is read in the bytes s, which start at place `at`.
pub record Placed (s : List ℕ) (at : ℕ) (o : TcpOption) : Type 0 where
  pub from : at ≤ o.at
  pub within : o.at + o.len ≤ at + length s
  pub long : least o.kind ≤ o.len
  pub kinds : get_or s (o.at - at) 0 ≡ o.kind
  pub lens : get_or s (o.at - at + 1) 0 ≡ o.len

each : (P Q : TcpOption → Type 0) → ((o : TcpOption) → P o → Q o) → (l : List TcpOption) → Each P l → Each Q l
each P Q f [] h = tt
each P Q f (o ∷ l) h = (f o h.0, each P Q f l h.1)

placed_on : (k : ℕ) (r : List ℕ) (at : ℕ) (o : TcpOption) → Placed r (at + 1) o → Placed (k ∷ r) at o
placed_on k r at o h =
    let f = h.from in
    let w = h.within in
    let e : o.at - at ≡ suc (o.at - (at + 1)) = omega arith in
    let d : o.at - at + 1 ≡ suc (o.at - (at + 1) + 1) = omega arith in
    record {
      from = omega arith;
      within = omega arith;
      long = h.long;
      kinds = ap (λ (j : ℕ). get_or (k ∷ r) j 0) e ∙ h.kinds;
      lens = ap (λ (j : ℕ). get_or (k ∷ r) j 0) d ∙ h.lens;
    }

abbrev All : List ℕ → ℕ → Reading → Type 0
All s at malformed = Unit
All s at (options l) = Each (Placed s at) l

all-on : (k : ℕ) (r : List ℕ) (at : ℕ) (x : Reading) → All r (at + 1) x → All (k ∷ r) at x
all-on k r at malformed h = tt
all-on k r at (options l) h = each (Placed r (at + 1)) (Placed (k ∷ r) at) (placed_on k r at) l h

all_more : (s : List ℕ) (at : ℕ) (o : TcpOption) (x : Reading) → Placed s at o → All s at x → All s at (more o x)
all_more s at o malformed p h = tt
all_more s at o (options l) p h = (p, h)

-- every option that is read lies where it says
read-placed : (n at : ℕ) (s : List ℕ) → All s at (read_from n at s)
unfolding read_from
read-placed n at [] = tt
read-placed (suc n) at (k ∷ r) = all-on k r at (read_from n (at + 1) r) (read-placed n (at + 1) r)
read-placed zero at (k ∷ r) =
    go (eqb k 0) (eqb k 1) (any (length_faults_of k r)) (read_from 0 (at + 1) r) (read_from (get_or r 0 0 - 1) (at + 1) r) refl (all-on k r at (read_from 0 (at + 1) r) (read-placed 0 (at + 1) r))
    (all-on k r at (read_from (get_or r 0 0 - 1) (at + 1) r) (read-placed (get_or r 0 0 - 1) (at + 1) r))
  where
    o : TcpOption
    o = record { kind = k; at = at; len = get_or r 0 0 }

    here : any (length_faults_of k r) ≡ false → Placed (k ∷ r) at o
    here e =
        let g = length_good k r e in
        let z : at - at ≡ 0 = omega arith in
        let w : at - at + 1 ≡ 1 = omega arith in
        record { from = omega arith; within = omega arith; long = g.1; kinds = ap (λ (j : ℕ). get_or (k ∷ r) j 0) z; lens = ap (λ (j : ℕ). get_or (k ∷ r) j 0) w }

    go : (p q t : Bool) (x y : Reading) → any (length_faults_of k r) ≡ t → All (k ∷ r) at x → All (k ∷ r) at y
        → All (k ∷ r) at (cond p (options []) (cond q x (cond t malformed (more o y))))
    go true q t x y e a b = tt
    go false true t x y e a b = a
    go false false true x y e a b = tt
    go false false false x y e a b = all_more (k ∷ r) at o y (here e) b

-- What is known of the occurrences of kind k in the area s. Where there is none, `at` and `len` are 0.
pub record Occurs (s : List ℕ) (k : ℕ) (o : Occurrence) : Type 0 where
  pub inside : o.at + o.len ≤ length s
  pub long : 0 < o.count → least k ≤ o.len
  pub kinds : 0 < o.count → get_or s o.at 0 ≡ k
  pub lens : 0 < o.count → get_or s (o.at + 1) 0 ≡ o.len

first-within : (s : List ℕ) (k : ℕ) (o : TcpOption) (n : ℕ) → o.kind ≡ k → Placed s 0 o → Occurs s k (record { count = n; at = o.at; len = o.len })
first-within s k o n e p =
    let w = p.within in
    let z : o.at - 0 ≡ o.at = omega arith in
    record {
      inside = omega arith;
      long = λ h. rw e at p.long;
      kinds = λ h. ap (λ (j : ℕ). get_or s j 0) (sym z) ∙ p.kinds ∙ e;
      lens = λ h. ap (λ (j : ℕ). get_or s (j + 1) 0) (sym z) ∙ p.lens;
    }

of-kind : (s : List ℕ) (k : ℕ) (l : List TcpOption) → Each (Placed s 0) l → Occurs s k (occurrences k l)
of-kind s k [] h = record { inside = omega arith; long = λ z. absurd (omega arith); kinds = λ z. absurd (omega arith); lens = λ z. absurd (omega arith) }
of-kind s k (o ∷ l) h = go (eqb o.kind k) refl (of-kind s k l h.1) where
  go : (t : Bool) → eqb o.kind k ≡ t → Occurs s k (occurrences k l) → Occurs s k (occurrence (cond t (o ∷ of_kind k l) (of_kind k l)))
  go true e w = first-within s k o (1 + length (of_kind k l)) (eqb-true o.kind k e) h.0
  go false e w = w

-- what is found lies inside the area
pub found_within : (s : List ℕ) (e : Seen) → options_of s ≡ Some e → Occurs s 19 e.md5 × Occurs s 29 e.ao
unfolding options_of
found_within s e q = go (read_from 0 0 s) (read-placed 0 0 s) q where
  go : (x : Reading) → All s 0 x → seen x ≡ Some e → Occurs s 19 e.md5 × Occurs s 29 e.ao
  go malformed h q = let z : ◌≡◌ {A = ℕ} 0 1 = cc in absurd (omega arith)
  go (options l) h q =
      let u : record { md5 = occurrences 19 l; ao = occurrences 29 l } ≡ e = cc in
      (subst (λ (y : Seen). Occurs s 19 y.md5) u (of-kind s 19 l h), subst (λ (y : Seen). Occurs s 29 y.ao) u (of-kind s 29 l h))
