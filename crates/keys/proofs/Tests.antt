-- Laws for functions that go through tests one after another.
use Prim.Native.Nat.{ℕ, ◌+◌, max, min}
use mathlib.Core.Bool.{Bool, true, false, ◌&&◌}
use mathlib.Core.Path.{◌≡◌, refl, sym, ap, ◌∙◌}
use mathlib.Core.List.{List, [], ◌∷◌}
use native.Mathlib.Omega.{arith}
use lib.ListN.{get_or, take, drop}
use lib.Bits.{bit_or, and_le_l, and_le_r, or_add_and}
use lib.Dec.{eqb, leb}
use Rattle.std.specs.List.{fold}
use borrow.Author.Tests.{eq-eqb, ne_eqb, eqb-true, eqb-false}
use Rattle.octets.specs.Octets.{get16}
use Rattle.wire.specs.Prefix.{agree}
use Rattle.keys.specs.Entry.{family_of_lem, width, padded, side_of, selector_of_lem}
use Rattle.keys.specs.Match.{fixed, meet, overlap}
use Rattle.keys.specs.Table.{zeros}
use Rattle.keys.proofs.Bytes.{tail, agree-padded}
use Rattle.keys.specs.declared.entry.Side.{Side}
use Rattle.keys.specs.declared.entry.Selector.{Selector}

pub and_last : (b : Bool) → (b && true) ≡ b
and_last true = refl
and_last false = refl

-- a test, and a second one of what passed it

pub and_no : (a b r v : Bool) → r ≡ a → r ≡ false → v ≡ r → v ≡ (a && b)
and_no a b r v e h q = rw (sym e ∙ h) (q ∙ h)

pub and_yes : (a b r v : Bool) → r ≡ a → r ≡ true → v ≡ b → v ≡ (a && b)
and_yes a b r v e h q = rw (sym e ∙ h) q

-- two addresses agree in so many bits, by a number that the code computed
pub agree-by : (a b : List ℕ) (n m : ℕ) (r : Bool) → r ≡ agree n a b → n ≡ m → r ≡ agree m a b
agree-by a b n m r e q = e ∙ ap (λ (k : ℕ). agree k a b) q

-- an entry's bytes against a selector

module _ (e : List ℕ) where
  abbrev pub ports_meet_of : ℕ → Side → Bool
  ports_meet_of ports b = leb (max (get16 e ports) b.low) (min (get16 e (ports + 2)) b.high)

  abbrev pub addresses_meet_of : ℕ → ℕ → Side → Bool
  addresses_meet_of f at b = agree (min (fixed f (get_or e (at + width f) 0)) (fixed f b.bits)) (padded (take (width f) (drop at e))) b.address

  pub addresses-by : (f at : ℕ) (b : Side) (w p q n : ℕ) (r : Bool) → w ≡ width f → p ≡ fixed f (get_or e (at + w) 0) → q ≡ fixed f b.bits → n ≡ min p q → r ≡ agree n (tail e at) b.address
      → r ≡ addresses_meet_of f at b
  addresses-by f at b w p q n r we pe qe ne re =
      let m = min (fixed f (get_or e (at + width f) 0)) (fixed f b.bits) in
      let z : n ≡ m = ne ∙ (λ i. min ((pe ∙ ap (λ (v : ℕ). fixed f (get_or e (at + v) 0)) we) i) (qe i)) in
      agree-by (tail e at) b.address n m r re z ∙ agree-padded e b.address at (width f) m (omega arith)

  shuffle : (p q r s : Bool) → ((p && (r && true)) && ((q && (s && true)) && true)) ≡ (((p && q) && r) && s)
  shuffle true true true true = refl
  shuffle true true true false = refl
  shuffle true true false s = refl
  shuffle true false true s = refl
  shuffle true false false s = refl
  shuffle false q r s = refl

  -- the ports of both sides, then the addresses
  pub overlap-is : (b : Selector) (f : ℕ) → f ≡ family_of_lem (get_or e 0 0) → f ≡ b.family
      → (((ports_meet_of 9 b.remote && ports_meet_of 5 b.local) && addresses_meet_of f (14 + width f) b.remote) && addresses_meet_of f 13 b.local) ≡ overlap (selector_of_lem (get_or e 0 0) e) b
  unfolding overlap selector_of_lem meet side_of
  overlap-is b f fe h =
      let g = family_of_lem (get_or e 0 0) in
      rw (eq-eqb g b.family (sym fe ∙ h))
      ((λ i. ((ports_meet_of 9 b.remote && ports_meet_of 5 b.local) && addresses_meet_of (fe i) (14 + width (fe i)) b.remote) && addresses_meet_of (fe i) 13 b.local)
      ∙ sym (shuffle (ports_meet_of 9 b.remote) (ports_meet_of 5 b.local) (addresses_meet_of g (14 + width g) b.remote) (addresses_meet_of g 13 b.local)))

-- bytes taken together by `or`

either : (d x : ℕ) → eqb (bit_or d x) 0 ≡ (eqb d 0 && eqb x 0)
either d x = go (eqb d 0) (eqb x 0) refl refl
  where
    none : bit_or d x ≡ 0 → (d ≡ 0) × (x ≡ 0)
    none e = let o = or_add_and d x in let l = and_le_l d x in let r = and_le_r d x in (omega arith, omega arith)

    go : (p q : Bool) → eqb d 0 ≡ p → eqb x 0 ≡ q → eqb (bit_or d x) 0 ≡ (p && q)
    go true true e f = rw (eqb-true d 0 e, eqb-true x 0 f)
    go true false e f = ne_eqb _ _ (λ z. eqb-false x 0 f (none z).1)
    go false q e f = ne_eqb _ _ (λ z. eqb-false d 0 e (none z).0)

regroup : (p q r : Bool) → ((p && q) && r) ≡ (p && (q && r))
regroup true q r = refl
regroup false q r = refl

-- the bytes taken together are zero exactly if each is
pub zeros-fold : (s : List ℕ) (d : ℕ) → eqb (fold bit_or d s) 0 ≡ (eqb d 0 && zeros s)
zeros-fold [] d = sym (and_last (eqb d 0))
zeros-fold (x ∷ s) d = rw (zeros-fold s (bit_or d x), either d x, regroup)
