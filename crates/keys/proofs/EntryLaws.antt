-- Laws of what the table's bytes mean: where the next entry begins, and what every entry's fields are.
-- Assumes nothing but, where it says `Octets`, that the bytes are below 256.
use Prim.Native.Nat.{ℕ, zero, suc, ◌+◌, ◌*◌, ◌-◌, ◌≤◌, ◌<◌}
use Rattle.std.specs.Prelude.{Bool, cond, ◌≡◌, length, get_or, take, drop, replicate, eqb}
use Rattle.std.proofs.Math.Bool.{true, false}
use Rattle.std.proofs.Math.Path.{refl, ap}
use Rattle.std.proofs.Common.{sym, ◌∙◌, inl, inr, length-append, length-take, drop_of_length-le, drop-drop, get_or-drop}
use mathlib.Core.List.{List, [], ◌∷◌, ◌++◌}
use native.Mathlib.Omega.{arith}
use Rattle.std.proofs.Math.ListN.{length-drop}
use Rattle.std.proofs.lemmas.List.{length-replicate}
use Rattle.std.proofs.Math.Seq.{drop-nil}
use Rattle.std.proofs.Math.Dec.{leb}
use borrow.Author.Tests.{eqb-true, eqb-false, leb-true, leb-false}
use Rattle.octets.specs.Each.{Each, Octets}
use Rattle.keys.specs.Entry.{known_kind_of, family_of_lem, extra, body, size, width, side_of, selector_of_lem, sides_end_of, secret_of_lem, entry_of}
use Rattle.keys.specs.Entry.{Item, item, item_at, sound, items, entries_of, entries}
use Rattle.keys.proofs.MatchLaws.{and-true, SideFields, Fields}
use Rattle.keys.specs.Clash.{Family}
use Rattle.keys.specs.declared.entry.Entry.{Entry}

-- sizes

pub width-le : (f : ℕ) → width f ≤ 16
unfolding width
width-le f = go (eqb f 4) refl
  where
    go : (b : Bool) → eqb f 4 ≡ b → cond (eqb f 4) 4 16 ≤ 16
    go true e = rw e (omega arith)
    go false e = rw e (omega arith)

pub width-ge : (f : ℕ) → 4 ≤ width f
unfolding width
width-ge f = go (eqb f 4) refl
  where
    go : (b : Bool) → eqb f 4 ≡ b → 4 ≤ cond (eqb f 4) 4 16
    go true e = rw e (omega arith)
    go false e = rw e (omega arith)

-- "the body is: .." so many bytes beside the two addresses
pub body_is : (k : ℕ) → body k ≡ 95 + 2 * width (family_of_lem k) + extra k
unfolding width body
body_is k = go (eqb (family_of_lem k) 4) refl
  where
    go : (b : Bool) → eqb (family_of_lem k) 4 ≡ b → cond (eqb (family_of_lem k) 4) 103 127 + extra k ≡ 95 + 2 * cond (eqb (family_of_lem k) 4) 4 16 + extra k
    go true e = rw e
    go false e = rw e

-- the kinds are those of the two families

known-range : (k : ℕ) → known_kind_of k ≡ true → (4 ≤ k) × (k ≤ 7)
unfolding known_kind_of
known-range k h = let a = and-true (leb 4 k) (leb k 7) h in (leb-true 4 k a.0, leb-true k 7 a.1)

pub known-family : (k : ℕ) → known_kind_of k ≡ true → Family (family_of_lem k)
unfolding family_of_lem extra
known-family k h = go (leb k 5) refl (known-range k h)
  where
    go : (b : Bool) → leb k 5 ≡ b → (4 ≤ k) × (k ≤ 7) → Family (family_of_lem k)
    go true e r = let l = leb-true k 5 e in inl (omega arith)
    go false e r = let l = leb-false k 5 e in inr (omega arith)

-- and an entry of the higher kind is longer by one
pub known-size : (k : ℕ) → known_kind_of k ≡ true → size k ≡ cond (eqb (family_of_lem k) 4) 100 122 + k
unfolding body family_of_lem extra
known-size k h = go (eqb (family_of_lem k) 4) refl (known-range k h)
  where
    go : (b : Bool) → eqb (family_of_lem k) 4 ≡ b → (4 ≤ k) × (k ≤ 7) → size k ≡ cond (eqb (family_of_lem k) 4) 100 122 + k
    go true e r = let z = eqb-true (family_of_lem k) 4 e in rw e (omega arith)
    go false e r = let z = eqb-false (family_of_lem k) 4 e in rw e (omega arith)

-- where the next entry begins

items-drop : (n : ℕ) (t : List ℕ) → items n t ≡ items 0 (drop n t)
unfolding items
items-drop n [] = ap (items 0) (sym (drop-nil n))
items-drop zero (b ∷ t) = refl
items-drop (suc n) (b ∷ t) = items-drop n t

pub items-from : (s : List ℕ) → 0 < length s → items 0 s ≡ item s ∷ cond (sound (item s)) (items 0 (drop (size (get_or s 0 0)) s)) []
unfolding items
items-from [] h = absurd (omega arith)
items-from (b ∷ t) h = ap (λ (l : List Item). item (b ∷ t) ∷ cond (sound (item (b ∷ t))) l []) (items-drop (body b) t ∙ ap (items 0) (dropped b t))
  where
    dropped : (b : ℕ) (t : List ℕ) → drop (body b) t ≡ drop (1 + body b) (b ∷ t)
    dropped b t = let e : 1 + body b ≡ suc (body b) = omega arith in rw e

-- at byte `at` of a table

module _ (t : List ℕ) (at : ℕ) where
  pub kind-is : get_or (drop at t) 0 0 ≡ get_or t at 0
  kind-is = get_or-drop at t 0 0 ∙ ap (λ (n : ℕ). get_or t n 0) (let e : at + 0 ≡ at = omega arith in e)

  pub items_at : at < length t → items 0 (drop at t) ≡ item_at t at ∷ cond (sound (item_at t at)) (items 0 (drop (at + size (get_or t at 0)) t)) []
  items_at h =
      let l = length-drop at t in
      items-from (drop at t) (omega arith)
      ∙ ap (λ (s : List ℕ). item_at t at ∷ cond (sound (item_at t at)) (items 0 s) []) (drop-drop (size (get_or (drop at t) 0 0)) at t ∙ ap (λ (k : ℕ). drop (at + size k) t) kind-is)

  pub items-end : length t ≤ at → items 0 (drop at t) ≡ []
  unfolding items
  items-end h = ap (items 0) (drop_of_length-le t h)

  pub sound-inside : sound (item_at t at) ≡ true → at + size (get_or t at 0) ≤ length t
  unfolding item
  sound-inside h =
      let w = leb-true (size (get_or (drop at t) 0 0)) (length (drop at t)) (and-true (known_kind_of (get_or (drop at t) 0 0)) _ h).1 in
      let k : size (get_or (drop at t) 0 0) ≡ size (get_or t at 0) = ap size kind-is in
      let l = length-drop at t in
      omega arith

-- bytes

pub take-octets : (n : ℕ) (s : List ℕ) → Octets s → Octets (take n s)
take-octets zero s h i = omega arith
take-octets (suc n) [] h i = omega arith
take-octets (suc n) (x ∷ s) h zero = h 0
take-octets (suc n) (x ∷ s) h (suc i) = take-octets n s (λ j. h (suc j)) i

pub drop-octets : (n : ℕ) (s : List ℕ) → Octets s → Octets (drop n s)
drop-octets n s h i = rw (get_or-drop n s i 0) (h (n + i))

pub zeros-octets : (n : ℕ) → Octets (replicate n 0)
zeros-octets zero i = omega arith
zeros-octets (suc n) zero = omega arith
zeros-octets (suc n) (suc i) = zeros-octets n i

pub append-octets : (a b : List ℕ) → Octets a → Octets b → Octets (a ++ b)
append-octets [] b ha hb i = hb i
append-octets (x ∷ a) b ha hb zero = ha 0
append-octets (x ∷ a) b ha hb (suc i) = append-octets a b (λ j. ha (suc j)) hb i

pub cons-octets : (x : ℕ) (s : List ℕ) → x < 256 → Octets s → Octets (x ∷ s)
cons-octets x s h o zero = h
cons-octets x s h o (suc i) = o i

-- every entry's fields

side-fields : (w ports at : ℕ) (e : List ℕ) → w ≤ 16 → Octets e → SideFields (side_of w ports at e)
unfolding side_of
side-fields w ports at e k h =
    let a = take w (drop at e) in
    let x = h ports in
    let y = h (ports + 1) in
    let u = h (ports + 2) in
    let v = h (ports + 2 + 1) in
    let l = length-take w (drop at e) in
    record {
      low = omega arith;
      high = omega arith;
      sixteen = simp (length-append, length-replicate) (omega arith);
      octets = append-octets a (replicate (16 - length a) 0) (take-octets w (drop at e) (drop-octets at e h)) (zeros-octets (16 - length a));
    }

-- what every entry has that bytes mean, of any bytes
pub record Shape (e : Entry) : Type 0 where
  pub family : Family e.selector.family
  pub key : length e.secret.key ≡ 80

entry-shape : (s : List ℕ) → sound (item s) ≡ true → Shape (entry_of s)
unfolding item entry_of selector_of_lem secret_of_lem
entry-shape s h =
    let k = get_or s 0 0 in
    let a = and-true (known_kind_of k) _ h in
    let l = leb-true (size k) (length s) a.1 in
    let b = body_is k in
    let d = length-drop (sides_end_of k + extra k + 1) s in
    record { family = known-family k a.0; key = length-take 80 (drop (sides_end_of k + extra k + 1) s) ∙ omega arith }

entry-fields : (s : List ℕ) → Octets s → sound (item s) ≡ true → Fields (entry_of s).selector
unfolding item entry_of selector_of_lem
entry-fields s o h =
    let f = family_of_lem (get_or s 0 0) in
    record {
      family = known-family (get_or s 0 0) (and-true (known_kind_of (get_or s 0 0)) _ h).0;
      local = side-fields (width f) 5 13 s (width-le f) o;
      remote = side-fields (width f) 9 (14 + width f) s (width-le f) o;
    }

-- what holds of each entry's own bytes holds of the table's entries
module _ (Q : List ℕ → Type 0) (P : Entry → Type 0) (tail : (b : ℕ) (t : List ℕ) → Q (b ∷ t) → Q t) (of : (s : List ℕ) → Q s → sound (item s) ≡ true → P (entry_of s)) where
  each_item : (n : ℕ) (t : List ℕ) → Q t → Each P (entries_of (items n t))
  unfolding items entries_of item
  each_item n [] q = tt
  each_item (suc n) (b ∷ t) q = each_item n t (tail b t q)
  each_item zero (b ∷ t) q = go (sound (item (b ∷ t))) refl (each_item (body b) t (tail b t q))
    where
      go : (c : Bool) → sound (item (b ∷ t)) ≡ c → Each P (entries_of (items (body b) t)) → Each P (entries_of (items 0 (b ∷ t)))
      go true e ih = rw e (of (b ∷ t) q e, ih)
      go false e ih = rw e tt

pub entries-shape : (t : List ℕ) → Each Shape (entries t)
entries-shape t = each_item (λ s. Unit {0}) Shape (λ b s q. tt) (λ s q h. entry-shape s h) 0 t tt

pub entries-fields : (t : List ℕ) → Octets t → Each (λ (e : Entry). Fields e.selector) (entries t)
entries-fields t o = each_item Octets (λ e. Fields e.selector) (λ b s q i. q (suc i)) entry-fields 0 t o
