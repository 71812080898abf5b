-- Laws of a recording that comes in pieces: pieces are their bytes one after another, and the bytes of one record are looked at together.
-- Assumes nothing.
use Rattle.std.specs.Prelude.{◌≡◌, ℕ, zero, suc, ◌+◌, ◌<◌, ◌≤◌, Bool, true, false, cond, not, ◌&&◌, ◌||◌, List, [], ◌∷◌, ◌++◌, length, ◌==◌, nat_lt, slice_index}
use Rattle.std.proofs.Math.Path.{refl}
use Rattle.std.proofs.Common.{sym, ap, ◌∙◌, subst, arith}
use mathlib.Core.List.{append_assoc}
use Rattle.std.proofs.Math.ListN.{length-append}
use borrow.Author.Tests.{ltb-true, lt-ltb, lt-leb, le-leb}
use Rattle.octets.specs.Octets.{get16}
use Rattle.recording.specs.declared.line.Line.TheVariants.{Fault}
use Rattle.recording.specs.Recording.{kind_of, record_bytes_of, Desk, is_stopped, with_held, stopped, placed, faulty}
use Rattle.recording.specs.Recording.{settled, looked, step, absorb}
use Rattle.recording.specs.Live.{Pieces, LastLine}

-- Pieces: a ++ b is a and then b.
pub absorb-append : Pieces
unfolding absorb
absorb-append keep d [] b = refl
absorb-append keep d (x ∷ a) b = absorb-append keep (step keep d x) a b

-- After the last line nothing more is read or printed.
pub absorb-stopped : LastLine
unfolding absorb step
absorb-stopped keep d [] h = refl
absorb-stopped keep d (b ∷ s) h = rw h (absorb-stopped keep d s h)

-- A fault stays where bytes are added.

or-more : (a b c : Bool) → (b ≡ true → c ≡ true) → (a || b) ≡ true → (a || c) ≡ true
or-more true b c f h = refl
or-more false b c f h = f h

cond_more : (a b c d e : Bool) → (b ≡ true → d ≡ true) → (c ≡ true → e ≡ true) → cond a b c ≡ true → cond a d e ≡ true
cond_more true b c d e f g h = f h
cond_more false b c d e f g h = g h

and-more : (a b c : Bool) → (b ≡ true → c ≡ true) → (a && b) ≡ true → (a && c) ≡ true
and-more true b c f h = f h
and-more false b c f h = h

ltb-more : (n x y : ℕ) → x ≤ y → nat_lt n x ≡ true → nat_lt n y ≡ true
ltb-more n x y l h = let a = ltb-true n x h in lt-ltb n y (omega arith)

get_or-more : (r x : List ℕ) (i : ℕ) → slice_index r i ≤ slice_index (r ++ x) i
get_or-more [] x i = omega arith
get_or-more (b ∷ r) x zero = omega arith
get_or-more (b ∷ r) x (suc i) = get_or-more r x i

pub faulty-more : (stage k : ℕ) (r x : List ℕ) → faulty stage (k ∷ r) ≡ true → faulty stage (k ∷ r ++ x) ≡ true
unfolding faulty
faulty-more stage k r x h =
    or-more (not (placed stage k)) _ _
    (cond_more (k == 1) (nat_lt 129 (slice_index r 0)) _ (nat_lt 129 (slice_index (r ++ x) 0)) _ (ltb-more 129 (slice_index r 0) (slice_index (r ++ x) 0) (get_or-more r x 0))
    (and-more (k == 3) (nat_lt 1598 (get16 r 0)) (nat_lt 1598 (get16 (r ++ x) 0))
    (ltb-more 1598 (get16 r 0) (get16 (r ++ x) 0) (let a = get_or-more r x 0 in let b = get_or-more r x 1 in omega arith)))) h

-- The bytes of one record.

-- a list that ends with an element, and one behind it: the first is the same
front : (h : List ℕ) (b : ℕ) (P : List ℕ → Type 0) → ((k : ℕ) (r : List ℕ) → P (k ∷ r)) → P (h ++ (b ∷ []))
front [] b P f = f b []
front (k ∷ h) b P f = f k (h ++ (b ∷ []))

fault-front : (stage : ℕ) (h : List ℕ) (b : ℕ) (x : List ℕ) → faulty stage (h ++ (b ∷ [])) ≡ true → faulty stage ((h ++ (b ∷ [])) ++ x) ≡ true
fault-front stage h b x = front h b (λ r. faulty stage r ≡ true → faulty stage (r ++ x) ≡ true) (λ k r. faulty-more stage k r x)

kind-front : (h : List ℕ) (b : ℕ) (x : List ℕ) → kind_of ((h ++ (b ∷ [])) ++ x) ≡ kind_of (h ++ (b ∷ []))
kind-front h b x = front h b (λ r. kind_of (r ++ x) ≡ kind_of r) (λ k r. refl)

module _ (keep : List ℕ → List ℕ) where
  -- one byte more, of a record that is longer: it is held, or the record is faulty
  step-some : (d : Desk) (b : ℕ) → is_stopped d ≡ false → length d.held + 1 < record_bytes_of (kind_of (d.held ++ (b ∷ [])))
      → step keep d b ≡ cond (faulty d.stage (d.held ++ (b ∷ []))) (stopped (Fault d.records) d) (with_held (d.held ++ (b ∷ [])) d)
  unfolding step looked
  step-some d b ns h =
      let l : length (d.held ++ (b ∷ [])) < record_bytes_of (kind_of (d.held ++ (b ∷ []))) = rw length-append h in
      rw (ns, lt-leb _ _ l)

  pub looked-faulty : (d : Desk) → faulty d.stage d.held ≡ true → looked keep d ≡ stopped (Fault d.records) d
  unfolding looked
  looked-faulty d h = rw h

  -- bytes of one record, at least one and no more than it has
  pub absorb-record : (d : Desk) (b : ℕ) (y : List ℕ) → is_stopped d ≡ false → length d.held + length (b ∷ y) ≤ record_bytes_of (kind_of (d.held ++ (b ∷ y)))
      → absorb keep d (b ∷ y) ≡ looked keep (with_held (d.held ++ (b ∷ y)) d)
  unfolding absorb step
  absorb-record d b [] ns le = rw ns
  absorb-record d b (e ∷ z) ns le =
      go (faulty d.stage (d.held ++ (b ∷ []))) refl (absorb-record (with_held (d.held ++ (b ∷ [])) d) e z ns)
    where
      joined : (d.held ++ (b ∷ [])) ++ (e ∷ z) ≡ d.held ++ (b ∷ (e ∷ z))
      joined = append_assoc d.held (b ∷ []) (e ∷ z)

      kind : kind_of (d.held ++ (b ∷ (e ∷ z))) ≡ kind_of (d.held ++ (b ∷ []))
      kind = ap kind_of (sym joined) ∙ kind-front d.held b (e ∷ z)

      shorter : length d.held + 1 < record_bytes_of (kind_of (d.held ++ (b ∷ [])))
      shorter = let a = ap record_bytes_of kind in omega arith

      more : length (d.held ++ (b ∷ [])) + length (e ∷ z) ≤ record_bytes_of (kind_of ((d.held ++ (b ∷ [])) ++ (e ∷ z)))
      more =
          let l : length (d.held ++ (b ∷ [])) ≡ length d.held + 1 = rw length-append refl in
          let a = ap (λ (r : List ℕ). record_bytes_of (kind_of r)) joined in
          omega arith

      go : (f : Bool) → faulty d.stage (d.held ++ (b ∷ [])) ≡ f
          → (length (d.held ++ (b ∷ [])) + length (e ∷ z) ≤ record_bytes_of (kind_of ((d.held ++ (b ∷ [])) ++ (e ∷ z)))
          → absorb keep (with_held (d.held ++ (b ∷ [])) d) (e ∷ z) ≡ looked keep (with_held ((d.held ++ (b ∷ [])) ++ (e ∷ z)) d))
          → absorb keep d (b ∷ (e ∷ z)) ≡ looked keep (with_held (d.held ++ (b ∷ (e ∷ z))) d)
      go true q ih =
          ap (λ (w : Desk). absorb keep w (e ∷ z))
          (step-some d b ns shorter
          ∙ ap (λ (f : Bool). cond f (stopped (Fault d.records) d) (with_held (d.held ++ (b ∷ [])) d)) q)
          ∙ absorb-stopped keep (stopped (Fault d.records) d) (e ∷ z) refl
          ∙ sym (looked-faulty (with_held (d.held ++ (b ∷ (e ∷ z))) d)
          (subst (λ (r : List ℕ). faulty d.stage r ≡ true) joined (fault-front d.stage d.held b (e ∷ z) q)))
      go false q ih =
          ap (λ (w : Desk). absorb keep w (e ∷ z))
          (step-some d b ns shorter
          ∙ ap (λ (f : Bool). cond f (stopped (Fault d.records) d) (with_held (d.held ++ (b ∷ [])) d)) q)
          ∙ ih more
          ∙ ap (λ (r : List ℕ). looked keep (with_held r d)) joined

  pub absorb-part : (d : Desk) (x : List ℕ) → is_stopped d ≡ false → 0 < length x → length d.held + length x ≤ record_bytes_of (kind_of (d.held ++ x))
      → absorb keep d x ≡ looked keep (with_held (d.held ++ x) d)
  absorb-part d [] ns h le = absurd (omega arith)
  absorb-part d (b ∷ y) ns h le = absorb-record d b y ns le

  -- what is looked at: a fault, a record that is not whole, a whole one
  pub looked-short : (d : Desk) → faulty d.stage d.held ≡ false → length d.held < record_bytes_of (kind_of d.held) → looked keep d ≡ d
  unfolding looked
  looked-short d f h = rw (f, lt-leb (record_bytes_of (kind_of d.held)) (length d.held) h)

  pub looked-whole : (d : Desk) → faulty d.stage d.held ≡ false → record_bytes_of (kind_of d.held) ≤ length d.held
      → looked keep d ≡ settled keep d
  unfolding looked
  looked-whole d f h = rw (f, le-leb (record_bytes_of (kind_of d.held)) (length d.held) h)
