-- Places in a list of entries, and lists in which no entry clashes with one before it.
-- Assumes nothing but, where it says `Fields`, what every entry has that bytes mean.
use Rattle.std.specs.Prelude.{ℕ, suc, ◌<◌, Bool, true, false, ◌||◌, ◌≡◌, refl, List, [], ◌∷◌, ◌++◌, length}
use Rattle.std.proofs.Common.{sym, subst, append-nil, arith}
use Rattle.std.proofs.Math.Seq.{append_snoc}
use Rattle.octets.specs.Each.{Each}
use Rattle.keys.specs.Places.{At, here, there}
use Rattle.keys.specs.Clash.{Conflict, NoConflict}
use Rattle.keys.specs.Match.{clash}
use Rattle.keys.proofs.MatchLaws.{Fields, clash-conflict, conflict-clash}
use Rattle.keys.specs.Table.{clashing}
use Rattle.keys.specs.declared.entry.Entry.{Entry}

pub each_at : (P : Entry → Type 0) {l : List Entry} {i : ℕ} {e : Entry} → Each P l → At l i e → P e
each_at P p here = p.0
each_at P p (there a) = each_at P p.1 a

pub at_same : {l : List Entry} {i : ℕ} {e f : Entry} → At l i e → At l i f → e ≡ f
at_same here here = refl
at_same (there a) (there b) = at_same a b

pub at-seam : (a : List Entry) (e : Entry) (b : List Entry) → At (a ++ (e ∷ b)) (length a) e
at-seam [] e b = here
at-seam (x ∷ a) e b = there (at-seam a e b)

pub at_left : {a : List Entry} {i : ℕ} {e : Entry} (b : List Entry) → At a i e → At (a ++ b) i e
at_left b here = here
at_left b (there p) = there (at_left b p)

pub at-below : {l : List Entry} {i : ℕ} {e : Entry} → At l i e → i < length l
at-below here = omega arith
at-below (there a) = let h = at-below a in omega arith

-- no entry clashes with one before it

abbrev pub Before : Entry → List Entry → Type 0
Before f l = Each (λ (e : Entry). clash f e ≡ false) l

abbrev pub Apart : List Entry → Type 0
Apart [] = Unit {0}
Apart (f ∷ l) = Before f l × Apart l

-- each entry clears those in front of it, `pre` and then one another
abbrev pub Clear : List Entry → List Entry → Type 0
Clear pre [] = Unit {0}
Clear pre (e ∷ l) = (clashing e pre ≡ false) × Clear (pre ++ (e ∷ [])) l

or_no : (a b : Bool) → (a || b) ≡ false → (a ≡ false) × (b ≡ false)
or_no false b e = (refl, e)
or_no true b e = let z : ◌≡◌ {A = ℕ} 0 1 = cc in absurd (omega arith)

before-snoc : (f e : Entry) (l : List Entry) → Before f l → clash f e ≡ false → Before f (l ++ (e ∷ []))
before-snoc f e [] b c = (c, tt)
before-snoc f e (g ∷ l) b c = (b.0, before-snoc f e l b.1 c)

apart_snoc : (e : Entry) (l : List Entry) → Apart l → clashing e l ≡ false → Apart (l ++ (e ∷ []))
unfolding clashing
apart_snoc e [] a c = (tt, tt)
apart_snoc e (f ∷ l) a c = let h = or_no (clash f e) (clashing e l) c in (before-snoc f e l a.0 h.0, apart_snoc e l a.1 h.1)

pub clear_apart : (pre l : List Entry) → Apart pre → Clear pre l → Apart (pre ++ l)
clear_apart pre [] a c = rw append-nil a
clear_apart pre (e ∷ l) a c = subst Apart (append_snoc pre e l) (clear_apart (pre ++ (e ∷ [])) l (apart_snoc e pre a c.0) c.1)

unclashed : (pre : List Entry) (e : Entry) (l : List Entry) → Apart (pre ++ (e ∷ l)) → clashing e pre ≡ false
unfolding clashing
unclashed [] e l a = refl
unclashed (f ∷ pre) e l a = rw (first-clear pre a.0) (unclashed pre e l a.1)
  where
    first-clear : (p : List Entry) → Before f (p ++ (e ∷ l)) → clash f e ≡ false
    first-clear [] b = b.0
    first-clear (g ∷ p) b = first-clear p b.1

pub apart-clear : (pre l : List Entry) → Apart (pre ++ l) → Clear pre l
apart-clear pre [] a = tt
apart-clear pre (e ∷ l) a = (unclashed pre e l a, apart-clear (pre ++ (e ∷ [])) l (subst Apart (sym (append_snoc pre e l)) a))

pub clashing-in : (e : Entry) (l : List Entry) → clashing e l ≡ true → (i : ℕ) × (f : Entry) × At l i f × (clash f e ≡ true)
unfolding clashing
clashing-in e [] c = let z : ◌≡◌ {A = ℕ} 0 1 = cc in absurd (omega arith)
clashing-in e (f ∷ l) c = go (clash f e) refl (λ h. clashing-in e l h)
  where
    go : (b : Bool) → clash f e ≡ b → (clashing e l ≡ true → (i : ℕ) × (g : Entry) × At l i g × (clash g e ≡ true)) → (i : ℕ) × (g : Entry) × At (f ∷ l) i g × (clash g e ≡ true)
    go true q ih = (0, f, here, q)
    go false q ih = let r = ih (rw q at c) in (suc r.0, r.1, there r.2, r.3)

pub in-clashing : (e : Entry) {f : Entry} {l : List Entry} {i : ℕ} → At l i f → clash f e ≡ true → clashing e l ≡ true
unfolding clashing
in-clashing e here c = rw c
in-clashing e (there {f} a) c = or-second (clash f e) (in-clashing e a c)
  where
    or-second : (x : Bool) {y : Bool} → y ≡ true → (x || y) ≡ true
    or-second true h = refl
    or-second false h = h

pub apart-at : {l : List Entry} {j k : ℕ} {e f : Entry} → Apart l → At l j e → At l k f → j < k → clash e f ≡ false
apart-at a here here h = absurd (omega arith)
apart-at a (here {e} {l}) (there q) h = each_at (λ g. clash e g ≡ false) a.0 q
apart-at a (there p) here h = absurd (omega arith)
apart-at a (there p) (there q) h = apart-at a.1 p q (omega arith)

pub apart-no-conflict : (l : List Entry) → Apart l → NoConflict l
apart-no-conflict l a j k e f p q h c = let z : ◌≡◌ {A = ℕ} 0 1 = cc (conflict-clash e f c, apart-at a p q h) in omega arith

before_of : (e : Entry) (l : List Entry) → Fields e.selector → Each (λ (f : Entry). Fields f.selector) l → ((k : ℕ) (f : Entry) → At l k f → Conflict e f → ⊥) → Before e l
before_of e [] fe fl n = tt
before_of e (f ∷ l) fe fl n = (go (clash e f) refl, before_of e l fe fl.1 (λ k g a. n (suc k) g (there a)))
  where
    go : (b : Bool) → clash e f ≡ b → clash e f ≡ false
    go true q = absurd (n 0 f here (clash-conflict e f fe fl.0 q))
    go false q = q

pub no-conflict-apart : (l : List Entry) → Each (λ (f : Entry). Fields f.selector) l → NoConflict l → Apart l
no-conflict-apart [] fl n = tt
no-conflict-apart (e ∷ l) fl n =
    (before_of e l fl.0 fl.1 (λ k f a. n 0 (suc k) e f here (there a) (omega arith)), no-conflict-apart l fl.1 (λ j k f g a b h. n (suc j) (suc k) f g (there a) (there b) (omega arith)))
