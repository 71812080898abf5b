-- The reading as the loop of `options::read` meets it: from a place on, with what was seen before it.
-- Assumes nothing.
use Prim.Native.Nat.{ℕ, suc, ◌+◌, ◌-◌, ◌≤◌, ◌<◌}
use mathlib.Core.List.{List, [], ◌∷◌}
use mathlib.Core.Bool.{Bool, true, false, cond, ◌||◌}
use Rattle.std.specs.Prelude.{Option, Some, None}
use Rattle.std.specs.Option.{option_map}
use mathlib.Core.Path.{◌≡◌, refl, sym, ap, ◌∙◌, subst}
use lib.ListN.{length, get_or, drop, length-drop, drop_of_length-le}
use lib.Seq.{drop-cons, drop-drop, get_or-drop}
use lib.Dec.{ltb, leb, eqb}
use native.Mathlib.Omega.{arith}
use native.Mathlib.Nat.{add-zero}
use native.Mathlib.Numerals.{add-one}
use borrow.Author.Tests.{ne_eqb, eq-eqb, ltb-false, eqb-true, leb-true, leb-false}
use Rattle.octets.specs.Tests.{any}
use Rattle.wire.specs.Options.{TcpOption, Reading, malformed, options, more, least, length_faults_of, read_from, of_kind, occurrence, seen, options_of}
use Rattle.wire.specs.OptionLaws.{read-skip, length_good}
use Rattle.wire.specs.OptionSteps.{length_at_lem, step_at_lem, none, noted}
use Rattle.wire.specs.declared.options.Step.{Step}
use Rattle.wire.specs.declared.options.Step.TheVariants as S
use Rattle.wire.specs.declared.options.Occurrence.{Occurrence}
use Rattle.wire.specs.declared.options.Seen.{Seen}

-- what was noted of a kind, and then the options l of that kind
abbrev joined : Occurrence → List TcpOption → Occurrence
joined m [] = m
joined m (o ∷ l) =
    cond (eqb m.count 0) (record { count = 1 + length l; at = o.at; len = o.len }) (record { count = m.count + (1 + length l); at = m.at; len = m.len })

abbrev after : Occurrence → Occurrence → Reading → Option Seen
after m a malformed = None
after m a (options l) = Some (record { md5 = joined m (of_kind 19 l); ao = joined a (of_kind 29 l) })

joined-none : (l : List TcpOption) → joined none l ≡ occurrence l
joined-none [] = refl
joined-none (o ∷ l) = refl

after_none : (x : Reading) → after none none x ≡ seen x
after_none malformed = refl
after_none (options l) = λ i. Some (record { md5 = joined-none (of_kind 19 l) i; ao = joined-none (of_kind 29 l) i })

-- the first of the options may as well be noted
joined-more : (m : Occurrence) (o : TcpOption) (l : List TcpOption) → joined m (o ∷ l) ≡ joined (noted m o.at o.len) l
unfolding noted
joined-more m o [] = refl
joined-more m o (p ∷ l) = go (eqb m.count 0) where
  go : (t : Bool)
      → cond t (record { count = 1 + length (p ∷ l); at = o.at; len = o.len }) (record { count = m.count + (1 + length (p ∷ l)); at = m.at; len = m.len })
      ≡ joined (cond t (record { count = 1; at = o.at; len = o.len }) (record { count = m.count + 1; at = m.at; len = m.len })) (p ∷ l)
  go true = let e : 1 + suc (length l) ≡ 1 + (1 + length l) = omega arith in λ i. record { count = e i; at = o.at; len = o.len }
  go false =
      let e : m.count + (1 + suc (length l)) ≡ m.count + 1 + (1 + length l) = omega arith in
      let z : (m.count + 1 ≡ 0 → ⊥) = λ q. omega arith in
      rw (ne_eqb (m.count + 1) 0 z) (λ i. record { count = e i; at = m.at; len = m.len })

-- noted if it is of the kind
abbrev noted_if : Bool → Occurrence → ℕ → ℕ → Occurrence
noted_if true m at n = noted m at n
noted_if false m at n = m

joined-if : (j : ℕ) (m : Occurrence) (o : TcpOption) (l : List TcpOption)
    → joined m (of_kind j (o ∷ l)) ≡ joined (noted_if (eqb o.kind j) m o.at o.len) (of_kind j l)
joined-if j m o l = go (eqb o.kind j) where
  go : (t : Bool) → joined m (cond t (o ∷ of_kind j l) (of_kind j l)) ≡ joined (noted_if t m o.at o.len) (of_kind j l)
  go true = joined-more m o (of_kind j l)
  go false = refl

after_more : (m a : Occurrence) (o : TcpOption) (x : Reading)
    → after m a (more o x) ≡ after (noted_if (eqb o.kind 19) m o.at o.len) (noted_if (eqb o.kind 29) a o.at o.len) x
after_more m a o malformed = refl
after_more m a o (options l) = λ i. Some (record { md5 = joined-if 19 m o l i; ao = joined-if 29 a o l i })

-- the length at a place, in the reader's words
folded : {A : Type 0} (x y : A) (a b c : Bool) → cond a x (cond b x (cond c x y)) ≡ cond (a || (b || (c || false))) x y
folded x y true b c = refl
folded x y false true c = refl
folded x y false false true = refl
folded x y false false false = refl

missing : (n m : ℕ) → leb n m ≡ eqb (n - m) 0
missing n m = go (leb n m) refl where
  go : (t : Bool) → leb n m ≡ t → t ≡ eqb (n - m) 0
  go true e = let h = leb-true n m e in sym (eq-eqb (n - m) 0 (omega arith))
  go false e = let h = leb-false n m e in sym (ne_eqb (n - m) 0 (λ q. omega arith))

length-is : (s : List ℕ) (at k : ℕ) (r : List ℕ) → length r ≡ length s - (at + 1) → at < length s → get_or r 0 0 ≡ get_or s (at + 1) 0
    → length_at_lem s at (least k) ≡ cond (any (length_faults_of k r)) None (Some (get_or r 0 0))
unfolding length_at_lem
length-is s at k r e h g =
    let n : 1 + (length s - (at + 1)) ≡ 1 + length r = omega arith in
    (λ i. cond ((missing (length s) (at + 1) ∙ ap (λ (j : ℕ). eqb j 0) (sym e)) i) None
    (cond (ltb (sym g i) (least k)) None (cond (ltb (n i) (sym g i)) None (Some (sym g i)))))
    ∙ folded None (Some (get_or r 0 0)) (eqb (length r) 0) (ltb (get_or r 0 0) (least k)) (ltb (1 + length r) (get_or r 0 0))

least-two : (k : ℕ) → 2 ≤ least k
least-two k = go (eqb k 29) where
  go : (t : Bool) → 2 ≤ cond t 4 2
  go true = omega arith
  go false = omega arith

-- the reading at a place, by its option's length
abbrev by_length : (ℕ → TcpOption) → (ℕ → Reading) → Option ℕ → Reading
by_length o rest None = malformed
by_length o rest (Some n) = more (o n) (rest n)

abbrev option_at : List ℕ → ℕ → ℕ → TcpOption
option_at s at n = record { kind = get_or s at 0; at = at; len = n }

abbrev on : List ℕ → ℕ → Reading
on s at = read_from 0 at (drop at s)

read_at : (s : List ℕ) (at : ℕ) → at < length s
    → on s at ≡ cond (eqb (get_or s at 0) 0) (options []) (cond (eqb (get_or s at 0) 1) (on s (at + 1))
    (by_length (option_at s at) (λ (n : ℕ). on s (at + n)) (length_at_lem s at (least (get_or s at 0)))))
unfolding read_from
read_at s at h =
    ap (read_from 0 at) first
    ∙ ap (λ (x : Reading). cond (eqb k 0) (options []) (cond (eqb k 1) (read_from 0 (at + 1) r) x)) (go (any (length_faults_of k r)) refl)
  where
    k : ℕ
    k = get_or s at 0

    r : List ℕ
    r = drop (at + 1) s

    first : drop at s ≡ k ∷ r
    first = drop-cons s at 0 h ∙ ap (λ (j : ℕ). k ∷ drop j s) (sym (add-one at))

    len : length_at_lem s at (least k) ≡ cond (any (length_faults_of k r)) None (Some (get_or r 0 0))
    len = length-is s at k r (length-drop (at + 1) s) h (get_or-drop (at + 1) s 0 0 ∙ ap (λ (j : ℕ). get_or s j 0) (add-zero (at + 1)))

    is : (t : Bool) → any (length_faults_of k r) ≡ t → cond t None (Some (get_or r 0 0)) ≡ length_at_lem s at (least k)
    is t e = ap (λ (b : Bool). cond b None (Some (get_or r 0 0))) (sym e) ∙ sym len

    go : (t : Bool) → any (length_faults_of k r) ≡ t
        → cond t malformed (more (record { kind = k; at = at; len = get_or r 0 0 }) (read_from (get_or r 0 0 - 1) (at + 1) r))
        ≡ by_length (option_at s at) (λ (n : ℕ). on s (at + n)) (length_at_lem s at (least k))
    go true e = ap (by_length (option_at s at) (λ (n : ℕ). on s (at + n))) (is true e)
    go false e =
        let n = get_or r 0 0 in
        let g = length_good k r e in
        let l = least-two k in
        let q : at + 1 + (n - 1) ≡ at + n = omega arith in
        ap (more (option_at s at n)) (read-skip (n - 1) (at + 1) r (omega arith) ∙ ap (read_from 0 (at + 1 + (n - 1))) (drop-drop (n - 1) (at + 1) s) ∙ ap (on s) q)
        ∙ ap (by_length (option_at s at) (λ (j : ℕ). on s (at + j))) (is false e)

-- The loop has come to `at`, with m and a noted, and what is left decides the answer.
pub record Along (s : List ℕ) (at : ℕ) (m a : Occurrence) : Type 0 where
  pub within : at ≤ length s
  pub md5s : m.count ≤ at
  pub aos : a.count ≤ at
  pub rest : after m a (on s at) ≡ options_of s

-- what is seen before any option is read
abbrev pub Nothing : Occurrence → Type 0
Nothing o = (o.count ≡ 0) × ((o.at ≡ 0) × (o.len ≡ 0))

pub nothing : (o : Occurrence) → Nothing o → o ≡ none
nothing o z = λ i. record { count = z.0 i; at = z.1.0 i; len = z.1.1 i }

pub start : (s : List ℕ) (m a : Occurrence) → Nothing m → Nothing a → Along s 0 m a
unfolding options_of
start s m a e f =
    record {
      within = omega arith;
      md5s = omega (arith, e.0);
      aos = omega (arith, f.0);
      rest = (λ i. after (nothing m e i) (nothing a f i) (read_from 0 0 s)) ∙ after_none (read_from 0 0 s);
    }

pub done : (s : List ℕ) (at : ℕ) (m a : Occurrence) → Along s at m a → length s ≤ at → Some (record { md5 = m; ao = a }) ≡ options_of s
unfolding read_from
done s at m a d h = sym (ap (λ (l : List ℕ). after m a (read_from 0 at l)) (drop_of_length-le s h)) ∙ d.rest

-- what is known after the option x at `at`
abbrev pub Next : List ℕ → ℕ → Occurrence → Occurrence → Option Step → Type 0
Next s at m a (Some S.End) = Some (record { md5 = m; ao = a }) ≡ options_of s
Next s at m a (Some S.Nop) = Along s (at + 1) m a
Next s at m a (Some (S.Md5 n)) = (2 ≤ n) × (at + n ≤ length s) × ((r : Occurrence) → r ≡ noted m at n → Along s (at + n) r a)
Next s at m a (Some (S.Ao n)) = (2 ≤ n) × (at + n ≤ length s) × ((r : Occurrence) → r ≡ noted a at n → Along s (at + n) m r)
Next s at m a (Some (S.Other n)) = (2 ≤ n) × Along s (at + n) m a
Next s at m a None = None ≡ options_of s

noted-count : (o : Occurrence) (at n : ℕ) → (noted o at n).count ≤ o.count + 1
unfolding noted
noted-count o at n = go (eqb o.count 0) where
  go : (t : Bool) → (cond {A = Occurrence} t (record { count = 1; at = at; len = n }) (record { count = o.count + 1; at = o.at; len = o.len })).count ≤ o.count + 1
  go true = omega arith
  go false = omega arith

length-bounds : (s : List ℕ) (at low n : ℕ) → length_at_lem s at low ≡ Some n → (low ≤ n) × (n ≤ 1 + (length s - (at + 1)))
unfolding length_at_lem
length-bounds s at low n e = go (leb (length s) (at + 1)) (ltb x low) (ltb (1 + (length s - (at + 1))) x) refl refl e where
  x : ℕ
  x = get_or s (at + 1) 0

  go : (a b c : Bool) → ltb x low ≡ b → ltb (1 + (length s - (at + 1))) x ≡ c → cond a None (cond b None (cond c None (Some x))) ≡ Some n → (low ≤ n) × (n ≤ 1 + (length s - (at + 1)))
  go true b c p q e = let z : ◌≡◌ {A = ℕ} 0 1 = cc in absurd (omega arith)
  go false true c p q e = let z : ◌≡◌ {A = ℕ} 0 1 = cc in absurd (omega arith)
  go false false true p q e = let z : ◌≡◌ {A = ℕ} 0 1 = cc in absurd (omega arith)
  go false false false p q e = let f : x ≡ n = cc in (omega (arith, ltb-false x low p), omega (arith, ltb-false (1 + (length s - (at + 1))) x q))

module _ (s : List ℕ) (at : ℕ) (m a : Occurrence) (h : at < length s) (d : Along s at m a) where
  -- an option with a length, once its kind is known
  sized : (low : ℕ) (f : ℕ → Step) (l : Option ℕ) → 2 ≤ low → length_at_lem s at low ≡ l
      → after m a (by_length (option_at s at) (λ (n : ℕ). on s (at + n)) l) ≡ options_of s
      → ((n : ℕ) → 2 ≤ n → at + n ≤ length s → after m a (more (option_at s at n) (on s (at + n))) ≡ options_of s → Next s at m a (Some (f n)))
      → Next s at m a (option_map f l)
  sized low f None k e q g = q
  sized low f (Some n) k e q g = let b = length-bounds s at low n e in g n (omega arith) (omega arith) q

  -- it is noted by its kind
  marked : (n : ℕ) (p q : Bool) → eqb (get_or s at 0) 19 ≡ p → eqb (get_or s at 0) 29 ≡ q → after m a (more (option_at s at n) (on s (at + n))) ≡ options_of s
      → after (noted_if p m at n) (noted_if q a at n) (on s (at + n)) ≡ options_of s
  marked n p q e f r = (λ i. after (noted_if (sym e i) m at n) (noted_if (sym f i) a at n) (on s (at + n))) ∙ sym (after_more m a (option_at s at n) (on s (at + n))) ∙ r

  core : Next s at m a (step_at_lem s at)
  unfolding step_at_lem
  core = go (eqb k 0) (eqb k 1) (eqb k 19) (eqb k 29) refl refl (sym (ap (after m a) (read_at s at h)) ∙ d.rest) where
    k : ℕ
    k = get_or s at 0

    rest : Option ℕ → Reading
    rest l = by_length (option_at s at) (λ (n : ℕ). on s (at + n)) l

    low : (t : Bool) → eqb k 29 ≡ t → after m a (rest (length_at_lem s at (least k))) ≡ options_of s → after m a (rest (length_at_lem s at (cond t 4 2))) ≡ options_of s
    low t e q = ap (λ (b : Bool). after m a (rest (length_at_lem s at (cond b 4 2)))) (sym e) ∙ q

    go : (b0 b1 b19 b29 : Bool) → eqb k 19 ≡ b19 → eqb k 29 ≡ b29
        → after m a (cond b0 (options []) (cond b1 (on s (at + 1)) (rest (length_at_lem s at (least k))))) ≡ options_of s
        → Next s at m a (cond b0 (Some S.End) (cond b1 (Some S.Nop) (cond b19 (option_map S.Md5 (length_at_lem s at 2)) (cond b29 (option_map S.Ao (length_at_lem s at 4)) (option_map S.Other (length_at_lem s at 2))))))
    go true b1 b19 b29 e f q = q
    go false true b19 b29 e f q = record { within = omega arith; md5s = omega (arith, d.md5s); aos = omega (arith, d.aos); rest = q }
    go false false true true e f q = absurd (omega (arith, eqb-true k 19 e, eqb-true k 29 f))
    go false false true false e f q =
        sized 2 S.Md5 (length_at_lem s at 2) (omega arith) refl (low false f q)
        (λ n b c r. (
          b,
          c,
          λ o z. record {
            within = c;
            md5s = rw z (let t = noted-count m at n in omega (arith, d.md5s));
            aos = omega (arith, d.aos);
            rest = ap (λ (y : Occurrence). after y a (on s (at + n))) z ∙ marked n true false e f r;
          },
        ))
    go false false false true e f q =
        sized 4 S.Ao (length_at_lem s at 4) (omega arith) refl (low true f q)
        (λ n b c r. (
          b,
          c,
          λ o z. record {
            within = c;
            md5s = omega (arith, d.md5s);
            aos = rw z (let t = noted-count a at n in omega (arith, d.aos));
            rest = ap (λ (y : Occurrence). after m y (on s (at + n))) z ∙ marked n false true e f r;
          },
        ))
    go false false false false e f q =
        sized 2 S.Other (length_at_lem s at 2) (omega arith) refl (low false f q)
        (λ n b c r. (b, record { within = c; md5s = omega (arith, d.md5s); aos = omega (arith, d.aos); rest = marked n false false e f r }))

-- one turn of the loop: the option y was read at `at`, or none whose length is right
pub next : (s : List ℕ) (at : ℕ) (m a : Occurrence) {x : Option Step} {f : Step} (y : Step) → at < length s → Along s at m a → x ≡ step_at_lem s at → x ≡ Some f → f ≡ y
    → Next s at m a (Some y)
next s at m a y h d q p e = subst (Next s at m a) (sym q ∙ p ∙ ap Some e) (core s at m a h d)

pub wrong : (s : List ℕ) (at : ℕ) (m a : Occurrence) {x : Option Step} → at < length s → Along s at m a → x ≡ step_at_lem s at → x ≡ None → None ≡ options_of s
wrong s at m a h d q p = subst (Next s at m a) (sym q ∙ p) (core s at m a h d)
