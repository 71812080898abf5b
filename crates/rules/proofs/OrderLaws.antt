-- Demand 3: arrival order decides no verdict on a true segment. By one law for each kind of arrival, an induction over the list, and
-- permutations. That a true segment is accepted is `true-good`, the round trip.
use Rattle.std.specs.Prelude.{ℕ, ◌+◌, max, ◌≡◌, refl, Bool, true, false, cond, length, eqb}
use Rattle.std.proofs.Math.Path.{ap, subst⁻¹}
use Rattle.std.proofs.Common.{sym, ◌∙◌, subst, subst₂, arith, eqb-true}
use mathlib.Core.List.Permᴰ
use mathlib.Core.List.{List, [], ◌∷◌, map, Permᴰ}
use Rattle.octets.specs.Each.{Each}
use Rattle.keys.specs.declared.entry.Pair.{Pair}
use Rattle.tables.specs.declared.Index.{Index}
use Rattle.tables.specs.Tables.{Tables, no_index}
use Rattle.tables.specs.Valid.{ValidTables}
use Rattle.rules.specs.declared.Outcome.TheVariants.{Good, Bad}
use Rattle.rules.specs.declared.Verdict.{Verdict}
use Rattle.rules.specs.declared.Verdict.TheVariants.{Accept, Drop}
use Rattle.rules.specs.declared.Connection.{Connection}
use Rattle.rules.specs.declared.State.{State}
use Rattle.rules.specs.declared.Judged.{Judged}
use Rattle.rules.specs.Connection.{Arrival, sized, is_open_of, is_md5_of, extension_of_lem, slots, is_counted, available, next_key_of}
use Rattle.rules.specs.Connection.{with_accepted_of, with_drop_of}
use Rattle.rules.specs.Calls.{check, judged_by, judged}
use Rattle.rules.specs.Ends.{Allowed, TrueSegment, Verifies}
use Rattle.rules.specs.Demand3.{judge_all, Arriving, real, other, arrival, positions, requested, trues, others, AllFit, largest, those}
use Rattle.rules.specs.Demand3.{last_or, Within, Close, NoStop, Alike, after, Given, Demand3, Demand3Holds, Demand3Lent}
use Rattle.rules.specs.Lent.{tables}
use Rattle.rules.proofs.LentLaws.{lent-apart}
use Rattle.rules.specs.History.{accepts, counted_drops}
use Rattle.rules.proofs.JudgeLaws.{other-bad}
use Rattle.rules.proofs.AcceptedLaws.{true-good}
use Rattle.rules.proofs.CountLaws.{raised, length-count, Counts, count_none, count-accept, count-drop}

-- Numbers less than 2^31 from each other.

both-within : (a b : ℕ) (l : List ℕ) → Each (Within a) l → Each (Within b) l → Each (Within (max a b)) l
both-within a b [] p q = tt
both-within a b (x ∷ l) p q = (omega arith, both-within a b l p.1 q.1)

close-max : (a b : ℕ) (l : List ℕ) → Close (a ∷ b ∷ l) → Close (max a b ∷ l)
close-max a b l c = (both-within a b l c.0.1 c.1.0, c.1.1)

-- The key rule: "what the last true segment asking for an available key asked for, or the starting one".

last_step : (t : Tables) (p : Pair) (r k : ℕ) (l : List ℕ) → last_or (next_key_of t p r k) (those (available t p) l) ≡ last_or k (those (available t p) (r ∷ l))
unfolding next_key_of
last_step t p r k l = go (eqb r k) (available t p r) refl refl
  where
    go : (b c : Bool) → eqb r k ≡ b → available t p r ≡ c → last_or (next_key_of t p r k) (those (available t p) l) ≡ last_or k (those (available t p) (r ∷ l))
    go true true e f = simp (e, f, next_key_of) (ap (λ (n : ℕ). last_or n (those (available t p) l)) (sym (eqb-true r k e)))
    go true false e f = simp (e, f, next_key_of)
    go false true e f = simp (e, f, next_key_of)
    go false false e f = simp (e, f, next_key_of)

-- What judging the list l from s comes to: the verdicts vs and the state e.
record Run (t : Tables) (conn : Connection) (s : State) (l : List (Arriving t conn)) (vs : List Verdict) (e : State) : Type 0 where
  fits : AllFit l vs
  reference : e.seen ≡ largest s.seen (positions l)
  key : e.send_id ≡ last_or s.send_id (those (available t conn.pair) (requested l))
  rest : (e.conn ≡ s.conn) × (e.sent ≡ s.sent) × (e.ask_id ≡ s.ask_id)
  counts : Counts s vs e
  its-trues : accepts vs ≡ trues l
  its-others : counted_drops vs ≡ others l

-- one arrival before the others
module _ (t : Tables) (conn : Connection) (s : State) (l : List (Arriving t conn)) (vs : List Verdict) (e : State) where
  real-step : (a : Arrival) (x r : ℕ) (p : TrueSegment t conn a x r) → Run t conn (with_accepted_of x (next_key_of t conn.pair r s.send_id) s) l vs e
      → Run t conn s (real a x r p ∷ l) (Accept (extension_of_lem x) ∷ vs) e
  real-step a x r p h =
      record {
        fits = (refl, h.fits);
        reference = h.reference;
        key = h.key ∙ last_step t conn.pair r s.send_id (requested l);
        rest = h.rest;
        counts = count-accept s vs e x _ (extension_of_lem x) h.counts;
        its-trues = omega (arith, h.its-trues);
        its-others = h.its-others;
      }

  other_step : (a : Arrival) (o : Verifies t conn a → ⊥) (n : ℕ) → length s.drops ≡ slots → is_counted n ≡ sized a.source a.destination
      → Run t conn (with_drop_of n s) l vs e → Run t conn s (other a o ∷ l) (Drop n ∷ vs) e
  other_step a o n c q h =
      record {
        fits = (λ k z. let z : ◌≡◌ {A = ℕ} 0 1 = cc in absurd (omega arith), h.fits);
        reference = h.reference;
        key = h.key;
        rest = h.rest;
        counts = count-drop s vs e n c h.counts;
        its-trues = h.its-trues;
        its-others = omega (arith, h.its-others, ap (λ (b : Bool). cond {A = ℕ} b 1 0) q);
      }

-- Two orders of the same numbers, and of the same arrivals.

largest-perm : {l k : List ℕ} → Permᴰ l k → (m : ℕ) → largest m l ≡ largest m k
largest-perm Permᴰ.nil m = refl
largest-perm (Permᴰ.cons {b = y} {l₁ = l} e p) m = ap (λ (z : ℕ). largest (max m z) l) e ∙ largest-perm p (max m y)
largest-perm (Permᴰ.swap {l = l} e g) m = ap (λ (z : ℕ). largest z l) (omega arith)
largest-perm (Permᴰ.trans p q) m = largest-perm p m ∙ largest-perm q m

each-perm : (P : ℕ → Type 0) {l k : List ℕ} → Permᴰ l k → Each P l → Each P k
each-perm P Permᴰ.nil c = c
each-perm P (Permᴰ.cons e p) c = (subst P e c.0, each-perm P p c.1)
each-perm P (Permᴰ.swap e g) c = (subst P g c.1.0, (subst P e c.0, c.1.1))
each-perm P (Permᴰ.trans p q) c = each-perm P q (each-perm P p c)

close-perm : {l k : List ℕ} → Permᴰ l k → Close l → Close k
close-perm Permᴰ.nil c = c
close-perm (Permᴰ.cons {l₂ = k} e p) c = (subst (λ (z : ℕ). Each (Within z) k) e (each-perm _ p c.0), close-perm p c.1)
close-perm (Permᴰ.swap {l = l} e g) c =
    ((omega arith, subst (λ (z : ℕ). Each (Within z) l) g c.1.0), (subst (λ (z : ℕ). Each (Within z) l) e c.0.1, c.1.1))
close-perm (Permᴰ.trans p q) c = close-perm q (close-perm p c)

module _ {t : Tables} {conn : Connection} where
  -- a number that the arrivals add up to does not depend on their order
  sum-perm : (f : List (Arriving t conn) → ℕ) → ((i : Arriving t conn) (l : List (Arriving t conn)) → f (i ∷ l) ≡ f (i ∷ []) + f l)
      → {l k : List (Arriving t conn)} → Permᴰ l k → f l ≡ f k
  sum-perm f step Permᴰ.nil = refl
  sum-perm f step (Permᴰ.cons {a = i} {b = j} {l₁ = l} {l₂ = k} e p) =
      omega (arith, step i l, step j k, ap (λ (z : Arriving t conn). f (z ∷ [])) e, sum-perm f step p)
  sum-perm f step (Permᴰ.swap {a = i} {b = j} {a' = j'} {b' = i'} {l = l} e g) =
      omega (
        arith,
        step i (j ∷ l),
        step j l,
        step j' (i' ∷ l),
        step i' l,
        ap (λ (z : Arriving t conn). f (z ∷ [])) e,
        ap (λ (z : Arriving t conn). f (z ∷ [])) g,
      )
  sum-perm f step (Permᴰ.trans p q) = sum-perm f step p ∙ sum-perm f step q

  trues-step : (i : Arriving t conn) (l : List (Arriving t conn)) → trues (i ∷ l) ≡ trues (i ∷ []) + trues l
  trues-step (real a x r p) l = omega arith
  trues-step (other a o) l = omega arith

  others-step : (i : Arriving t conn) (l : List (Arriving t conn)) → others (i ∷ l) ≡ others (i ∷ []) + others l
  others-step (real a x r p) l = omega arith
  others-step (other a o) l = omega arith

  positions-cons : (i : Arriving t conn) (l k : List (Arriving t conn)) → Permᴰ (positions l) (positions k) → Permᴰ (positions (i ∷ l)) (positions (i ∷ k))
  positions-cons (real a x r p) l k h = Permᴰ.cons refl h
  positions-cons (other a o) l k h = h

  positions-swap : (i j : Arriving t conn) (l : List (Arriving t conn)) → Permᴰ (positions (i ∷ j ∷ l)) (positions (j ∷ i ∷ l))
  positions-swap (real a x r p) (real b y q w) l = Permᴰ.swap refl refl
  positions-swap (real a x r p) (other b w) l = Permᴰ.refl (x ∷ positions l)
  positions-swap (other a o) (real b y q w) l = Permᴰ.refl (y ∷ positions l)
  positions-swap (other a o) (other b w) l = Permᴰ.refl (positions l)

  positions-perm : {l k : List (Arriving t conn)} → Permᴰ l k → Permᴰ (positions l) (positions k)
  positions-perm Permᴰ.nil = Permᴰ.nil
  positions-perm (Permᴰ.cons {b = j} {l₁ = l} {l₂ = k} e p) =
      subst⁻¹ (λ (z : Arriving t conn). Permᴰ (positions (z ∷ l)) (positions (j ∷ k))) e (positions-cons j l k (positions-perm p))
  positions-perm (Permᴰ.swap {a = i} {b = j} {l = l} e g) =
      subst₂ (λ (y z : Arriving t conn). Permᴰ (positions (i ∷ j ∷ l)) (positions (y ∷ z ∷ l))) g e (positions-swap i j l)
  positions-perm (Permᴰ.trans p q) = Permᴰ.trans (positions-perm p) (positions-perm q)

module _ (t : Tables) (valid : ValidTables t) (conn : Connection) (allowed : Allowed conn) (is_open : is_open_of conn ≡ true)
    (way : is_md5_of conn ≡ false)
    (true-good : (reference : ℕ) (a : Arrival) (x r : ℕ) → TrueSegment t conn a x r → Within reference x → check t conn reference a ≡ Good x r) where
  -- one call
  judged-good : (s : State) → s.conn ≡ conn → (a : Arrival) (x r : ℕ) → check t conn s.seen a ≡ Good x r
      → judged t a s
      ≡ record { verdict = Accept (extension_of_lem x); index = no_index; state = with_accepted_of x (next_key_of t conn.pair r s.send_id) s }
  unfolding judged
  judged-good s q a x r e = ap (judged_by t s) (ap (λ (z : Connection). check t z s.seen a) q ∙ e) ∙ rw (q, is_open, way)

  judged-bad : (s : State) → s.conn ≡ conn → (a : Arrival) (n : ℕ) (i : Index) → check t conn s.seen a ≡ Bad n i
      → judged t a s ≡ record { verdict = Drop n; index = i; state = with_drop_of n s }
  unfolding judged
  judged-bad s q a n i e = ap (judged_by t s) (ap (λ (z : Connection). check t z s.seen a) q ∙ e) ∙ rw (q, is_open)

  order : (l : List (Arriving t conn)) (s : State) → s.conn ≡ conn → length s.drops ≡ slots → Close (s.seen ∷ positions l)
      → Run t conn s l (judge_all t s (map arrival l)).verdicts (judge_all t s (map arrival l)).state
  order [] s q n c =
      record { fits = tt; reference = refl; key = refl; rest = (refl, refl, refl); counts = count_none s; its-trues = refl; its-others = refl }
  order (real a x r p ∷ l) s q n c =
      subst⁻¹ (λ (j : Judged). Run t conn s (real a x r p ∷ l) (j.verdict ∷ (judge_all t j.state (map arrival l)).verdicts) (judge_all t j.state (map arrival l)).state)
      (judged-good s q a x r (true-good s.seen a x r p c.0.0))
      (real-step t conn s l _ _ a x r p (order l (with_accepted_of x (next_key_of t conn.pair r s.send_id) s) q n (close-max s.seen x (positions l) c)))
  order (other a o ∷ l) s q n c =
      let d = other-bad t conn s.seen a valid allowed way is_open o in
      subst⁻¹ (λ (j : Judged). Run t conn s (other a o ∷ l) (j.verdict ∷ (judge_all t j.state (map arrival l)).verdicts) (judge_all t j.state (map arrival l)).state)
      (judged-bad s q a d.0 d.1 d.2)
      (other_step t conn s l _ _ a o d.0 n d.3 (order l (with_drop_of d.0 s) q (length-count d.0 s.drops ∙ n) c))

-- Another order of the arrivals is another order of what is known of them.

unmap : {A B : Type 0} (f : A → B) {m k : List B} → Permᴰ m k → (l : List A) → map f l ≡ m → (j : List A) × Permᴰ l j × (map f j ≡ k)
unmap f Permᴰ.nil [] e = ([], Permᴰ.nil, refl)
unmap f Permᴰ.nil (x ∷ l) e = let z : ◌≡◌ {A = ℕ} 0 1 = cc in absurd (omega arith)
unmap f (Permᴰ.cons c p) [] e = let z : ◌≡◌ {A = ℕ} 0 1 = cc in absurd (omega arith)
unmap f (Permᴰ.cons c p) (x ∷ l) e =
    let r = unmap f p l (cc) in
    (x ∷ r.0, Permᴰ.cons refl r.1, cc (c, r.2))
unmap f (Permᴰ.swap c d) [] e = let z : ◌≡◌ {A = ℕ} 0 1 = cc in absurd (omega arith)
unmap f (Permᴰ.swap c d) (x ∷ []) e = let z : ◌≡◌ {A = ℕ} 0 1 = cc in absurd (omega arith)
unmap f (Permᴰ.swap c d) (x ∷ (y ∷ l)) e = (y ∷ (x ∷ l), Permᴰ.swap refl refl, cc (c, d))
unmap f (Permᴰ.trans p q) l e =
    let r = unmap f p l e in
    let s = unmap f q r.0 r.2 in
    (s.0, Permᴰ.trans r.1 s.1, s.2)

-- The demand.
module _ (t : Tables) (q : State) where
  judging : (l : List (Arriving t q.conn)) → Given t q l → Run t q.conn q l (judge_all t q (map arrival l)).verdicts (after t q l)
  judging l g =
      order t g.valid q.conn g.allowed g.is_open g.way
      (true-good t g.valid q.conn g.way g.allowed g.typed.local g.typed.remote) l q refl g.typed.counts g.close

  alike : (l k : List (Arriving t q.conn)) → Given t q l → Permᴰ l k → NoStop (after t q l) → NoStop (after t q k) → Alike (after t q l) (after t q k)
  alike l k g p n m =
      let e = judging l g in
      let d =
      judging k
      (record {
        valid = g.valid;
        typed = g.typed;
        allowed = g.allowed;
        is_open = g.is_open;
        way = g.way;
        close = close-perm (Permᴰ.cons refl (positions-perm p)) g.close;
      })
      in
      record {
        conn = e.rest.0 ∙ sym d.rest.0;
        sent = e.rest.1 ∙ sym d.rest.1;
        seen = e.reference ∙ largest-perm (positions-perm p) q.seen ∙ sym d.reference;
        asks = e.rest.2 ∙ sym d.rest.2;
        accepted =
            e.counts.accepted ∙ ap (λ (n : ℕ). raised n q.accepted) (e.its-trues ∙ sum-perm trues trues-step p ∙ sym d.its-trues) ∙ sym d.counts.accepted;
        dropped = omega (arith, e.counts.total n.drops, e.its-others, d.counts.total m.drops, d.its-others, sum-perm others others-step p);
      }

  holds : (l : List (Arriving t q.conn)) → Given t q l → Demand3 t q l
  holds l g =
      let e = judging l g in
      record {
        verdicts = e.fits;
        reference = e.reference;
        key = e.key;
        accepted = λ n. omega (arith, e.counts.accepted, e.its-trues, n.accepts);
        dropped = λ n. omega (arith, e.counts.total n.drops, e.its-others);
        rest = e.rest;
        orders = λ k p n m.
            let u = unmap arrival p l refl in
            subst (λ (z : List Arrival). NoStop (judge_all t q z).state → Alike (after t q l) (judge_all t q z).state) u.2 (alike l u.0 g u.1 n) m;
      }

pub demand3 : Demand3Holds
demand3 = holds

pub demand3-lent : Demand3Lent
demand3-lent b n q l e apart typed allowed opens way close =
    demand3 (tables b) q l
    (record { valid = lent-apart b n e apart; typed = typed; allowed = allowed; is_open = opens; way = way; close = close })
