-- What a record that is whole makes of the desk: the views of the results, field by field.
use Rattle.std.proofs.Common.{◌≡◌, ℕ, ◌+◌, ◌-◌, ◌%◌, ◌≤◌, min, Bool, true, false, leb, List, [], ◌++◌, length, get_or, take, drop, sym, refl, ap, ◌∙◌, append-nil, arith, length-drop, take-append-drop, length-take-le, take_all, take-take, eq-eqb, ne_eqb, leb-false, leb-true}
use native.Mathlib.Nat.{zero-mod}
use lib.Seq.{paste, take-paste, drop-paste, take-append-add}
use Rattle.tables.specs.declared.Index.{Index}
use Rattle.rules.specs.declared.Outcome.{Outcome}
use Rattle.rules.specs.declared.Outcome.TheVariants.{Bad}
use Rattle.rules.specs.declared.State.{State}
use Rattle.rules.specs.declared.Judged.{Judged}
use Rattle.rules.specs.Connection.{empty}
use Rattle.rules.specs.Calls.{judged}
use Rattle.recording.specs.declared.desk.Desk as C
use Rattle.recording.specs.declared.line.Line.{Line}
use Rattle.recording.specs.declared.line.Line.TheVariants.{Nothing, Refused}
use Rattle.recording.specs.Lines.{verdict_line_of, line_text}
use Rattle.recording.specs.Recording.{Desk, start, record_bytes_of, entry_length, used_length, segment_bytes, next, with_held, stopped, desk_tables, open_outcome_of}
use Rattle.recording.specs.Recording.{open_state_of, at_opening_of, opened_by_lem, arrival_from, judged_on, entered, settled}
use Rattle.recording.specs.Views.{desk_view, held_count, Given}

-- nothing is printed
pub unprinted : (p : List ℕ) → p ++ line_text Nothing ≡ p
unfolding line_text
unprinted p = append-nil p

-- a desk that holds nothing of a record, by its fields
pub bare-view : (p t : List ℕ) (r : C.Desk) (d : Desk) → p ≡ d.printed → r.stage ≡ d.stage → take r.table_length t ≡ d.table → r.held ≡ 0
    → [] ≡ d.held → r.records ≡ d.records → r.segments ≡ d.segments → r.state ≡ d.state → desk_view p t r ≡ d
bare-view p t r d pe se te he hd re ge qe =
    λ i.
    record {
      stage = se i;
      table = te i;
      held = (none ∙ hd) i;
      records = re i;
      segments = ge i;
      state = qe i;
      printed = pe i;
    }
  where
    none : take (held_count r) r.begun ≡ []
    none = ap (λ (n : ℕ). take n r.begun) (ap (λ (n : ℕ). n % record_bytes_of (get_or r.begun 0 0)) he ∙ zero-mod (record_bytes_of (get_or r.begun 0 0)))

-- the part of a buffer that is the table
pub table-part : (t : List ℕ) (n k : ℕ) → k ≡ min n (length t) → take k t ≡ take n t
table-part t n k e = go (leb n (length t)) refl
  where
    go : (b : Bool) → leb n (length t) ≡ b → take k t ≡ take n t
    go true q = let l = leb-true n (length t) q in ap (λ (m : ℕ). take m t) (let z : k ≡ n = omega arith in z)
    go false q = let l = leb-false n (length t) q in take_all k t (omega arith) ∙ sym (take_all n t (omega arith))

take_twice : (b : List ℕ) (l m n : ℕ) → n ≡ min l m → l ≤ length b → take m (take l b) ≡ take n b
take_twice b l m n e h = go (leb m l) refl
  where
    go : (c : Bool) → leb m l ≡ c → take m (take l b) ≡ take n b
    go true q = let k = leb-true m l q in take-take m l b k ∙ ap (λ (j : ℕ). take j b) (let z : m ≡ n = omega arith in z)
    go false q =
        let k = leb-false m l q in
        let w = length-take-le l b h in
        take_all m (take l b) (omega arith) ∙ ap (λ (j : ℕ). take j b) (let z : l ≡ n = omega arith in z)

-- the buffer with more bytes behind the table, as many as it has room for
module _ (t b e : List ℕ) (tl l at n : ℕ) (ae : at ≡ min tl (length t)) (ne : n ≡ min l (length t - at)) (lb : l ≤ length b)
    (q : e ≡ paste t at (take (2 + n - 2) b) (length (take (2 + n - 2) b))) where
  ln : length (take n b) ≡ n
  ln = length-take-le n b (omega arith)

  is-paste : e ≡ paste t at (take n b) n
  is-paste =
      let s : 2 + n - 2 ≡ n = omega arith in
      q ∙ (λ i. paste t at (take (s i) b) (length (take (s i) b))) ∙ ap (paste t at (take n b)) ln

  pub joined-table : take (at + n) e ≡ take (length t) (take tl t ++ take l b)
  joined-table =
      let lx : length (take tl t) ≡ at = ap length (sym (table-part t tl at ae)) ∙ length-take-le at t (omega arith) in
      let whole : length t ≡ length (take tl t) + (length t - at) = omega arith in
      ap (take (at + n)) is-paste
      ∙ take-paste t at (take n b) n (omega arith) (omega (arith, ln))
      ∙ (λ i. table-part t tl at ae i ++ (take-take n n b (omega arith) ∙ sym (take_twice b l (length t - at) n ne lb)) i)
      ∙ sym (ap (λ (k : ℕ). take k (take tl t ++ take l b)) whole ∙ take-append-add (take tl t) (take l b) (length t - at))

  pub joined-behind : e ≡ take (at + n) e ++ drop (at + n) t
  joined-behind =
      sym (take-append-drop (at + n) e)
      ∙ ap (λ (z : List ℕ). take (at + n) e ++ z)
      (ap (drop (at + n)) is-paste ∙ drop-paste t at (take n b) n (omega arith) (omega (arith, ln)))

-- the buffer is as it was
pub unchanged : (n : ℕ) (t : List ℕ) → t ≡ take n t ++ drop n t
unchanged n t = sym (take-append-drop n t)

-- Calls, by what they give of the desk.

module _ {c : C.Desk} {b : List ℕ} {r : C.Desk} {l : Line} {left : List ℕ} where
  -- the same of another function that gives the same
  pub given-same : (f g : Desk → Desk) → ((p : List ℕ) → f (desk_view p b c) ≡ g (desk_view p b c)) → Given c b f r l left → Given c b g r l left
  given-same f g e q = record { desk = λ p. q.desk p ∙ e p; behind = q.behind }

-- A last line, an entry, the opening, a segment. The results are written as the code makes them.

abbrev bare : ℕ → ℕ → ℕ → ℕ → State → List ℕ → C.Desk
bare stage n records segments q begun =
    record { stage = stage; held = 0; table_length = n; records = records; segments = segments; state = q; begun = begun }

pub starts : (q : State) (g : List ℕ) → q ≡ empty → (t : List ℕ) → desk_view [] t (bare 0 0 0 0 q g) ≡ start
starts q g e t = bare-view [] t (bare 0 0 0 0 q g) start refl refl refl refl refl refl refl e

pub stops : (c : C.Desk) (l : Line) (t : List ℕ) → Given c t (stopped l) (bare 2 c.table_length c.records c.segments c.state c.begun) l t
stops c l t =
    record {
      desk =
          λ p.
          bare-view (p ++ line_text l) t (bare 2 c.table_length c.records c.segments c.state c.begun) (stopped l (desk_view p t c)) refl refl refl
          refl refl refl refl refl;
      behind = unchanged c.table_length t;
    }

pub enters : (c : C.Desk) (t left h : List ℕ) (at n k : ℕ) → at ≡ min c.table_length (length t) → n ≡ min (entry_length h) (length t - at)
    → 2 + entry_length h ≤ length h → left ≡ paste t at (take (2 + n - 2) (drop 2 h)) (length (take (2 + n - 2) (drop 2 h))) → k ≡ next c.records
    → Given c t (λ d. entered (take (length t)) (with_held h d)) (bare c.stage (at + n) k c.segments c.state c.begun) Nothing left
enters c t left h at n k ae ne fits q ke =
    record {
      desk =
          λ p.
          bare-view (p ++ line_text Nothing) left (bare c.stage (at + n) k c.segments c.state c.begun)
          (entered (take (length t)) (with_held h (desk_view p t c))) (unprinted p) refl
          (joined-table t (drop 2 h) left c.table_length (entry_length h) at n ae ne room q) refl refl ke refl refl;
      behind = joined-behind t (drop 2 h) left c.table_length (entry_length h) at n ae ne room q;
    }
  where
    room : entry_length h ≤ length (drop 2 h)
    room = let l = length-drop 2 h in omega (arith, fits)

pub opens : (c : C.Desk) (q : State) (k : ℕ) → k ≡ next c.records → (t : List ℕ)
    → Given c t (λ d. at_opening_of d q) (bare 1 c.table_length k c.segments q c.begun) Nothing t
opens c q k ke t =
    record {
      desk =
          λ p.
          bare-view (p ++ line_text Nothing) t (bare 1 c.table_length k c.segments q c.begun) (at_opening_of (desk_view p t c) q) (unprinted p) refl refl
          refl refl ke refl refl;
      behind = unchanged c.table_length t;
    }

pub opens_at : (c r : C.Desk) (t h : List ℕ) (l : Line) (n : ℕ) (q : State) (o : Outcome) → take n t ≡ take c.table_length t → o ≡ open_outcome_of (take n t) h
    → q ≡ open_state_of h → ((d : Desk) → opened_by_lem (with_held h d) o ≡ at_opening_of d (open_state_of h))
    → Given c t (λ d. at_opening_of d q) r l t → Given c t (λ d. opened_by_lem (with_held h d) (open_outcome_of d.table h)) r l t
opens_at c r t h l n q o e p qe k g =
    given-same (λ d. at_opening_of d q) (λ d. opened_by_lem (with_held h d) (open_outcome_of d.table h))
    (λ x.
    ap (at_opening_of (desk_view x t c)) qe
    ∙ sym (k (desk_view x t c))
    ∙ ap (opened_by_lem (with_held h (desk_view x t c))) (p ∙ ap (λ (z : List ℕ). open_outcome_of z h) e)) g

pub refuses : (c r : C.Desk) (t h : List ℕ) (l : Line) (n m : ℕ) (i : Index) (o : Outcome) → take n t ≡ take c.table_length t → o ≡ open_outcome_of (take n t) h
    → o ≡ Bad m i → Given c t (stopped (Refused m)) r l t → Given c t (λ d. opened_by_lem (with_held h d) (open_outcome_of d.table h)) r l t
refuses c r t h l n m i o e p b g =
    given-same (stopped (Refused m)) (λ d. opened_by_lem (with_held h d) (open_outcome_of d.table h))
    (λ x. ap (opened_by_lem (with_held h (desk_view x t c))) (sym b ∙ p ∙ ap (λ (z : List ℕ). open_outcome_of z h) e)) g

pub answers : (c r : C.Desk) (t h : List ℕ) (n u : ℕ) (j : Judged) (l : Line) → take n t ≡ take c.table_length t → u ≡ used_length h
    → j ≡ judged (desk_tables (take n t)) (arrival_from c.state (take (3 + u - 3) (drop 3 h))) c.state → l ≡ verdict_line_of c.segments j.verdict
    → r.stage ≡ c.stage → r.held ≡ 0 → r.table_length ≡ c.table_length → r.records ≡ next c.records → r.segments ≡ next c.segments
    → r.state ≡ j.state → Given c t (λ d. judged_on (with_held h d)) r l t
answers c r t h n u j l e ue je le s0 h0 t0 r0 g0 q0 =
    record {
      desk =
          λ p.
          bare-view (p ++ line_text l) t r _ (ap (λ (x : Line). p ++ line_text x) (le ∙ ap (λ (x : Judged). verdict_line_of c.segments x.verdict) is)) s0
          (ap (λ (x : ℕ). take x t) t0) h0 refl r0 g0 (q0 ∙ ap (λ (x : Judged). x.state) is);
      behind = unchanged r.table_length t;
    }
  where
    is : j ≡ judged (desk_tables (take c.table_length t)) (arrival_from c.state (segment_bytes h)) c.state
    is =
        let z : 3 + u - 3 ≡ used_length h = omega (arith, ue) in
        je ∙ (λ i. judged (desk_tables (e i)) (arrival_from c.state (take (z i) (drop 3 h))) c.state)

-- a record by its kind
module _ (keep : List ℕ → List ℕ) (h : List ℕ) {c : C.Desk} {b : List ℕ} {r : C.Desk} {l : Line} {left : List ℕ} where
  pub settled-entry : get_or h 0 0 ≡ 1 → Given c b (λ d. entered keep (with_held h d)) r l left → Given c b (λ d. settled keep (with_held h d)) r l left
  unfolding settled
  settled-entry e g = given-same (λ d. entered keep (with_held h d)) (λ d. settled keep (with_held h d)) (λ p. rw (eq-eqb (get_or h 0 0) 1 e)) g

  pub settled-opening : (get_or h 0 0 ≡ 1 → ⊥) → get_or h 0 0 ≡ 2 → Given c b (λ d. opened_by_lem (with_held h d) (open_outcome_of d.table h)) r l left
      → Given c b (λ d. settled keep (with_held h d)) r l left
  unfolding settled
  settled-opening n e g =
      given-same (λ d. opened_by_lem (with_held h d) (open_outcome_of d.table h)) (λ d. settled keep (with_held h d))
      (λ p. rw (ne_eqb (get_or h 0 0) 1 n, eq-eqb (get_or h 0 0) 2 e)) g

  pub settled-segment : (get_or h 0 0 ≡ 1 → ⊥) → (get_or h 0 0 ≡ 2 → ⊥) → Given c b (λ d. judged_on (with_held h d)) r l left
      → Given c b (λ d. settled keep (with_held h d)) r l left
  unfolding settled
  settled-segment n m g =
      given-same (λ d. judged_on (with_held h d)) (λ d. settled keep (with_held h d)) (λ p. rw (ne_eqb (get_or h 0 0) 1 n, ne_eqb (get_or h 0 0) 2 m)) g
