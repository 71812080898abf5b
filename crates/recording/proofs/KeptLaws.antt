-- The statement TextKept holds: a desk that keeps enough of the table prints what one prints that keeps it all. Assumes nothing.
use Rattle.std.specs.Prelude.{◌≡◌, ℕ, zero, suc, ◌≤◌, Bool, true, false, List, [], ◌∷◌, ◌++◌, length, take, ◌==◌, ◌≢◌, nat_le}
use Rattle.std.proofs.Math.Path.{refl, ap}
use Rattle.std.proofs.Common.{sym, ◌∙◌, arith, eqb-true}
use Rattle.std.proofs.Math.Seq.{take-nil}
use Rattle.keys.specs.Entry.{is_family_of}
use Rattle.keys.specs.Table.{loaded}
use Rattle.keys.specs.declared.table.TableKind.TheVariants.{Keys}
use Rattle.keys.specs.Table.{Loaded}
use Rattle.std.specs.Prelude.{Ok, Err}
use Rattle.tables.specs.declared.Index.{Index}
use Rattle.tables.specs.Tables.{no_index, key_index}
use Rattle.rules.specs.declared.Outcome.{Outcome}
use Rattle.rules.specs.declared.Outcome.TheVariants.{Good, Passed, Bad}
use Rattle.rules.specs.Calls.{judged}
use Rattle.recording.specs.Recording.{kind_of, record_bytes_of, entry_bytes, Desk, start, is_stopped, with_held, placed, faulty, open_pair_of}
use Rattle.recording.specs.Recording.{desk_entries, desk_tables, arrival_from, segment_bytes, answered, open_outcome_of, opened_by_lem, judged_on, entered, settled, looked, step, absorb, finished, whole}
use Rattle.recording.specs.Live.{enough, TextKept}
use Rattle.recording.proofs.TableLaws.{table_kept, valid-short}

abbrev with_table : List ℕ → Desk → Desk
with_table t d =
    record {
      stage = d.stage;
      table = t;
      held = d.held;
      records = d.records;
      segments = d.segments;
      state = d.state;
      printed = d.printed;
    }

module _ (room : ℕ) (h : enough ≤ room) where
  -- the desk that keeps so many bytes of the table
  abbrev kept : Desk → Desk
  kept d = with_table (take room d.table) d

  -- behind the opening it keeps all
  abbrev Whole : Desk → Type 0
  Whole d = d.stage ≡ 1 → take room d.table ≡ d.table

  -- the opening is judged the same
  outcome-kept : (t o : List ℕ) → open_outcome_of (take room t) o ≡ open_outcome_of t o
  unfolding open_outcome_of
  outcome-kept t o = go (loaded Keys desk_entries t) refl
    where
      go : (l : Loaded) → loaded Keys desk_entries t ≡ l → open_outcome_of (take room t) o ≡ open_outcome_of t o
      go (Ok n) e = ap (λ (x : List ℕ). open_outcome_of x o) (valid-short n room t h e)
      go (Err f) e = rw (table_kept room t h, e)

  -- and where it is not refused, the table is valid
  opened-whole : (t o : List ℕ) → ((n : ℕ) (i : Index) → open_outcome_of t o ≢ Bad n i) → take room t ≡ t
  unfolding open_outcome_of
  opened-whole t o g = go (loaded Keys desk_entries t) (is_family_of (open_pair_of o).family) refl refl
    where
      go : (l : Loaded) (f : Bool) → loaded Keys desk_entries t ≡ l → is_family_of (open_pair_of o).family ≡ f → take room t ≡ t
      go (Ok n) f e q = valid-short n room t h e
      go (Err f) true e q = absurd (g f.number (key_index f.index) (rw (q, e)))
      go (Err f) false e q = absurd (g 18 no_index (rw q))

  take-join : (r : ℕ) (t x : List ℕ) → take r (take r t ++ x) ≡ take r (t ++ x)
  take-join zero t x = refl
  take-join (suc r) [] x = refl
  take-join (suc r) (b ∷ t) x = ap (λ (l : List ℕ). b ∷ l) (take-join r t x)

  -- what is not faulty is placed: an entry before the opening, a segment behind it

  is-placed : (d : Desk) → faulty d.stage d.held ≡ false → placed d.stage (kind_of d.held) ≡ true
  unfolding faulty
  is-placed d f = go (placed d.stage (kind_of d.held)) refl
    where
      go : (p : Bool) → placed d.stage (kind_of d.held) ≡ p → p ≡ true
      go true q = refl
      go false q = let z : ◌≡◌ {A = ℕ} 0 1 = cc (rw q at f) in absurd (omega arith)

  before : (d : Desk) → faulty d.stage d.held ≡ false → (kind_of d.held == 1) ≡ true → d.stage ≢ 1
  before d f k s =
      let e = eqb-true (kind_of d.held) 1 k in
      let g = is-placed d f in
      let z : ◌≡◌ {A = ℕ} 0 1 = cc (rw (s, e) at g) in
      absurd (omega arith)

  behind : (d : Desk) → faulty d.stage d.held ≡ false → (kind_of d.held == 1) ≡ false → (kind_of d.held == 2) ≡ false → d.stage ≡ 1
  behind d f a b = go (d.stage == 0) (d.stage == 1) refl refl (is-placed d f)
    where
      go : (x y : Bool) → (d.stage == 0) ≡ x → (d.stage == 1) ≡ y → placed d.stage (kind_of d.held) ≡ true → d.stage ≡ 1
      go x true p q g = eqb-true d.stage 1 q
      go true false p q g = let z : ◌≡◌ {A = ℕ} 0 1 = cc (rw (p, a, b) at g) in absurd (omega arith)
      go false false p q g = let z : ◌≡◌ {A = ℕ} 0 1 = cc (rw (p, q) at g) in absurd (omega arith)

  -- records

  opened-kept : (d : Desk) (o : Outcome) → opened_by_lem (kept d) o ≡ kept (opened_by_lem d o)
  opened-kept d (Good x r) = refl
  opened-kept d Passed = refl
  opened-kept d (Bad n i) = refl

  opening-whole : (d : Desk) → Whole (opened_by_lem d (open_outcome_of d.table d.held))
  opening-whole d = go (open_outcome_of d.table d.held) refl
    where
      go : (o : Outcome) → open_outcome_of d.table d.held ≡ o → Whole (opened_by_lem d o)
      go (Good x r) e s = opened-whole d.table d.held (λ n i q. let z : ◌≡◌ {A = ℕ} 0 1 = cc (sym e ∙ q) in omega arith)
      go Passed e s = opened-whole d.table d.held (λ n i q. let z : ◌≡◌ {A = ℕ} 0 1 = cc (sym e ∙ q) in omega arith)
      go (Bad n i) e s = absurd (omega arith)

  judged-kept : (d : Desk) → take room d.table ≡ d.table → judged_on (kept d) ≡ kept (judged_on d)
  judged-kept d e = ap (λ (t : List ℕ). answered (kept d) (judged (desk_tables t) (arrival_from d.state (segment_bytes d.held)) d.state)) e

  settled-kept : (d : Desk) → Whole d → faulty d.stage d.held ≡ false → (settled (take room) (kept d) ≡ kept (settled whole d)) × Whole (settled whole d)
  unfolding settled
  settled-kept d w f = go (kind_of d.held == 1) (kind_of d.held == 2) refl refl
    where
      go : (a b : Bool) → (kind_of d.held == 1) ≡ a → (kind_of d.held == 2) ≡ b
          → (settled (take room) (kept d) ≡ kept (settled whole d)) × Whole (settled whole d)
      go true b p q =
          rw p (
            ap (λ (t : List ℕ). with_table t (entered whole d)) (take-join room d.table (entry_bytes d.held)),
            λ s. absurd (before d f p s),
          )
      go false true p q =
          rw (p, q) (ap (opened_by_lem (kept d)) (outcome-kept d.table d.held) ∙ opened-kept d (open_outcome_of d.table d.held), opening-whole d)
      go false false p q = rw (p, q) (judged-kept d (w (behind d f p q)), w)

  looked-kept : (d : Desk) → Whole d → (looked (take room) (kept d) ≡ kept (looked whole d)) × Whole (looked whole d)
  unfolding looked
  looked-kept d w = go (faulty d.stage d.held) (nat_le (record_bytes_of (kind_of d.held)) (length d.held)) refl refl
    where
      go : (a b : Bool) → faulty d.stage d.held ≡ a → nat_le (record_bytes_of (kind_of d.held)) (length d.held) ≡ b
          → (looked (take room) (kept d) ≡ kept (looked whole d)) × Whole (looked whole d)
      go true b p q = rw p (refl, λ s. absurd (omega arith))
      go false true p q = rw (p, q) (settled-kept d w p)
      go false false p q = rw (p, q) (refl, w)

  step_kept : (d : Desk) (b : ℕ) → Whole d → (step (take room) (kept d) b ≡ kept (step whole d b)) × Whole (step whole d b)
  unfolding step
  step_kept d b w = go (is_stopped d) refl
    where
      go : (s : Bool) → is_stopped d ≡ s → (step (take room) (kept d) b ≡ kept (step whole d b)) × Whole (step whole d b)
      go true p = rw p (refl, w)
      go false p = rw p (looked-kept (with_held (d.held ++ (b ∷ [])) d) w)

  absorb-kept : (s : List ℕ) (d : Desk) → Whole d → absorb (take room) (kept d) s ≡ kept (absorb whole d s)
  unfolding absorb
  absorb-kept [] d w = refl
  absorb-kept (b ∷ s) d w =
      let p = step_kept d b w in
      ap (λ (x : Desk). absorb (take room) x s) p.0 ∙ absorb-kept s (step whole d b) p.1

pub text-kept : TextKept
unfolding finished
text-kept room s h =
    ap (λ (t : List ℕ). finished (absorb (take room) (with_table t start) s)) (sym (take-nil room))
    ∙ ap finished (absorb-kept room h s start (λ e. absurd (omega arith)))
