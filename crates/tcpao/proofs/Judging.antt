-- The answer and the state that a call makes of an outcome, and what an acceptance says of the segment. Assumes nothing.
use Prim.Native.Nat.{ℕ}
use mathlib.Core.Path.{◌≡◌, refl, sym, ap, ◌∙◌}
use mathlib.Core.Bool.{Bool, true, false, cond}
use native.Mathlib.Omega.{arith}
use borrow.Author.Tests.{not-false}
use Rattle.wire.specs.Header.{sequence}
use Rattle.keys.specs.declared.entry.Pair.{Pair}
use Rattle.keys.specs.declared.entry.Entry.{Entry}
use Rattle.keys.specs.declared.entry.Ids.{Ids}
use Rattle.tables.specs.declared.Index.{Index}
use Rattle.tables.specs.Tables.{Tables, recv_entry, any_entry}
use Rattle.rules.specs.declared.Outcome.{Outcome}
use Rattle.rules.specs.declared.Outcome.TheVariants.{Good, Passed, Bad}
use Rattle.rules.specs.declared.Verdict.{Verdict}
use Rattle.rules.specs.declared.Connection.{Connection}
use Rattle.rules.specs.declared.State.{State}
use Rattle.octets.specs.TestLaws.{each_gives, none-applied}
use Rattle.rules.proofs.GroupLaws.{first-clear, none-clear}
use Rattle.rules.proofs.JudgeLaws.{none_of}
use Rattle.rules.specs.Segment.{key_id_of}
use Rattle.rules.specs.Connection.{Arrival, sized, arrival_pair_of, next_key_of, opened, empty}
use Rattle.rules.specs.Calls.{judge_groups, check, syn_groups, judge_syn_tests, check_syn_of, verdict_of_lem, index_of, after_judging_of, judged_by}
use Rattle.rules.specs.Calls.{syn_is_md5, judged, judged_syn, opened_by_lem, opened_passively}
use Rattle.tcpao.specs.Arriving.{AtNumber, TakenBy}
use Rattle.checks.specs.GroupLaws.{yes, no, is_final, refusal-final}
use Rattle.checks.specs.declared.begun.Way.{Way}
use Rattle.checks.specs.declared.begun.Way.TheVariants.{Ao, Md5}
use Rattle.checks.specs.BeginLaws.{missing-final, unknown-final}

-- an acceptance

good-at : {x r y s : ℕ} → Good x r ≡ Good y s → x ≡ y
good-at e = cc

-- while opening, it stands at its own number
pub at-number : (t : Tables) (l : Connection) (reference : ℕ) (a : Arrival) {o : Outcome} → o ≡ check t l reference a → {n : ℕ} → n ≡ sequence a.segment → AtNumber l n o
unfolding check
at-number t l reference a e q x r g opening =
    let none = none_of t l reference a x r (sym e ∙ g) in
    good-at (sym g ∙ e ∙ first-clear (judge_groups t l reference a) _ none) ∙ (rw opening (sym q))

-- a bare SYN
module _ (t : Tables) (a : Arrival) (strict : Bool) where
  syn-final : each_gives is_final (judge_syn_tests t a strict) ≡ true
  syn-final = go (syn_is_md5 t (arrival_pair_of a)) refl
    where
      go : (m : Bool) → syn_is_md5 t (arrival_pair_of a) ≡ m → each_gives is_final (judge_syn_tests t a strict) ≡ true
      go true e = rw (e, refusal-final t.answer)
      go false e =
          rw (e, refusal-final t.answer, missing-final (any_entry t (arrival_pair_of a)), unknown-final t (arrival_pair_of a) strict)

  -- the way that judging found, with the entry's IDs
  pub taken-by : {o : Outcome} {way : Way} → o ≡ check_syn_of t a strict
      → way ≡ cond (syn_is_md5 t (arrival_pair_of a)) Md5 (Ao (recv_entry t (arrival_pair_of a) (key_id_of a.segment)).entry.ids)
      → TakenBy t a way o
  unfolding check_syn_of
  taken-by e by x r g =
      let p = none-clear (syn_groups t a strict) (none-applied is_final (judge_syn_tests t a strict) _ syn-final (ap is_final (sym e ∙ g))) in
      record {
        addresses = not-false (sized a.source a.destination) p.input.0;
        position = good-at (sym g ∙ e ∙ first-clear (syn_groups t a strict) _ p);
        by = by;
      }

-- what the calls return

pub judged-is : (t : Tables) (a : Arrival) (q : State) {o : Outcome} {v : Verdict} {i : Index} {s : State} → o ≡ check t q.conn q.seen a → v ≡ verdict_of_lem o → i ≡ index_of o
    → s ≡ after_judging_of t q o → record { verdict = v; index = i; state = s } ≡ judged t a q
unfolding judged
judged-is t a q e ev ei es = (λ k. record { verdict = ev k; index = ei k; state = es k }) ∙ ap (judged_by t q) e

pub syn-is : (t : Tables) (a : Arrival) (strict : Bool) {o : Outcome} {v : Verdict} {i : Index} → o ≡ check_syn_of t a strict → v ≡ verdict_of_lem o → i ≡ index_of o
    → record { verdict = v; index = i } ≡ judged_syn t a strict
unfolding judged_syn
syn-is t a strict e ev ei = λ k. record { verdict = (ev ∙ ap verdict_of_lem e) k; index = (ei ∙ ap index_of e) k }

-- opening passively: an outcome that is no acceptance opens nothing
pub not_opened : (t : Tables) (p : Pair) (isn : ℕ) (f : Entry) (o : Outcome) → is_final o ≡ true → {s : State} → s ≡ empty → s ≡ opened_by_lem t p isn f o
not_opened t p isn f (Good x r) e q = let z : ◌≡◌ {A = ℕ} 0 1 = cc in absurd (omega arith)
not_opened t p isn f Passed e q = q
not_opened t p isn f (Bad n i) e q = q

pub no-good : (o : Outcome) → ((x r : ℕ) → o ≡ Good x r → ⊥) → is_final o ≡ true
no-good (Good x r) h = absurd (h x r refl)
no-good Passed h = refl
no-good (Bad n i) h = refl

module _ (t : Tables) (a : Arrival) (isn : ℕ) {o : Outcome} {x r : ℕ} (good : o ≡ Good x r) {n : ℕ} (number : n ≡ sequence a.segment)
    (position : x ≡ sequence a.segment) {p : Pair} (pair : p ≡ arrival_pair_of a) where
  abbrev entry : Entry
  entry = (recv_entry t (arrival_pair_of a) (key_id_of a.segment)).entry

  abbrev Opens : State → Type 0
  Opens s = s ≡ opened_by_lem t (arrival_pair_of a) isn entry o

  abbrev Went : Bool → Way
  Went way = cond way Md5 (Ao entry.ids)

  -- by MD5
  pub opened-md5 : Md5 ≡ Went (syn_is_md5 t (arrival_pair_of a)) → {s : State} → s ≡ opened 1 p isn n 0 0 → Opens s
  opened-md5 by {s} es = go (syn_is_md5 t (arrival_pair_of a)) refl by
    where
      go : (way : Bool) → syn_is_md5 t (arrival_pair_of a) ≡ way → Md5 ≡ Went way → Opens s
      go true m e =
          es
          ∙ (λ i. opened 1 (pair i) isn ((number ∙ sym position) i) 0 0)
          ∙ yes _ _ m refl
          ∙ ap (opened_by_lem t (arrival_pair_of a) isn entry) (sym good)
      go false m e = cc

  -- by TCP-AO, with the entry found
  pub opened-ao : {ids : Ids} → Ao ids ≡ Went (syn_is_md5 t (arrival_pair_of a)) → {k : ℕ} → k ≡ next_key_of t p r ids.send
      → {s : State} → s ≡ opened 0 p isn n k ids.recv → Opens s
  opened-ao {ids} by ek {s} es = go (syn_is_md5 t (arrival_pair_of a)) refl by
    where
      go : (way : Bool) → syn_is_md5 t (arrival_pair_of a) ≡ way → Ao ids ≡ Went way → Opens s
      go true m e = cc
      go false m e =
          let ef : ids ≡ entry.ids = cc in
          es
          ∙ (λ i. opened 0 p isn ((number ∙ sym position) i) (ek i) ids.recv)
          ∙ (λ i. opened 0 (pair i) isn x (next_key_of t (pair i) r (ef i).send) (ef i).recv)
          ∙ no _ _ m refl
          ∙ ap (opened_by_lem t (arrival_pair_of a) isn entry) (sym good)

pub passively-is : (t : Tables) (a : Arrival) (isn : ℕ) (strict : Bool) {o : Outcome} {v : Verdict} {i : Index} {s : State} → o ≡ check_syn_of t a strict → v ≡ verdict_of_lem o → i ≡ index_of o
    → s ≡ opened_by_lem t (arrival_pair_of a) isn (recv_entry t (arrival_pair_of a) (key_id_of a.segment)).entry o
    → record { verdict = v; index = i; state = s } ≡ opened_passively t a isn strict
unfolding opened_passively
passively-is t a isn strict e ev ei es =
    λ k. record {
      verdict = (ev ∙ ap verdict_of_lem e) k;
      index = (ei ∙ ap index_of e) k;
      state = (es ∙ ap (opened_by_lem t (arrival_pair_of a) isn (recv_entry t (arrival_pair_of a) (key_id_of a.segment)).entry) e) k;
    }
