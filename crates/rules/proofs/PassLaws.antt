-- The statements of Passes.antt, proved.
use Rattle.std.specs.Prelude.{ℕ, ◌≡◌, Bool, cond}
use Rattle.std.proofs.Math.Path.{refl, ap}
use Rattle.std.proofs.Common.{◌∙◌, arith}
use Rattle.std.proofs.Math.Bool.{true, false, not}
use borrow.Author.Tests.{not-true}
use Rattle.octets.specs.Tests.{any}
use Rattle.octets.specs.TestLaws.{each_gives, first_passes}
use Rattle.wire.specs.Header.{size_faults}
use Rattle.tables.specs.Tables.{Tables, any_entry}
use Rattle.rules.specs.declared.Outcome.{Outcome}
use Rattle.rules.specs.declared.Outcome.TheVariants.{Good, Passed, Bad}
use Rattle.rules.specs.declared.Verdict.TheVariants.{Pass, Drop}
use Rattle.rules.specs.Connection.{Arrival, arrival_pair_of}
use Rattle.rules.specs.Calls.{verdict_of_lem, syn_is_md5, judge_syn_tests, check_syn_of, judged_syn, opened_passively}
use Rattle.rules.proofs.JudgeLaws.{not_passed, refusal-not-passed}
use Rattle.rules.specs.Checksum.{segment_sum_of}
use Rattle.rules.specs.Sentences.{bad, wrong_sum}
use Rattle.rules.proofs.SentenceLaws.{syn-table}
use Rattle.rules.specs.Passes.{Unmatched, JudgedUnmatched, OpenedUnmatched, UnknownKey, MatchedDropped, SettingDecides}

module _ (t : Tables) (a : Arrival) (strict : Bool) where
  -- where an entry matches, no test comes to pass
  matched : any_entry t (arrival_pair_of a) ≡ true → not_passed (check_syn_of t a strict) ≡ true
  unfolding check_syn_of
  matched m = first_passes not_passed (judge_syn_tests t a strict) _ (each (syn_is_md5 t (arrival_pair_of a)) refl) refl
    where
      each : (b : Bool) → syn_is_md5 t (arrival_pair_of a) ≡ b → each_gives not_passed (judge_syn_tests t a strict) ≡ true
      each true w = rw (w, refusal-not-passed t.answer)
      each false w = rw (w, m, refusal-not-passed t.answer)

  matched-md5 : syn_is_md5 t (arrival_pair_of a) ≡ true → not_passed (check_syn_of t a strict) ≡ true
  unfolding check_syn_of
  matched-md5 w = first_passes not_passed (judge_syn_tests t a strict) _ (rw (w, refusal-not-passed t.answer)) refl

  passed : (o : Outcome) → not_passed o ≡ true → verdict_of_lem o ≡ Pass → ⊥
  passed (Good x r) p e = let z : ◌≡◌ {A = ℕ} 0 1 = cc in omega arith
  passed Passed p e = let z : ◌≡◌ {A = ℕ} 0 1 = cc in omega arith
  passed (Bad n i) p e = let z : ◌≡◌ {A = ℕ} 0 1 = cc in omega arith

  unmatched : verdict_of_lem (check_syn_of t a strict) ≡ Pass → Unmatched t a
  unmatched e = record { keys = keys (any_entry t (arrival_pair_of a)) refl; md5s = md5s (syn_is_md5 t (arrival_pair_of a)) refl }
    where
      keys : (b : Bool) → any_entry t (arrival_pair_of a) ≡ b → b ≡ false
      keys true m = absurd (passed (check_syn_of t a strict) (matched m) e)
      keys false m = refl

      md5s : (b : Bool) → syn_is_md5 t (arrival_pair_of a) ≡ b → b ≡ false
      md5s true m = absurd (passed (check_syn_of t a strict) (matched-md5 m) e)
      md5s false m = refl

  -- no test before 26 applies
  module _ (u : UnknownKey t a) where
    unknown-is : check_syn_of t a strict ≡ cond (any_entry t (arrival_pair_of a)) (bad 26) (cond strict (bad 26) Passed)
    unfolding segment_sum_of
    unknown-is =
        let sum : wrong_sum a ≡ false = ap not u.sum in
        let size : any (size_faults a.segment) ≡ false = not-true (any (size_faults a.segment)) u.size in
        syn-table t a strict u.way
        ∙ rw (u.addresses, u.table, size, sum, u.options, u.one, u.alone, u.bare, u.unknown)

    matched-26 : any_entry t (arrival_pair_of a) ≡ true → verdict_of_lem (check_syn_of t a strict) ≡ Drop 26
    matched-26 m = rw m at (ap verdict_of_lem unknown-is)

    set : (b : Bool) → verdict_of_lem (cond b (bad 26) Passed) ≡ cond b (Drop 26) Pass
    set true = refl
    set false = refl

    setting : any_entry t (arrival_pair_of a) ≡ false → verdict_of_lem (check_syn_of t a strict) ≡ cond strict (Drop 26) Pass
    setting m = (rw m at (ap verdict_of_lem unknown-is)) ∙ set strict

pub judged-unmatched : JudgedUnmatched
unfolding judged_syn
judged-unmatched t a strict e = unmatched t a strict e

pub opened-unmatched : OpenedUnmatched
unfolding opened_passively
opened-unmatched t a isn strict e = unmatched t a strict e

pub matched-dropped : MatchedDropped
unfolding judged_syn opened_passively
matched-dropped = record { judged = λ t a strict u m. matched-26 t a strict u m; opened = λ t a isn strict u m. matched-26 t a strict u m }

pub setting-decides : SettingDecides
unfolding judged_syn opened_passively
setting-decides = record { judged = λ t a strict u m. setting t a strict u m; opened = λ t a isn strict u m. setting t a strict u m }
