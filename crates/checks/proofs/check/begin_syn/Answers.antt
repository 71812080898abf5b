-- From seam to seam: the laws of Judging.
use Rattle.std.proofs.Common.{◌≡◌, ℕ, sym, ap, ◌∙◌, Bool, cond, ◌||◌, Some, false, true}
use mathlib.Core.Path.{subst}
use Rattle.rules.specs.declared.Outcome.{Outcome}
use Rattle.rules.specs.Calls.{refuse}
use Rattle.checks.specs.Begin.{JudgesSyn}
use Rattle.checks.specs.declared.begun.Begun.{Begun}
use Rattle.std.specs.Prelude.{Result}
use Rattle.rules.specs.declared.Outcome.TheVariants.{Passed}
use Rattle.wire.specs.declared.header.Header.{Header}
use Rattle.keys.specs.Table.{Found}
use Rattle.tables.specs.Tables.{recv_entry, any_entry}
use Rattle.checks.specs.Groups.{arriving_on}
use Rattle.checks.specs.GroupLaws.{is_final}
use Rattle.checks.specs.BeginLaws.{missing-final, unknown-final}
use Rattle.checks.proofs.Keyed.{there_is}
use Rattle.checks.proofs.Judging.{err-is, syn-valid, syn-formed, syn-by-md5, syn-by-ao}
use Rattle.checks.proofs.check.begin_syn.Goals as goal

pub returns-in_err-formed_syn_faults : goal.returns-in_err-formed_syn_faults
returns-in_err-formed_syn_faults c =
    let a = c.args in
    let out = err-is c.from_residual-in_err-formed_syn_faults.result c.in_err-formed_syn_faults.field-0.0 c.from_residual-in_err-formed_syn_faults.ensures in
    subst (λ (r : Result Begun Outcome). JudgesSyn a.tables.now a.arrival.now a.strict r) (sym out)
    (syn-formed a.tables.now a.arrival.now a.strict c.in_ok-segment.ensures c.header-header.ensures c.in_err-formed_syn_faults.ensures)

pub returns-then-is_some : goal.returns-then-is_some
returns-then-is_some c =
    let a = c.args in
    let number = ap (λ (h : Header). h.sequence) c.header-header.ensures in
    let flow = c.arriving_flow-flow.ensures ∙ ap (λ (n : ℕ). arriving_on c.arrival_pair-pair.result n 0) number in
    syn-by-md5 a.tables.now a.arrival.now a.strict c.in_ok-segment.ensures c.header-header.ensures c.in_ok-formed_syn_faults.ensures
    c.arrival_pair-pair.ensures flow c.by_md5.result c.find_md5-by_pair.ensures
    (there_is c.find_md5-by_pair.result ∙ sym c.is_some.ensures ∙ c.if-is_some.true) c.by_md5.ensures

pub by_key-requires : goal.by_key-requires
by_key-requires c =
    let a = c.args in
    let p = c.arrival_pair-pair.result in
    let missing = c.syn_missing.ensures ∙ ap (λ (b : Bool). cond b (refuse 25) Passed) c.any_match-matched.ensures in
    let unknown = c.syn_unknown.ensures ∙ ap (λ (b : Bool). cond (b || a.strict) (refuse 26) Passed) c.any_match-matched.ensures in (
      c.entry_for.ensures.short (syn-valid a.tables.now a.arrival.now a.strict c.in_ok-segment.ensures c.header-header.ensures),
      ap is_final missing ∙ missing-final (any_entry a.tables.now p),
      ap is_final unknown ∙ unknown-final a.tables.now p a.strict,
    )

pub returns : goal.returns
returns c =
    let a = c.args in
    let p = c.arrival_pair-pair.result in
    let number = ap (λ (h : Header). h.sequence) c.header-header.ensures in
    let flow = c.arriving_flow-flow.ensures ∙ ap (λ (n : ℕ). arriving_on p n 0) number in
    let missing = c.syn_missing.ensures ∙ ap (λ (b : Bool). cond b (refuse 25) Passed) c.any_match-matched.ensures in
    let unknown = c.syn_unknown.ensures ∙ ap (λ (b : Bool). cond (b || a.strict) (refuse 26) Passed) c.any_match-matched.ensures in
    let entry = c.entry_for.ensures.entry ∙ ap (λ (id : ℕ). recv_entry a.tables.now p id) c.key_id.ensures in
    syn-by-ao a.tables.now a.arrival.now a.strict c.in_ok-segment.ensures c.header-header.ensures c.in_ok-formed_syn_faults.ensures
    c.arrival_pair-pair.ensures flow c.by_key.result c.find_md5-by_pair.ensures
    (there_is c.find_md5-by_pair.result ∙ sym c.is_some.ensures ∙ c.if-is_some.false) missing unknown entry (ap Some number) c.by_key.ensures
