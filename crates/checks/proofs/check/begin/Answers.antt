-- From seam to seam: the laws of Judging.
use Rattle.std.proofs.Common.{◌≡◌, ℕ, sym, ap, ◌∙◌, cond}
use mathlib.Core.Path.{subst}
use Rattle.rules.specs.declared.Outcome.{Outcome}
use Rattle.rules.specs.Connection.{is_open_of, place_on_lem}
use Rattle.checks.specs.Begin.{Judges}
use Rattle.checks.specs.declared.begun.Begun.{Begun}
use Rattle.std.specs.Prelude.{Result}
use Rattle.wire.specs.declared.header.Header.{Header}
use Rattle.tables.specs.Tables.{recv_entry}
use Rattle.checks.specs.Groups.{arriving_on}
use Rattle.checks.specs.GroupLaws.{is_final}
use Rattle.checks.proofs.Judging.{err-is, judge-valid, judge-early, judge-formed, judge-by-md5, judge-by-ao}
use Rattle.checks.proofs.check.begin.Goals as goal

pub returns-in_err-segment : goal.returns-in_err-segment
returns-in_err-segment c =
    let a = c.args in
    let out = err-is c.from_residual.result c.in_err-segment.field-0.0 c.from_residual.ensures in
    subst (λ (r : Result Begun Outcome). Judges a.tables.now a.conn a.reference a.arrival.now r) (sym out)
    (judge-early a.tables.now a.conn a.reference a.arrival.now c.in_err-segment.ensures)

pub returns-in_err-formed_faults : goal.returns-in_err-formed_faults
returns-in_err-formed_faults c =
    let a = c.args in
    let out = err-is c.from_residual-in_err-formed_faults.result c.in_err-formed_faults.field-0.0 c.from_residual-in_err-formed_faults.ensures in
    subst (λ (r : Result Begun Outcome). Judges a.tables.now a.conn a.reference a.arrival.now r) (sym out)
    (judge-formed a.tables.now a.conn a.reference a.arrival.now c.in_ok-segment.ensures c.header-header.ensures c.in_err-formed_faults.ensures)

-- the flow is that of what arrives
pub returns-then-is_md5 : goal.returns-then-is_md5
returns-then-is_md5 c =
    let a = c.args in
    let number = ap (λ (h : Header). h.sequence) c.header-header.ensures in
    let isn = c.peer_isn.ensures ∙ ap (λ (n : ℕ). cond (is_open_of a.conn) a.conn.peer_isn n) number in
    let flow = c.arriving_flow-flow.ensures ∙ ap (λ (n : ℕ). arriving_on a.conn.pair n a.conn.isn) isn in
    judge-by-md5 a.tables.now a.conn a.reference a.arrival.now c.in_ok-segment.ensures c.header-header.ensures c.in_ok-formed_faults.ensures
    c.by_md5.result (sym c.is_md5.ensures ∙ c.if-is_md5.true) c.find_md5.ensures flow c.by_md5.ensures

pub by_key-requires : goal.by_key-requires
by_key-requires c =
    let a = c.args in (
      c.entry_for.ensures.short (judge-valid a.tables.now a.conn a.reference a.arrival.now c.in_ok-segment.ensures c.header-header.ensures),
      ap is_final c.refuse.ensures,
      ap is_final c.refuse-2.ensures,
    )

pub returns : goal.returns
returns c =
    let a = c.args in
    let number = ap (λ (h : Header). h.sequence) c.header-header.ensures in
    let isn = c.peer_isn.ensures ∙ ap (λ (n : ℕ). cond (is_open_of a.conn) a.conn.peer_isn n) number in
    let flow = c.arriving_flow-flow.ensures ∙ ap (λ (n : ℕ). arriving_on a.conn.pair n a.conn.isn) isn in
    let entry = c.entry_for.ensures.entry ∙ ap (λ (id : ℕ). recv_entry a.tables.now a.conn.pair id) c.key_id.ensures in
    let place = c.place_on.ensures ∙ ap (λ (n : ℕ). place_on_lem a.conn a.reference n) number in
    judge-by-ao a.tables.now a.conn a.reference a.arrival.now c.in_ok-segment.ensures c.header-header.ensures c.in_ok-formed_faults.ensures
    c.by_key.result (sym c.is_md5.ensures ∙ c.if-is_md5.false) c.refuse.ensures c.refuse-2.ensures entry place flow c.by_key.ensures
