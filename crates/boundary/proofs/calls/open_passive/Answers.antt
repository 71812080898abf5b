-- `boundary::calls::open_passive` meets its contract.
use Rattle.std.proofs.Common.{◌≡◌, ℕ, Bool, List, cond, not, sym, ap, ◌∙◌}
use Rattle.rules.specs.declared.Judged.{Judged}
use Rattle.rules.specs.Calls.{opened_passively}
use Rattle.states.specs.Layout.{encode_of}
use Rattle.boundary.specs.Word.{of_judged}
use Rattle.boundary.specs.Exports.{open_passive_export, settles, strictly}
use Rattle.boundary.proofs.Exported.{left, other, whole, refused, done}
use Rattle.boundary.proofs.Lends.{opened-index}
use Rattle.boundary.proofs.calls.open_passive.Goals as goal
use Rattle.boundary.proofs.calls.open_passive.Goals.{then-settles, else-settles}

abbrev bytes : List ℕ → Judged → List ℕ
bytes b j = cond (settles j.verdict) (encode_of j.state) b

pub returns-then-not-is_state : goal.returns-then-not-is_state
unfolding open_passive_export
returns-then-not-is_state c =
    let a = c.args in
    left
    (refused of_judged (bytes a.state.now) a.state.now (opened_passively a.tables.now a.arrival.now a.isn (strictly a.setting)) _
    (other a.state.now _ c.is_state.ensures (ap not c.if-not-is_state.true)) c.word.ensures)

pub of_verdict-requires : goal.of_verdict-requires
of_verdict-requires c = opened-index _ _ _ _ c.parts.ensures _ _ _ _ c.open_passive-opened.ensures.answer

written : (c : goal.After-of_verdict) → c.if-settles.state ≡ bytes c.args.state.now c.open_passive-opened.result
written c =
    let at : Bool → List ℕ = λ o. cond o (encode_of c.open_passive-opened.result.state) c.args.state.now in
    elim c.if-settles.branch [
      | then-settles w ↦ w.state-is ∙ (w.put.ensures ∙ ap at (sym w.if-settles.true ∙ c.settles.ensures))
      | else-settles w ↦ w.state-is ∙ ap at (sym w.if-settles.false ∙ c.settles.ensures)
    ]

pub returns : goal.returns
unfolding open_passive_export
returns c =
    let a = c.args in
    left
    (done of_judged (bytes a.state.now) a.state.now (opened_passively a.tables.now a.arrival.now a.isn (strictly a.setting))
    c.open_passive-opened.result _ _ (whole a.state.now _ c.is_state.ensures (ap not c.if-not-is_state.false))
    c.open_passive-opened.ensures.answer c.of_verdict.ensures (written c))
