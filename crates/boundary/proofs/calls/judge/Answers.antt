-- `boundary::calls::judge` meets its contract.
use Rattle.std.proofs.Common.{not, ap, ◌∙◌}
use Rattle.rules.specs.declared.Judged.{Judged}
use Rattle.rules.specs.Calls.{judged}
use Rattle.states.specs.Layout.{decode_of, encode_of}
use Rattle.boundary.specs.Word.{of_judged}
use Rattle.boundary.specs.Exports.{judge_export}
use Rattle.boundary.proofs.Exported.{left, other, whole, refused, done}
use Rattle.boundary.proofs.Lends.{judged-index}
use Rattle.boundary.proofs.calls.judge.Goals as goal

pub returns-then-not-is_state : goal.returns-then-not-is_state
unfolding judge_export
returns-then-not-is_state c =
    let a = c.args in
    left
    (refused of_judged (λ (j : Judged). encode_of j.state) a.state.now (judged a.tables.now a.arrival.now (decode_of a.state.now)) _
    (other a.state.now _ c.is_state.ensures (ap not c.if-not-is_state.true)) c.word.ensures)

pub decode-held-requires : goal.decode-held-requires
decode-held-requires c = whole c.args.state.now _ c.is_state.ensures (ap not c.if-not-is_state.false)

pub put-requires : goal.put-requires
put-requires c = whole c.args.state.now _ c.is_state.ensures (ap not c.if-not-is_state.false)

pub of_verdict-requires : goal.of_verdict-requires
of_verdict-requires c = judged-index _ _ _ _ c.parts.ensures _ _ _ c.judge-judged.ensures.answer

pub returns : goal.returns
unfolding judge_export
returns c =
    let a = c.args in
    left
    (done of_judged (λ (j : Judged). encode_of j.state) a.state.now (judged a.tables.now a.arrival.now (decode_of a.state.now))
    c.judge-judged.result _ _ (whole a.state.now _ c.is_state.ensures (ap not c.if-not-is_state.false))
    (c.judge-judged.ensures.answer ∙ ap (judged a.tables.now a.arrival.now) c.decode-held.ensures.state)
    c.of_verdict.ensures c.put.ensures)
