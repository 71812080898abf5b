-- `boundary::calls::ask` meets its contract.
use Rattle.std.proofs.Common.{ℕ, ◌<◌, ◌^◌, not, sym, ap, ◌∙◌, subst}
use Rattle.rules.specs.Answers.{Answer}
use Rattle.rules.specs.Calls.{asked}
use Rattle.rules.specs.Results.{Settled}
use Rattle.states.specs.Layout.{decode_of, encode_of}
use Rattle.boundary.specs.Word.{word, of_settled}
use Rattle.boundary.specs.Exports.{ask_export}
use Rattle.boundary.proofs.Exported.{left, other, whole, refused, done, alike, held}
use Rattle.boundary.proofs.Lends.{asked-value}
use Rattle.boundary.proofs.calls.ask.Goals as goal

pub returns-then-not-is_state : goal.returns-then-not-is_state
unfolding ask_export
returns-then-not-is_state c =
    let a = c.args in
    left
    (refused of_settled (λ (s : Settled). encode_of s.state) a.state.now (asked a.tables.now a.recv_id (decode_of a.state.now)) _
    (other a.state.now _ c.is_state.ensures (ap not c.if-not-is_state.true)) c.word.ensures)

pub decode-held-requires : goal.decode-held-requires
decode-held-requires c = whole c.args.state.now _ c.is_state.ensures (ap not c.if-not-is_state.false)

pub settle-requires-clause-value : goal.settle-requires-clause-value
settle-requires-clause-value c =
    subst (λ (x : Answer). x.value < 2 ^ 32) (sym (alike c.decode-held.result c.ask.result)) (asked-value _ _ _ _ c.parts.ensures _ _ _ c.ask.ensures.answer)

pub returns : goal.returns
unfolding ask_export
returns c =
    let a = c.args in
    left
    (done of_settled (λ (s : Settled). encode_of s.state) a.state.now (asked a.tables.now a.recv_id (decode_of a.state.now)) _ _ _
    (whole a.state.now _ c.is_state.ensures (ap not c.if-not-is_state.false))
    (c.ask.ensures.answer ∙ ap (asked a.tables.now a.recv_id) c.decode-held.ensures.state)
    (c.settle.ensures.answer ∙ ap word (alike c.decode-held.result c.ask.result))
    (c.settle.ensures.state ∙ held a.state.now c.decode-held.result c.ask.result c.decode-held.ensures.back))
