-- `boundary::calls::open_active_md5` meets its contract.
use Rattle.std.proofs.Common.{ℕ, List, cond, not, ap, ◌∙◌}
use Rattle.rules.specs.Calls.{opened_actively_md5}
use Rattle.rules.specs.Results.{Settled}
use Rattle.states.specs.Layout.{encode_of}
use Rattle.boundary.specs.Word.{of_settled}
use Rattle.boundary.specs.Exports.{open_active_md5_export, opens}
use Rattle.boundary.proofs.Exported.{left, other, whole, refused, done, opened}
use Rattle.boundary.proofs.Lends.{active-md5-value}
use Rattle.boundary.proofs.calls.open_active_md5.Goals as goal

abbrev bytes : List ℕ → Settled → List ℕ
bytes b s = cond (opens s.answer) (encode_of s.state) b

pub returns-then-not-is_state : goal.returns-then-not-is_state
unfolding open_active_md5_export
returns-then-not-is_state c =
    let a = c.args in
    left
    (refused of_settled (bytes a.state.now) a.state.now (opened_actively_md5 a.tables.now a.local.now a.remote.now a.local_port a.remote_port a.isn) _
    (other a.state.now _ c.is_state.ensures (ap not c.if-not-is_state.true)) c.word.ensures)

pub settle-requires-clause-value : goal.settle-requires-clause-value
settle-requires-clause-value c = active-md5-value _ _ _ _ c.parts.ensures _ _ _ _ _ _ c.open_active_md5.ensures.answer

pub returns : goal.returns
unfolding open_active_md5_export
returns c =
    let a = c.args in
    left
    (done of_settled (bytes a.state.now) a.state.now (opened_actively_md5 a.tables.now a.local.now a.remote.now a.local_port a.remote_port a.isn) _ _ _
    (whole a.state.now _ c.is_state.ensures (ap not c.if-not-is_state.false))
    c.open_active_md5.ensures.answer c.settle.ensures.answer (c.settle.ensures.state ∙ opened a.state.now c.open_active_md5.result))
