-- `state::join`: five parts, each put where the one before ends, and the way behind them.
use Rattle.std.proofs.Common.{rules}
use Rattle.states.proofs.Parts.{all-put}
use Rattle.states.proofs.state.join.Goals as goal

pub returns : goal.returns
returns c =
    let a = c.args in
    all-put a.head a.local a.remote a.numbers a.drops _ _ _ _ _ a.way
    (search rules) (search rules) (search rules) (search rules) (search rules)
    c.copy_at.ensures c.copy_at-2.ensures c.copy_at-3.ensures c.words_at.ensures c.words_at-2.ensures
