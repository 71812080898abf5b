use Rattle.std.proofs.Common.{get_or, ◌∙◌}
use Rattle.compression.specs.Md5Block.{table, operation}
use Rattle.compression.proofs.md5.Md5Rounds4.round.Goals as goal

pub returns : goal.returns
unfolding table
returns c =
    c.operation.ensures
    ∙ (λ j. operation (c.function.ensures j) (get_or c.args.w.now (c.place.ensures.0 j) 0) (get_or table c.args.t 0) (c.shift.ensures.0 j) c.args.s)
