use Rattle.std.proofs.Common.{slice_index, rules}
use Rattle.std.proofs.lemmas.List.FromFn.{fill_by_all}
use Rattle.compression.specs.Words.{add32}
use Rattle.compression.proofs.rounds.sum.Goals as goal

pub returns : goal.returns
returns g c =
    fill_by_all (λ k. add32 (slice_index c.args.h k) (slice_index c.args.s k)) c.loop-i.out g.row.N 0 c.loop-i.invariant.0 (search rules)
