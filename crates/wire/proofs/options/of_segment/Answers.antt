-- `wire::options::of_segment` meets its contract.
use Rattle.wire.proofs.Area.{no-options}
use Rattle.wire.proofs.options.of_segment.Goals as goal

pub returns-then-end-lt20 : goal.returns-then-end-lt20
returns-then-end-lt20 c = no-options c.args.segment.now c.min-end.result _ (cc) c.if-end-lt20.true c.default.ensures
