-- An address of any family is no longer than its field.
use Rattle.std.proofs.Common.{arith}
use Rattle.keys.proofs.EntryLaws.{width-le}
use Rattle.recording.proofs.desk.judge_on.Goals as goal

pub shared_ref_as_front-arrival : goal.shared_ref_as_front-arrival
shared_ref_as_front-arrival c = omega (arith, width-le c.args.state.conn.pair.family)

pub shared_ref_as_front-arrival-2 : goal.shared_ref_as_front-arrival-2
shared_ref_as_front-arrival-2 c = omega (arith, width-le c.args.state.conn.pair.family)
