-- The state is the opening's.
use Rattle.std.proofs.Common.{refl}
use Rattle.recording.proofs.Settling.{opens}
use Rattle.recording.proofs.desk.Desk.at_opening.Goals as goal

pub returns : goal.returns
returns c = opens c.args.self c.args.state _ refl
