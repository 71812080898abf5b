use Rattle.std.proofs.Common.{◌≡◌, ◌∙◌}
use Rattle.rollover.proofs.SameLaws.{same_pointwise}
use Rattle.rollover.proofs.alike.same_drops.Goals as goal

pub returns : goal.returns
returns c = c.eq.ensures ∙ same_pointwise c.args.a c.args.b
