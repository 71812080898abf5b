use Rattle.std.proofs.Common.{sym, refl}
use Rattle.prepared.proofs.ScanSteps.{count_none, count-is}
use Rattle.prepared.proofs.stored.key_count.Goals as goal

pub returns-in-Some : goal.returns-in-Some
returns-in-Some c = count-is c.args.t.now _ (sym c.in-Some.ensures.0) refl _ c.in-Some.ensures.1

pub returns-in-None : goal.returns-in-None
returns-in-None c = count_none c.args.t.now _ (sym c.in-None.ensures) refl
