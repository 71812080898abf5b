use Rattle.prepared.proofs.LayLaws.{ports-by}
use Rattle.prepared.proofs.image.ports_of.Goals as goal

pub returns : goal.returns
returns c = ports-by c.args.e _ _ _ _ c.bytes16-a.ensures c.bytes16-b.ensures c.bytes16-c.ensures c.bytes16-d.ensures
