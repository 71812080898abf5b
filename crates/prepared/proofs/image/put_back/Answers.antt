use Rattle.std.proofs.Common.{rules}
use Rattle.prepared.proofs.LayLaws.{put_back}
use Rattle.prepared.proofs.image.put_back.Goals as goal

pub returns : goal.returns
returns c = put_back c.args.e c.args.out.now _ c.args.at (search rules) (search rules) c.put_three.ensures
