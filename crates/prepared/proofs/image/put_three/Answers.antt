use Rattle.std.proofs.Common.{refl, arith}
use Rattle.prepared.proofs.LayLaws.{put_three}
use Rattle.prepared.proofs.image.put_three.Goals as goal

pub returns : goal.returns
returns c = put_three _ _ _ _ _ _ _ c.args.at _ _ (omega (arith, c.requires)) refl refl c.copy_at.ensures c.copy_at-2.ensures c.copy_at-3.ensures
