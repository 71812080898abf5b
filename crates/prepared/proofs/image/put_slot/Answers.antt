-- The three runs have 1, 15 and 8 bytes.
use Rattle.std.proofs.Common.{rules}
use Rattle.prepared.proofs.LayLaws.{put-slot}
use Rattle.prepared.proofs.image.put_slot.Goals as goal

pub returns : goal.returns
returns c =
    put-slot c.args.e c.args.out.now _ c.args.at c.stored_address-a.result c.ports_of-ports.result c.stored_address-a.ensures (search rules) c.ports_of-ports.ensures (search rules) c.put_three.ensures
