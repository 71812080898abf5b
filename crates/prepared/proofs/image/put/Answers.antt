-- Each part stands behind the one before, and each call says where it ends.
use Rattle.std.proofs.Common.{◌∙◌}
use Rattle.keys.specs.Entry.{entries}
use Rattle.prepared.proofs.LayLaws.{put-image}
use Rattle.prepared.proofs.image.put.Goals as goal

pub returns : goal.returns
returns c =
    let a = c.args in
    let p = c.requires in
    let y = c.copy_at-2.auto.dst ∙ c.copy_at.auto.dst in
    let r = c.put_both-bits.auto.out ∙ c.put_both-recvs.auto.out in
    let q = c.put_both-slots.auto.out ∙ c.put_both-marks.auto.out in
    put-image (entries a.keys.now) (entries a.md5.now) a.n a.m p.0 p.1 a.out.now _ p.4 y
    c.put_both-recvs.ensures c.put_both-bits.ensures c.put_both-marks.ensures c.put_both-slots.ensures (r ∙ y) (q ∙ r ∙ y)
    c.bytes16-a.ensures c.bytes16-b.ensures c.copy_at.ensures c.copy_at-2.ensures
    c.put_both-backs.ensures c.put_both.ensures
