-- The entry's bytes stand behind the table, as many as there is room for.
use Rattle.std.proofs.Common.{refl}
use Rattle.recording.proofs.Settling.{enters}
use Rattle.recording.proofs.desk.Desk.enter.Goals as goal

pub returns : goal.returns
returns c =
    let a = c.args in
    let at = c.table_bytes-at in
    let n = c.min-n in
    let e = c.copy_at in
    enters a.self a.table.now e.new.dst a.bytes.now at.result n.result _ at.ensures n.ensures c.requires e.ensures
    refl
