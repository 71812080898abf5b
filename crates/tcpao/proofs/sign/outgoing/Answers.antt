-- The tables are those of the bytes lent, and what is found in such tables is short: the law of SignAnswers.
use Rattle.std.proofs.Common.{◌≡◌, ◌≤◌, false, sym}
use mathlib.Core.Path.{subst}
use Rattle.keys.specs.Table.{Found}
use Rattle.tables.specs.Tables.{Tables, send_entry}
use Rattle.rules.specs.Calls.{is_refused}
use Rattle.tcpao.proofs.SignAnswers.{sends-short}
use Rattle.tcpao.proofs.sign.outgoing.Goals as goal

pub returns-else-is_md5-clause-short : goal.returns-else-is_md5-clause-short
returns-else-is_md5-clause-short c =
    let a = c.args in
    let p = c.parts.result in
    λ valid way.
    subst (λ (f : Found). f.entry.secret.mac_bytes ≤ 16) (sym c.find_send.ensures)
    (subst (λ (t : Tables). is_refused t.answer ≡ false → (send_entry t a.state.conn.pair a.state.send_id).entry.secret.mac_bytes ≤ 16) (sym c.parts.ensures)
    (sends-short p.0 p.1.now p.2.now a.state.conn.pair a.state.send_id) valid)
