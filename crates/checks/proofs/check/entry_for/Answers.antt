-- The tables are those of the bytes lent, and what is found in such tables is short: the law of Judging.
use Rattle.std.proofs.Common.{◌≡◌, ◌≤◌, false, sym, subst}
use Rattle.keys.specs.Table.{Found}
use Rattle.tables.specs.Tables.{Tables, recv_entry, tables_of}
use Rattle.rules.specs.Calls.{is_refused}
use Rattle.checks.proofs.Judging.{entry-short}
use Rattle.checks.proofs.check.entry_for.Goals as goal

pub returns-clause-short : goal.returns-clause-short
returns-clause-short c =
    let a = c.args in
    let p = c.parts.result in
    subst (λ (f : Found). is_refused a.tables.now.answer ≡ false → f.entry.secret.mac_bytes ≤ 16) (sym c.find_recv.ensures)
    (subst (λ (t : Tables). is_refused t.answer ≡ false → (recv_entry t a.pair a.id).entry.secret.mac_bytes ≤ 16) (sym c.parts.ensures)
    (entry-short p.0 p.1.now p.2.now a.pair a.id))
