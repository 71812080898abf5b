-- What the loader gives, of the bytes that were lent.
use Rattle.std.proofs.Common.{◌≡◌, sym}
use mathlib.Core.Path.{subst}
use Rattle.tables.specs.Tables.{Tables}
use Rattle.rules.specs.Answers.{table_answer, table_number}
use Rattle.tcpao.proofs.Numbered.{table-numbered}
use Rattle.tcpao.proofs.operator.check_table.Goals as goal

pub returns-clause-number : goal.returns-clause-number
returns-clause-number c =
    let p = c.parts.result in
    subst (λ (t : Tables). c.check.result ≡ t.answer → table_answer c.check.result ≡ table_number t) (sym c.parts.ensures)
    (λ e. (table-numbered p.0 p.1.now p.2.now e).1) c.check.ensures
