use Rattle.std.proofs.Common.{◌≡◌, ◌-◌}
use Rattle.columns.specs.Lines.{column as column_of}
use Rattle.columns.proofs.lines.column.Given as goal

abbrev pub invariant-loop : goal.invariant-loop
invariant-loop l = column_of (l.k - l.counter) l.rest ≡ column_of l.k l.line
