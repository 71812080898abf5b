use Rattle.std.proofs.Common.{◌≡◌, ◌+◌, ◌/◌, ◌%◌, ◌≤◌, ◌++◌, length}
use Rattle.columns.specs.Hex.{bytes, all_digits_of}
use Rattle.columns.proofs.hex.pairs.Given as goal

abbrev pub invariant-loop-rest : goal.invariant-loop-rest
invariant-loop-rest g l = record {
  read : bytes l.text ≡ l.out.items ++ bytes l.rest;
  digits : all_digits_of l.text ≡ all_digits_of l.rest;
  odd : length l.text % 2 ≡ length l.rest % 2;
  count : length l.text / 2 ≡ length l.out.items + length l.rest / 2;
  room : length l.out.items ≤ g.row.N;
}

abbrev pub decreases-loop-rest : goal.decreases-loop-rest
decreases-loop-rest g l = length l.rest
