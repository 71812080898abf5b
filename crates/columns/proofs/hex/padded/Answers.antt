use Rattle.std.proofs.Common.{◌≡◌, replicate, length, drop, ◌++◌, ℕ, sym, ap, ◌∙◌}
use Rattle.std.proofs.lemmas.List.{length-replicate}
use Rattle.columns.proofs.Spelling.{filled_some, filled_none}
use Rattle.columns.proofs.hex.padded.Goals as goal

pub returns-in-Some : goal.returns-in-Some
returns-in-Some g c =
    let zeros : length (replicate {A = ℕ} g.row.N 0) ≡ g.row.N = length-replicate g.row.N 0 in
    ap (λ l. l ++ drop c.len.result (replicate g.row.N 0)) (c.copy_from_slice.ensures.after ∙ c.deref.ensures.0)
    ∙ filled_some c.args.text.now (replicate g.row.N 0) c.in-Some.bytes.items g.row.N c.len.result zeros (sym c.in-Some.ensures) c.len.ensures.value

pub returns-in_default : goal.returns-in_default
returns-in_default g c = filled_none c.args.text.now (replicate g.row.N 0) g.row.N (length-replicate g.row.N 0) (sym c.in_default.ensures)
