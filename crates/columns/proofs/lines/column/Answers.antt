use Rattle.std.proofs.Common.{◌≡◌, suc, ◌+◌, ◌-◌, arith, ap, sym, ◌∙◌}
use Rattle.columns.specs.Lines.{column}
use Rattle.columns.proofs.Columns.{column-next, column-last}
use Rattle.columns.proofs.lines.column.Goals as goal

pub loop-preserved : goal.loop-preserved
loop-preserved c =
    let s = c.loop.rest.now in
    let k : c.args.k - c.loop.counter ≡ suc (c.args.k - (c.loop.counter + 1)) = omega arith in
    ap (column (c.args.k - (c.loop.counter + 1))) c.cut.ensures.rest ∙ sym (column-next (c.args.k - (c.loop.counter + 1)) s) ∙ ap (λ n. column n s) (sym k) ∙ c.loop.invariant

pub returns : goal.returns
returns c =
    let s = c.loop.rest.now in
    let k : c.args.k - c.loop.counter ≡ 0 = omega arith in
    c.cut-2.ensures.front ∙ sym (column-last s) ∙ ap (λ n. column n s) (sym k) ∙ c.loop.invariant
