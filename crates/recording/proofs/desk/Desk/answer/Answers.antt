-- The segment is judged in the state that the one before left.
use Rattle.std.proofs.Common.{sym, refl, arith, length-take-le}
use Rattle.recording.proofs.Settling.{table-part, answers}
use Rattle.recording.proofs.desk.Desk.answer.Goals as goal

pub slice_bounds-judge_on-end : goal.slice_bounds-judge_on-end
slice_bounds-judge_on-end c = sym (length-take-le _ _ (omega (arith, c.table_bytes-n.ensures)))

pub returns : goal.returns
returns c =
    let n = c.table_bytes-n in
    answers c.args.self _ c.args.table.now c.args.bytes.now n.result c.load16.result c.judge_on-judged.result _
    (table-part c.args.table.now c.args.self.table_length n.result n.ensures) c.load16.ensures
    c.judge_on-judged.ensures c.verdict_line.ensures refl refl refl refl refl refl
