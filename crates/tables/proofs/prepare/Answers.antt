-- By what the tables answer and the output's room.
use Rattle.std.proofs.Common.{sym, ap, ◌∙◌, arith, rules}
use Rattle.std.specs.Prelude.{Err}
use Rattle.tables.proofs.Checked.{prepare-refused, prepare-counts, prepare-short, prepare-done}
use Rattle.tables.proofs.prepare.Goals as goal

pub returns-in_err-n-clause-answer : goal.returns-in_err-n-clause-answer
returns-in_err-n-clause-answer c =
    let p = (prepare-refused _ _ c.args.out.now _ (sym c.check_bytes.ensures ∙ c.in_err-n.was)).0 in
    search (rules, p)

pub returns-in_err-n-clause-storage : goal.returns-in_err-n-clause-storage
returns-in_err-n-clause-storage c = (prepare-refused _ _ c.args.out.now _ (sym c.check_bytes.ensures ∙ c.in_err-n.was)).1

pub overflow_add-size : goal.overflow_add-size
overflow_add-size c =
    let n = prepare-counts _ _ c.args.out.now _ _ (sym c.check_bytes.ensures ∙ c.in_ok-n.was) c.count-m.ensures in
    omega (arith, n.2, n.3)

pub overflow_mul-size : goal.overflow_mul-size
overflow_mul-size c =
    let n = prepare-counts _ _ c.args.out.now _ _ (sym c.check_bytes.ensures ∙ c.in_ok-n.was) c.count-m.ensures in
    omega (arith, n.2, n.3)

pub overflow_add-size-2 : goal.overflow_add-size-2
overflow_add-size-2 c =
    let n = prepare-counts _ _ c.args.out.now _ _ (sym c.check_bytes.ensures ∙ c.in_ok-n.was) c.count-m.ensures in
    omega (arith, n.2, n.3)

pub returns-then-out-size-clause-answer : goal.returns-then-out-size-clause-answer
returns-then-out-size-clause-answer c =
    ap Err c.of.ensures
    ∙ (prepare-short _ _ c.args.out.now _ _ (sym c.check_bytes.ensures ∙ c.in_ok-n.was) c.count-m.ensures (omega (arith, c.if-out-size.true))).0

pub returns-then-out-size-clause-storage : goal.returns-then-out-size-clause-storage
returns-then-out-size-clause-storage c =
    (prepare-short _ _ c.args.out.now _ _ (sym c.check_bytes.ensures ∙ c.in_ok-n.was) c.count-m.ensures (omega (arith, c.if-out-size.true))).1

pub put-requires : goal.put-requires
put-requires c =
    let n = prepare-counts _ _ c.args.out.now _ _ (sym c.check_bytes.ensures ∙ c.in_ok-n.was) c.count-m.ensures in
    (n.0, n.1, n.2, n.3, c.if-out-size.false)

pub returns-clause-answer : goal.returns-clause-answer
returns-clause-answer c =
    (prepare-done _ _ c.args.out.now _ _ (sym c.check_bytes.ensures ∙ c.in_ok-n.was) c.count-m.ensures _ c.if-out-size.false c.put.ensures).0

pub returns-clause-storage : goal.returns-clause-storage
returns-clause-storage c =
    (prepare-done _ _ c.args.out.now _ _ (sym c.check_bytes.ensures ∙ c.in_ok-n.was) c.count-m.ensures _ c.if-out-size.false c.put.ensures).1
