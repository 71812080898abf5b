-- The tests, in their order.
use Rattle.std.proofs.Common.{rules, ◌≡◌, sym, ap, ◌∙◌, false, take}
use Rattle.keys.specs.Entry.{item, entry_of, entries}
use Rattle.keys.specs.Table.{clashing}
use Rattle.keys.specs.declared.entry.Entry.{Entry}
use Rattle.keys.proofs.Walk.{unmarked, listed-is, check-unknown, check-cut, matches-err, there-wrong, there-clash, there-good}
use Rattle.keys.proofs.table.check_first.Goals.{else-share-via-then-share+else-clashes_before, else-share-via-else-share}
use Rattle.keys.proofs.table.check_first.Goals as goal

pub returns-then-not-kind_listed : goal.returns-then-not-kind_listed
returns-then-not-kind_listed c =
    check-unknown c.args.kind (take c.args.i (entries c.args.table.now)) (item c.args.rest.now) (sym (listed-is c.args.kind c.args.rest.now) ∙ sym c.kind_listed.ensures ∙ c.if-not-kind_listed.true)

pub returns-in_default : goal.returns-in_default
returns-in_default c =
    check-cut c.args.kind (take c.args.i (entries c.args.table.now)) (item c.args.rest.now) (sym (listed-is c.args.kind c.args.rest.now) ∙ sym c.kind_listed.ensures ∙ c.if-not-kind_listed.false) c.in_default.ensures

pub returns-in_err-entry_faults : goal.returns-in_err-entry_faults
returns-in_err-entry_faults c =
    matches-err c.from_residual.result c.in_err-entry_faults.field-0.0 _ _ c.from_residual.ensures.1 (λ m p. search rules)
    (there-wrong c.args.kind (take c.args.i (entries c.args.table.now)) c.args.rest.now c.entry-entry.result
    (sym (listed-is c.args.kind c.args.rest.now) ∙ sym c.kind_listed.ensures ∙ c.if-not-kind_listed.false) c.in-Some.ensures.0 (c.entry-entry.ensures ∙ c.in-Some.ensures.1)
    c.in_err-entry_faults.field-0.0 c.in_err-entry_faults.ensures)

pub returns-then-clashes_before : goal.returns-then-clashes_before
returns-then-clashes_before c =
    there-clash c.args.kind (take c.args.i (entries c.args.table.now)) c.args.rest.now c.entry-entry.result
    (sym (listed-is c.args.kind c.args.rest.now) ∙ sym c.kind_listed.ensures ∙ c.if-not-kind_listed.false) c.in-Some.ensures.0 (c.entry-entry.ensures ∙ c.in-Some.ensures.1)
    c.in_ok-entry_faults.ensures (sym c.clashes_before.ensures ∙ c.if-clashes_before.true)

pub returns : goal.returns
unfolding item
returns c =
    let before = take c.args.i (entries c.args.table.now) in
    let e = c.entry-entry.result in
    let d : e ≡ entry_of c.args.rest.now = c.entry-entry.ensures ∙ c.in-Some.ensures.1 in
    let n : clashing e before ≡ false = elim c.else-share.branch [
      | else-share-via-then-share+else-clashes_before w ↦ sym w.clashes_before.ensures ∙ w.if-clashes_before.false
      | else-share-via-else-share w ↦ unmarked c.args.marks.now e before c.requires.marked (sym c.share.ensures ∙ w.if-share.false)
    ] in (
      there-good c.args.kind before c.args.rest.now e (sym (listed-is c.args.kind c.args.rest.now) ∙ sym c.kind_listed.ensures ∙ c.if-not-kind_listed.false) c.in-Some.ensures.0 d c.in_ok-entry_faults.ensures n,
      ap (λ (x : Entry). x.ids) d,
      c.in-Some.ensures.2,
    )
