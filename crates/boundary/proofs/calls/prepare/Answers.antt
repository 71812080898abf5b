-- `boundary::calls::prepare` meets its contract.
use Rattle.std.proofs.Common.{length, ◌<◌, ◌^◌, sym, ap, ◌∙◌, subst}
use Rattle.tables.specs.Tables.{Admitted}
use Rattle.rules.specs.Answers.{table_answer}
use Rattle.boundary.specs.Word.{word}
use Rattle.boundary.specs.Exports.{prepare_export, fills}
use Rattle.boundary.specs.NumberLaws.{prepare-fits}
use Rattle.boundary.proofs.calls.prepare.Goals as goal

pub of_result-requires : goal.of_result-requires
of_result-requires c =
    let a = c.args in
    subst (λ (o : Admitted). (table_answer o).value < 2 ^ 32) (sym c.prepare.ensures.answer)
    (prepare-fits a.keys.now a.md5.now (length a.out.now)).value

pub returns : goal.returns
unfolding prepare_export
returns c =
    let p = c.prepare.ensures in
    let w = c.of_result.ensures ∙ ap (λ (o : Admitted). word (table_answer o)) p.answer in
    λ i. fills (w i) (p.storage i)
