-- `boundary::calls::check_table` meets its contract.
use Rattle.std.proofs.Common.{ap, ◌∙◌}
use Rattle.tables.specs.Tables.{Admitted}
use Rattle.rules.specs.Answers.{table_answer}
use Rattle.boundary.specs.Word.{word}
use Rattle.boundary.specs.Exports.{check_table_export, answers}
use Rattle.boundary.proofs.Lends.{table-value}
use Rattle.boundary.proofs.calls.check_table.Goals as goal

pub of_result-requires : goal.of_result-requires
of_result-requires c = table-value _ _ _ _ c.parts.ensures _ c.check_table.ensures.answer

pub returns : goal.returns
unfolding check_table_export
returns c = ap answers (c.of_result.ensures ∙ ap (λ (o : Admitted). word (table_answer o)) c.check_table.ensures.answer)
