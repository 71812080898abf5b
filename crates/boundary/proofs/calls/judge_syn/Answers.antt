-- `boundary::calls::judge_syn` meets its contract.
use Rattle.std.proofs.Common.{ap, ◌∙◌}
use Rattle.rules.specs.declared.SynJudged.{SynJudged}
use Rattle.boundary.specs.Word.{word, of_syn_judged}
use Rattle.boundary.specs.Exports.{judge_syn_export, answers}
use Rattle.boundary.proofs.Lends.{syn-index}
use Rattle.boundary.proofs.calls.judge_syn.Goals as goal

pub of_verdict-requires : goal.of_verdict-requires
of_verdict-requires c = syn-index _ _ _ _ c.parts.ensures _ _ _ c.judge_syn-judged.ensures.answer

pub returns : goal.returns
unfolding judge_syn_export
returns c = ap answers (c.of_verdict.ensures ∙ ap (λ (j : SynJudged). word (of_syn_judged j)) c.judge_syn-judged.ensures.answer)
