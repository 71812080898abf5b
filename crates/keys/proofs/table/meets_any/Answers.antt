use Rattle.std.proofs.Common.{rules, tests, ◌∙◌}
use Rattle.std.proofs.lemmas.Iterator.Search.{any_from_yields_List}
use Rattle.std.proofs.lemmas.Iterator.Consumers.{YieldsList-from_first}
use Rattle.keys.specs.Entry.{entries}
use Rattle.keys.specs.Table.{meets}
use Rattle.keys.proofs.FoundLaws.{any-is}
use Rattle.keys.proofs.table.meets_any.Goals as goal

pub returns : goal.returns
returns c =
    let l = entries c.args.table.now in
    any_from_yields_List (meets c.args.s) _ _ _ c.any.ensures.ran (YieldsList-from_first (λ x. x) (λ x. x) l c.of.ensures.all) (λ x b q k. search (rules, tests))
    ∙ any-is (meets c.args.s) l
