use Rattle.std.proofs.Common.{rules, tests, ◌∙◌}
use Rattle.std.proofs.lemmas.Iterator.Search.{position_from_yields_List}
use Rattle.std.proofs.lemmas.Iterator.Consumers.{YieldsList-from_first}
use Rattle.keys.specs.Entry.{entries}
use Rattle.keys.specs.Table.{meets_any_of}
use Rattle.keys.proofs.FoundLaws.{place-first}
use Rattle.keys.proofs.table.find_meeting.Goals as goal

pub returns : goal.returns
unfolding meets_any_of
returns c =
    let l = entries c.args.table.now in
    let test = meets_any_of (entries c.args.others.now) in
    position_from_yields_List test _ _ _ c.position.ensures.ran (YieldsList-from_first (λ x. x) (λ x. x) l c.of.ensures.all) (λ x b q k. search (rules, tests))
    ∙ place-first test l
