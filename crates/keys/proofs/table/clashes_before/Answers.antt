use Rattle.std.proofs.Common.{rules, tests, ◌∙◌, take}
use Rattle.std.proofs.lemmas.Iterator.{YieldsList-from_take}
use Rattle.std.proofs.lemmas.Iterator.Search.{any_from_yields_List}
use Rattle.std.proofs.lemmas.Iterator.Consumers.{YieldsList-from_first}
use Rattle.keys.specs.Entry.{entries}
use Rattle.keys.specs.Match.{clash}
use Rattle.keys.specs.declared.entry.Entry.{Entry}
use Rattle.keys.proofs.FoundLaws.{clashing-is}
use Rattle.keys.proofs.table.clashes_before.Goals as goal

pub returns : goal.returns
returns c =
    let l = entries c.args.table.now in
    let i = c.args.i in
    any_from_yields_List (λ (f : Entry). clash f c.args.e) _ _ _ c.any.ensures.ran
    (YieldsList-from_take i (YieldsList-from_first (λ x. x) (λ x. x) l (c.take.ensures.source ∙ c.of.ensures.all)) c.take.ensures.count) (λ x b q k. search (rules, tests))
    ∙ clashing-is c.args.e (take i l)
