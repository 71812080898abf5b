use Rattle.std.proofs.Common.{rules, tests, ℕ, ap, ◌∙◌}
use Rattle.std.proofs.lemmas.Iterator.Search.{find_from_yields_List}
use Rattle.std.proofs.lemmas.Iterator.Consumers.{YieldsList-from_first, YieldsList-from_enumerate}
use Rattle.keys.specs.Entry.{entries}
use Rattle.keys.specs.Table.{answers}
use Rattle.keys.specs.declared.entry.Entry.{Entry}
use Rattle.keys.proofs.FoundLaws.{hit_of, map-hit, find-is}
use Rattle.keys.proofs.table.find.Goals as goal

pub returns : goal.returns
returns c =
    let l = entries c.args.table.now in
    let test = answers c.args.by c.args.pair in
    map-hit c.find.result _ _ c.map.ensures.cases (λ x h p. search rules)
    ∙ ap hit_of
    (find_from_yields_List (λ (p : ℕ × Entry). test p.1) _ _ c.find.result c.find.ensures.ran
    (YieldsList-from_enumerate (YieldsList-from_first (λ x. x) (λ x. x) l (c.enumerate.ensures.source ∙ c.of.ensures.all)) c.enumerate.ensures.count) (λ x b q k. search (rules, tests)))
    ∙ find-is test l 0
