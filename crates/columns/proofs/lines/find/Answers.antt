use Rattle.std.proofs.Common.{◌≡◌, ◌+◌, ◌-◌, length, take, drop, eqb, rules, arith, tests, sym, ap, ◌∙◌, length-drop}
use Rattle.std.proofs.lemmas.List.{take_all}
use Rattle.std.proofs.lemmas.Iterator.{YieldsList-from_slice}
use Rattle.std.proofs.lemmas.Iterator.Search.{position_from_yields_List}
use Rattle.columns.specs.Lines.{before}
use Rattle.columns.proofs.Columns.{place_found, place_none}
use Rattle.columns.proofs.lines.find.Goals as goal

pub returns-in-Some-clause-value : goal.returns-in-Some-clause-value
returns-in-Some-clause-value c =
    let behind = drop c.args.at c.args.s.now in
    let whole : take (length c.args.s.now - c.args.at) behind ≡ behind = take_all _ behind (omega (arith, length-drop c.args.at c.args.s.now)) in
    let answer = position_from_yields_List (λ x. eqb x c.args.b) _ _ _ c.position.ensures.ran (YieldsList-from_slice behind (c.iter.ensures.rest ∙ whole)) (λ x b q k. search (rules, tests)) in
    ap (λ n. c.args.at + n) (sym (place_found c.args.b behind c.in-Some.i (sym answer ∙ c.in-Some.is)))

pub returns-in-None-clause-value : goal.returns-in-None-clause-value
returns-in-None-clause-value c =
    let behind = drop c.args.at c.args.s.now in
    let whole : take (length c.args.s.now - c.args.at) behind ≡ behind = take_all _ behind (omega (arith, length-drop c.args.at c.args.s.now)) in
    let answer = position_from_yields_List (λ x. eqb x c.args.b) _ _ _ c.position.ensures.ran (YieldsList-from_slice behind (c.iter.ensures.rest ∙ whole)) (λ x b q k. search (rules, tests)) in
    let all : before c.args.b behind ≡ length behind = place_none c.args.b behind (sym answer ∙ c.in-None.is) in
    omega (arith, all, length-drop c.args.at c.args.s.now)
