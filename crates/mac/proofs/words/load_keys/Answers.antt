use Rattle.std.proofs.Common.{◌≡◌, length, get_or, [], sym, rules}
use Rattle.std.proofs.lemmas.List.FromFn.{fill_by_all}
use Rattle.mac.specs.AesWords.{state}
use Rattle.mac.proofs.words.load_keys.Goals as goal

pub returns : goal.returns
returns c =
    let long : length c.args.k ≡ 11 = search rules in
    sym (fill_by_all (λ i. state (get_or c.map.result i [])) c.args.k 11 [] long
    (λ i h. let q = c.map.ensures.items.at i [] [] h in search rules))
