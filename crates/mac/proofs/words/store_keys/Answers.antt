use Rattle.std.proofs.Common.{get_or, [], rules}
use Rattle.std.proofs.lemmas.List.FromFn.{fill_by_all}
use Rattle.mac.specs.AesWords.{state}
use Rattle.mac.proofs.words.store_keys.Goals as goal

pub returns : goal.returns
returns c =
    fill_by_all (λ k. state (get_or c.args.w k [])) c.map.result 11 [] c.map.ensures.items.long
    (λ k h. let q = c.map.ensures.items.at k [] [] h in search rules)
