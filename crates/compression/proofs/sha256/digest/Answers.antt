use Rattle.std.proofs.Common.{get_or, [], ap, ◌∙◌, flat_map, rules}
use Rattle.std.proofs.lemmas.List.FromFn.{fill_by_all}
use Rattle.compression.specs.Sha256Block.{digest}
use Rattle.octets.specs.Octets.{bytes32}
use Rattle.octets.specs.Octets.{padded_of}
use Rattle.compression.proofs.sha256.digest.Goals as goal

pub returns : goal.returns
unfolding digest
returns c =
    let words = fill_by_all (λ k. bytes32 (get_or c.args.h k 0)) c.map.result 8 [] c.map.ensures.items.long
    (λ k h. let q = c.map.ensures.items.at k 0 [] h in search rules) in
    c.padded.ensures ∙ ap (padded_of 32) (c.as_flattened.ensures.value ∙ ap (flat_map (λ x. x)) words)
