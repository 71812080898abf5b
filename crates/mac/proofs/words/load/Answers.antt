use Rattle.std.proofs.Common.{◌≡◌, length, ◌∙◌, rules}
use Rattle.mac.specs.Aes.{block, columns}
use Rattle.mac.proofs.Places.{elements}
use Rattle.mac.proofs.words.load.Goals as goal

pub returns : goal.returns
returns c =
    let long : length c.args.b ≡ 16 = search rules in
    (λ i. columns (c.word.ensures i) (c.word-2.ensures i) (c.word-3.ensures i) (c.word-4.ensures i))
    ∙ elements 0 c.args.b (block (λ k. k)) tt long
