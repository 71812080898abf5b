use Rattle.std.proofs.Common.{◌≡◌, ◌%◌, length, ap, sym, ◌∙◌, rules}
use Rattle.compression.specs.Schedule.{rounds_in}
use Rattle.compression.specs.Sha256Block.{step, sum8}
use Rattle.compression.proofs.RoundLaws.{listed}
use Rattle.compression.proofs.Sha256Compression.{compressed}
use Rattle.compression.proofs.sha256.compress.Goals as goal

pub returns : goal.returns
unfolding sum8
returns c =
    let long : length c.args.words ≡ 16 = search rules in
    let eight : length c.args.h ≡ 8 = search rules in
    compressed c.args.h _ _ _ _ _ _ _ _ _ long
    c.next_words.ensures c.next_words-2.ensures c.next_words-3.ensures
    (c.sixteen_rounds-s.ensures ∙ ap (rounds_in step (λ t. t % 16) 0 16 _) (sym (listed 8 _ eight))) c.sixteen_rounds-s-2.ensures c.sixteen_rounds-s-3.ensures
    c.sixteen_rounds.ensures c.sum.ensures
