use Rattle.std.proofs.Common.{◌≡◌, length, rules}
use Rattle.compression.proofs.Ring.{ring-none, ring-all}
use Rattle.compression.proofs.rounds.next_words.Goals as goal

pub returns : goal.returns
returns g c =
    let W = c.args.w.now in
    let h : length W ≡ 16 = search rules in
    ring-all _ W _ h (c.eight_words-2.ensures W h (c.eight_words.ensures W h (ring-none _ W h)))
