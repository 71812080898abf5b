use Rattle.std.proofs.Common.{◌≡◌, length, ap, sym, ◌∙◌, rules}
use Rattle.compression.specs.Schedule.{rounds_in}
use Rattle.compression.specs.Md5Block.{place_of, step, sum4}
use Rattle.compression.proofs.RoundLaws.{listed}
use Rattle.compression.proofs.Md5Operations.{compressed}
use Rattle.compression.proofs.md5.compress.Goals as goal

pub returns : goal.returns
unfolding sum4
returns c =
    let four : length c.args.h ≡ 4 = search rules in
    compressed c.args.h _ _ _ _ _ _
    (c.sixteen_rounds-s.ensures ∙ ap (rounds_in step place_of 0 16 _) (sym (listed 4 _ four)))
    c.sixteen_rounds-s-2.ensures c.sixteen_rounds-s-3.ensures c.sixteen_rounds.ensures c.sum.ensures
