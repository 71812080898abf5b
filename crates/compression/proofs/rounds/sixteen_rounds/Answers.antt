use Rattle.compression.proofs.RoundLaws.{in-sixteen}
use Rattle.compression.proofs.rounds.sixteen_rounds.Goals as goal

pub returns : goal.returns
returns g c =
    in-sixteen _ _ _ _ _ _ _ _ _ c.four_rounds-s.ensures c.four_rounds-s-2.ensures c.four_rounds-s-3.ensures c.four_rounds.ensures
