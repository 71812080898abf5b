use Rattle.mac.specs.Aes.{columns}
use Rattle.mac.proofs.rounds.round.Goals as goal

pub returns : goal.returns
returns g c = λ i. columns (c.column.ensures i) (c.column-2.ensures i) (c.column-3.ensures i) (c.column-4.ensures i)
