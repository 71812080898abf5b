use Rattle.std.proofs.Common.{[], rules}
use Rattle.mac.specs.Blocks.{start}
use Rattle.mac.proofs.hash.HashContext.new.Statement.{statement}
use Rattle.mac.proofs.hash.HashContext.new.Tie as tie

returns : tie.Need-returns
unfolding start
returns c = λ i. record { chain = c.initial.ensures i; held = []; count = 0 }

pub new_spec : {M : Type 1} → statement M
new_spec = tie.close (tie.spec (λ c κs. search rules) returns)
