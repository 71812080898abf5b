-- `checksum::with_half` meets its contract.
use Rattle.std.proofs.Common.{◌∙◌, true, arith}
use Rattle.checksum.proofs.Steps.{none, half}
use Rattle.checksum.proofs.with_half.Goals as goal

pub returns-in-empty : goal.returns-in-empty
returns-in-empty c = none c.args.piece.now true c.args.sum (omega arith) (omega arith)

pub returns-in-len1-up : goal.returns-in-len1-up
returns-in-len1-up c =
    c.fold.ensures ∙ half c.args.piece.now c.args.sum c.words.result (λ i. (c.type_inv.piece i).fits) c.in-len1-up.len_at_least c.words.ensures.same
