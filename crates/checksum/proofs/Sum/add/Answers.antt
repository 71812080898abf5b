-- `checksum::Sum::add` meets its contract.
use Rattle.std.proofs.Common.{◌∙◌, true, false}
use Rattle.checksum.proofs.Steps.{both}
use Rattle.checksum.proofs.Sum.add.Goals as goal
use Rattle.checksum.proofs.Sum.add.Goals.{then-self, else-self}

pub returns : goal.returns
returns c =
    elim c.if-self.branch [
      | then-self w ↦ both c.args.self c.args.piece.now c.if-self.sum true w.if-self.true (w.sum-is ∙ w.with_half-sum.ensures)
      | else-self w ↦ both c.args.self c.args.piece.now c.if-self.sum false w.if-self.false (w.sum-is ∙ w.with_words-sum.ensures)
    ]
