-- `checksum::last_words` meets its contract.
use Rattle.std.proofs.Common.{ap, ◌∙◌, ℕ, List}
use Rattle.octets.specs.Octets.{get32}
use Rattle.checksum.specs.Running.{folded}
use Rattle.checksum.proofs.Steps.{padded}
use Rattle.checksum.proofs.last_words.Goals as goal

pub returns : goal.returns
returns c =
    ap folded (c.load32.ensures ∙ ap (λ (l : List ℕ). get32 l 0) c.padded.ensures) ∙ padded c.args.piece.now (λ i. (c.type_inv.piece i).fits) c.requires
