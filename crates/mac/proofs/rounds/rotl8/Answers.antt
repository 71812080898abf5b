use Rattle.std.proofs.Common.{ℕ, ap, ◌∙◌, rules}
use Rattle.mac.specs.AesWords.{bytes}
use Rattle.mac.proofs.WordBytes.{rotated-bytes}
use Rattle.mac.proofs.rounds.rotl8.Goals as goal

pub returns : goal.returns
returns c = ap (λ (x : ℕ). bytes x) c.rotate_left.ensures ∙ rotated-bytes c.args.x (search rules)
