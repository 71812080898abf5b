-- The part stands behind what was there, and zeros behind it.
use Rattle.std.proofs.Common.{ℕ, ◌≡◌, ◌∙◌, ◌+◌, ◌-◌, ◌≤◌, ◌++◌, length, ap, sym, arith}
use Rattle.std.proofs.lemmas.Slice.{take-put_mid}
use Rattle.octets.specs.PaddedLaws.{length-back}
use Rattle.traffic.proofs.Pieces.{written}
use Rattle.traffic.proofs.assembled.Assembled.push.Goals as goal

pub invariant_of-self : goal.invariant_of-self
invariant_of-self g c =
    let n : ℕ = c.self.inside.len in
    let k : ℕ = length c.args.part.now in
    let own : length c.args.self ≡ n =
    ap length (sym c.self.view_is) ∙ length-back g.row.N n c.self.inside.bytes c.self.invariant.0 c.self.invariant.1 in
    let room : n + k ≤ g.row.N = omega (arith, c.requires, own) in
    let z : length c.copy_from_slice.new.self ≡ n + k - n = ap length c.copy_from_slice.ensures.after ∙ omega arith in
    written g.row.N n n (n + k) (n + k - n) c.self.inside.bytes c.copy_from_slice.new.self (omega arith) (omega arith) room
    c.self.invariant.1 c.self.invariant.2 z

pub returns : goal.returns
returns g c =
    let n : ℕ = c.self.inside.len in
    let k : ℕ = length c.args.part.now in
    let z : length c.copy_from_slice.new.self ≡ k = ap length c.copy_from_slice.ensures.after in
    take-put_mid n (n + k - n) c.self.inside.bytes c.copy_from_slice.new.self (n + k) (omega (arith, z)) (omega (arith, c.self.invariant))
    ∙ (λ t. c.self.view_is t ++ c.copy_from_slice.ensures.after t)
