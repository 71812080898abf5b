use Rattle.std.proofs.Common.{ℕ, ◌≡◌, ◌∙◌, ◌+◌, ◌-◌, ◌≤◌, length, ap, arith, rules}
use Rattle.rules.specs.Mac.{blank}
use Rattle.traffic.proofs.Pieces.{blank-first, written}
use Rattle.traffic.proofs.assembled.Assembled.blank.Goals as goal

pub returns-clause-value : goal.returns-clause-value
returns-clause-value g c =
    let below : c.args.i + c.args.n ≤ c.self.inside.len = search rules in
    let whole : c.self.inside.len ≤ length c.self.inside.bytes = search rules in
    blank-first c.args.i c.args.n (c.args.i + c.args.n - c.args.i) c.self.inside.len c.self.inside.bytes c.fill.new.self below whole (omega arith)
    (c.fill.ensures.after (search rules))
    ∙ ap (blank c.args.i c.args.n) c.self.view_is

pub invariant_of-self : goal.invariant_of-self
invariant_of-self g c =
    let i : ℕ = c.args.i in
    let k : ℕ = i + c.args.n - i in
    let below : i + c.args.n ≤ c.self.inside.len = search rules in
    let z : length c.fill.new.self ≡ k = search rules in
    written g.row.N c.self.inside.len i c.self.inside.len k c.self.inside.bytes c.fill.new.self (omega arith) (omega arith)
    c.self.invariant.0 c.self.invariant.1 c.self.invariant.2 z
