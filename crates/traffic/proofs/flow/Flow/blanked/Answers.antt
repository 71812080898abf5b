use Rattle.std.proofs.Common.{◌≡◌, length, ap, rules}
use Rattle.traffic.proofs.Blanked.{flow-seen, without_destination}
use Rattle.traffic.proofs.flow.Flow.blanked.Goals as goal
use Rattle.traffic.proofs.flow.Flow.blanked.Goals.{then-hidden, else-hidden}

pub returns-then-hidden-2 : goal.returns-then-hidden-2
returns-then-hidden-2 c =
    let ls : length c.args.self.source ≡ 16 = search rules in
    let ld : length c.args.self.destination ≡ 16 = search rules in
    elim c.if-hidden.branch [
      | then-hidden w ↦ flow-seen c.args.hidden c.args.self ls ld w.if-hidden.true c.if-hidden-2.true (ap without_destination w.self-is)
      | else-hidden w ↦ flow-seen c.args.hidden c.args.self ls ld w.if-hidden.false c.if-hidden-2.true (ap without_destination w.self-is)
    ]

pub returns-else-hidden-2 : goal.returns-else-hidden-2
returns-else-hidden-2 c =
    let ls : length c.args.self.source ≡ 16 = search rules in
    let ld : length c.args.self.destination ≡ 16 = search rules in
    elim c.if-hidden.branch [
      | then-hidden w ↦ flow-seen c.args.hidden c.args.self ls ld w.if-hidden.true c.if-hidden-2.false w.self-is
      | else-hidden w ↦ flow-seen c.args.hidden c.args.self ls ld w.if-hidden.false c.if-hidden-2.false w.self-is
    ]
