-- By the stage, and what is held.
use Rattle.std.proofs.Common.{◌≡◌, length, sym, ◌∙◌, arith, rules, le-ltb, lt-ltb}
use Rattle.recording.proofs.Holding.{ends-stopped, ends_open, ends_held, ends-early}
use Rattle.recording.proofs.desk.Desk.finish.Goals as goal

pub returns-in-0 : goal.returns-in-0
returns-in-0 c = ends-early c.args.self (le-ltb _ _ (omega arith)) (omega arith)

pub returns-then-held_bytes-eq0 : goal.returns-then-held_bytes-eq0
returns-then-held_bytes-eq0 c = ends_open c.args.self c.in-1.is (sym c.held_bytes.ensures.0 ∙ c.if-held_bytes-eq0.true)

pub returns-else-held_bytes-eq0 : goal.returns-else-held_bytes-eq0
returns-else-held_bytes-eq0 c =
    let whole : length c.args.self.begun ≡ 1601 = search rules in
    let h = c.held_bytes in
    ends_held c.args.self h.result whole c.in-1.is h.ensures.0 h.ensures.2 c.if-held_bytes-eq0.false

pub returns-in_default : goal.returns-in_default
returns-in_default c = ends-stopped c.args.self (lt-ltb _ _ (omega arith))
