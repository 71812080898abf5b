-- Bytes of one record are looked at together.
use Rattle.std.proofs.Common.{◌≡◌, ℕ, ◌+◌, length, take, sym, ap, arith, length-take-le, rules, le-ltb, lt-ltb}
use Rattle.recording.proofs.Holding.{idles, waits, looks, advances, takes}
use Rattle.recording.proofs.desk.Desk.advance.Goals as goal

pub returns-then-self-gt1 : goal.returns-then-self-gt1
returns-then-self-gt1 c =
    let g = idles (take (length c.args.table.now)) c.args.self c.args.table.now c.args.«data».now _ (lt-ltb _ _ c.if-self-gt1.true) c.idle.ensures in
    record { desk = g.0; took = g.1; room = search rules }

pub returns-then-is_empty : goal.returns-then-is_empty
returns-then-is_empty c =
    let g = waits (take (length c.args.table.now)) c.args.self c.args.table.now c.args.«data».now _ (le-ltb _ _ c.if-self-gt1.false)
    (search rules) c.idle-then-is_empty.ensures in
    record { desk = g.0; took = g.1; room = search rules }

pub slice_bounds-hold-end : goal.slice_bounds-hold-end
slice_bounds-hold-end c = sym (length-take-le _ _ (omega (arith, c.to_take-took.ensures.0)))

pub hold-requires : goal.hold-requires
hold-requires c =
    let t = c.to_take-took in
    omega (arith, t.ensures.0, t.ensures.2, length-take-le t.result c.args.«data».now (omega (arith, t.ensures.0)))

pub look-told-requires : goal.look-told-requires
look-told-requires c =
    let whole : length c.args.self.begun ≡ 1601 = search rules in
    let t = c.to_take-took in
    looks c.args.self _ c.args.«data».now t.result _ whole t.ensures.0 t.ensures.1 t.ensures.2
    (ap (λ (k : ℕ). k + t.result) c.held_bytes.ensures.0) c.hold.ensures

pub returns : goal.returns
returns c =
    let whole : length c.args.self.begun ≡ 1601 = search rules in
    let t = c.to_take-took in
    let n = ap (λ (k : ℕ). k + t.result) c.held_bytes.ensures.0 in
    let h = c.hold in
    let s = le-ltb _ _ c.if-self-gt1.false in
    record {
      desk =
          advances c.args.self h.result c.args.«data».now t.result _ whole t.ensures.0 t.ensures.1 t.ensures.2 n h.ensures
          (take (length c.args.table.now)) c.args.table.now _ _ _ s c.look-told.ensures;
      took =
          takes c.args.self h.result c.args.«data».now t.result _ whole t.ensures.0 t.ensures.1 t.ensures.2 n h.ensures
          c.args.table.now s;
      room = search rules;
    }
