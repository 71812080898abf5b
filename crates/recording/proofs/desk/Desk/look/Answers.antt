-- A fault, a record that is not whole, a whole one.
use Rattle.std.proofs.Common.{◌≡◌, length, take, sym, refl, ◌∙◌, arith, length-take-le, rules}
use Rattle.recording.proofs.Holding.{inside, looks-stop, looks-short, is_whole, looks-whole}
use Rattle.recording.proofs.desk.Desk.look.Goals as goal

pub shared_ref_as_front-begun : goal.shared_ref_as_front-begun
shared_ref_as_front-begun c =
    let whole : length c.args.self.begun ≡ 1601 = search rules in
    omega (arith, inside c.args.self c.args.n whole c.requires, whole)

pub slice_bounds-begun-end : goal.slice_bounds-begun-end
slice_bounds-begun-end c =
    let whole : length c.args.self.begun ≡ 1601 = search rules in
    sym (length-take-le _ _ (inside c.args.self c.args.n whole c.requires))

pub returns-then-faulty : goal.returns-then-faulty
returns-then-faulty c =
    let whole : length c.args.self.begun ≡ 1601 = search rules in
    looks-stop c.args.self c.args.n whole c.requires (take (length c.args.table.now)) c.args.table.now _ _ _
    (sym c.if-faulty.true ∙ c.faulty.ensures) (c.stop.ensures c.args.table.now)

pub returns-then-n-record_bytes : goal.returns-then-n-record_bytes
returns-then-n-record_bytes c =
    let whole : length c.args.self.begun ≡ 1601 = search rules in
    looks-short c.args.self c.args.n whole c.requires (take (length c.args.table.now)) c.args.table.now _ _
    (sym c.if-faulty.false ∙ c.faulty.ensures) c.record_bytes.ensures.0 c.if-n-record_bytes.true (λ p. refl)

pub settle-requires : goal.settle-requires
settle-requires c =
    let whole : length c.args.self.begun ≡ 1601 = search rules in
    is_whole c.args.self c.args.n whole c.requires
    (sym c.if-faulty.false ∙ c.faulty.ensures) _
    c.record_bytes.ensures.0 c.if-n-record_bytes.false

pub returns : goal.returns
returns c =
    let whole : length c.args.self.begun ≡ 1601 = search rules in
    looks-whole c.args.self c.args.n whole c.requires (sym c.if-faulty.false ∙ c.faulty.ensures) _
    c.record_bytes.ensures.0 c.if-n-record_bytes.false
    (take (length c.args.table.now)) c.args.table.now _ _ _ c.settle.ensures
