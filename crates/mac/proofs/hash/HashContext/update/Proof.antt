use Rattle.std.proofs.Common.{◌≡◌, ◌-◌, ◌%◌, length, take, sym, arith, length-take-le, rules}
use Rattle.mac.specs.BlocksLaws.{absorb-rest}
use Rattle.mac.specs.HashContexts.{parts_of}
use Rattle.mac.proofs.hash.HashContext.update.Statement.{statement}
use Rattle.mac.proofs.hash.HashContext.update.Tie as tie

slice_aggregate-complete : tie.Need-slice_bounds-complete-end
slice_aggregate-complete c = sym (length-take-le _ _ (omega arith))

complete-requires : tie.Need-complete-requires
complete-requires c κs =
    let s = c.before.before.before.before in
    let room = 64 - s.args.self.count % 64 in
    let l : length (take room s.args.«data».now) ≡ room = length-take-le room _ (omega arith) in
    omega arith

returns-3 : tie.Need-returns
returns-3 c =
    let co = c.before.before in
    let s = co.before.before.before.before.before in
    absorb-rest (parts_of s.args.hash) _ s.args.«data».now (64 - s.args.self.count % 64) co.complete.ensures.0 c.blocks-2.ensures

pub update_spec : {M : Type 1} → statement M
update_spec =
    tie.close
    (tie.spec
    (λ c κs. search rules)
    (λ c. search rules)
    (λ c. search rules)
    (λ c κs. search rules)
    (λ c. search rules)
    slice_aggregate-complete
    complete-requires
    (λ c. search rules)
    (λ c. search rules)
    (λ c. search rules)
    (λ c κs. search rules)
    returns-3)
