use Rattle.std.proofs.Common.{ℕ, ◌-◌, List, ◌++◌, take, ap, ◌∙◌, take-append-drop}
use Rattle.mac.specs.Cmac.{absorb}
use Rattle.mac.specs.CmacContext.{view}
use Rattle.mac.specs.CmacLaws.{absorb-more}
use Rattle.mac.proofs.CmacSteps.{rest_from}
use Rattle.mac.proofs.cmac.CmacContext.update.Goals as goal

-- where there is no room for all, first what fills the block, then the rest
pub returns : goal.returns
returns c =
    let s = c.args.self in
    let d = c.args.«data».now in
    let room = 16 - c.count-n.result in
    absorb-more (view s) (take room d) _ c.hold-c.ensures.1 c.advance.ensures
    ∙ ap (absorb (view s)) (ap (λ (l : List ℕ). take room d ++ l) (rest_from d room) ∙ take-append-drop room d)
