use Rattle.std.proofs.Common.{◌≡◌, ℕ, length, take, ap, ◌∙◌, rules}
use Rattle.mac.specs.Cmac.{tag, finished}
use Rattle.mac.proofs.CmacSteps.{held-is}
use Rattle.mac.proofs.cmac.CmacContext.finish.Goals as goal

-- the bytes held are the last block
pub returns : goal.returns
unfolding finished
returns c =
    let s = c.args.self in
    let l : length s.block ≡ 16 = search rules in
    let q : take c.count-n.result s.block ≡ take s.held s.block =
    ap (λ (k : ℕ). take k s.block) c.count-n.ensures ∙ held-is s.held s.block l in
    c.tag.ensures ∙ (λ i. tag (c.new.ensures i) s.chain (q i))
