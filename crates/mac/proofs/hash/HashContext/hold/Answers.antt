use Rattle.std.proofs.Common.{◌≡◌, ◌%◌, length, take, ap, ◌∙◌, arith, rules}
use Rattle.mac.specs.Blocks.{view_of}
use Rattle.mac.specs.BlocksLaws.{kept, pasted}
use Rattle.mac.specs.HashContexts.{parts_of, words_of}
use Rattle.mac.proofs.hash.HashContext.hold.Goals as goal

pub returns : goal.returns
returns c =
    let self = c.args.self in
    let a = c.args.hash in
    let r = c.put.result in
    let lb : length self.block ≡ 64 = search rules in
    ap (λ h. view_of (take (words_of a) h) r.block r.count) c.put.ensures.chain
    ∙ kept (parts_of a) (take (words_of a) self.chain) self.block c.args.«data».now self.count lb r.block r.count c.requires (omega arith)
    c.put.ensures.count (pasted self.block _ r.block (self.count % 64) (omega (arith, c.requires)) c.put.ensures.block)
