use Rattle.std.proofs.Common.{◌≡◌, ◌+◌, ◌%◌, length, take, sym, ap, ◌∙◌, arith, take_all, rules}
use Rattle.mac.specs.BlocksLaws.{completed, pasted, chained-one}
use Rattle.mac.specs.HashContexts.{parts_of, words_of}
use Rattle.mac.proofs.hash.HashContext.complete.Goals as goal

pub returns : goal.returns
returns c =
    let self = c.args.self in
    let a = c.args.hash in
    let x = c.args.«data».now in
    let full = c.put-full.result in
    let lb : length self.block ≡ 64 = search rules in
    let l : length full.block ≡ 64 = search rules in
    let p : take (self.count % 64 + length x) full.block ≡ _ = pasted self.block x full.block (self.count % 64) (omega (arith, c.requires)) c.put-full.ensures.block in
    completed (parts_of a) (take (words_of a) self.chain) self.block x self.count lb full.block (take (words_of a) c.compress_all.result)
    full.block full.count c.requires c.put-full.ensures.count (sym (take_all 64 full.block (omega arith)) ∙ (rw c.requires at p))
    (c.compress_all.ensures ∙ chained-one (parts_of a) full.block l (ap (take (words_of a)) c.put-full.ensures.chain))
