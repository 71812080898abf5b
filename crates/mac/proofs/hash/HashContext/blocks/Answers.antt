use Rattle.std.proofs.Common.{◌*◌, ◌/◌, length, take, refl, arith}
use Rattle.mac.specs.BlocksLaws.{absorb-rest, blocks-done}
use Rattle.mac.specs.HashContexts.{parts_of, words_of}
use Rattle.mac.proofs.hash.HashContext.blocks.Goals as goal

pub returns : goal.returns
returns c =
    let self = c.args.self in
    let a = c.args.hash in
    let d = c.args.«data».now in
    let done = blocks-done (parts_of a) (take (words_of a) self.chain) (take (words_of a) c.compress_all.result) self.block d self.count _
    (length d / 64) c.requires (omega arith) (omega arith) refl c.compress_all.ensures in
    absorb-rest (parts_of a) _ d (64 * (length d / 64)) done.0 c.hold.ensures
