use Rattle.std.proofs.Common.{take, ap, ◌∙◌}
use Rattle.mac.specs.HashContexts.{parts_of, words_of, hash_view}
use Rattle.mac.specs.HmacLaws.{keyed}
use Rattle.mac.proofs.hmac.HmacContext.new.Goals as goal

pub returns : goal.returns
returns c =
    let a = c.args.hash in
    let outer = take (words_of a) c.pad-outer.result in
    (λ i. record { outer = outer; inner = hash_view a (c.behind_block.ensures i) })
    ∙ keyed (parts_of a) _ c.key_block-k.ensures c.pad-outer.ensures c.pad-inner.ensures
