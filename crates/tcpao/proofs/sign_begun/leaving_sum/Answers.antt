-- Each address has the width of the family.
use borrow.Author.Rules.{rules}
use mathlib.Core.Path.{◌≡◌, sym, ◌∙◌}
use native.Mathlib.Omega.{arith}
use lib.ListN.{length, take}
use lib.Seq.{length-take-le}
use Rattle.keys.proofs.EntryLaws.{width-le}
use Rattle.rules.specs.Mac.{pseudo_header}
use Rattle.checksum.specs.Running.{begun, added}
use Rattle.tcpao.proofs.sign_begun.leaving_sum.Goals as goal

pub slice_bounds-source-end : goal.slice_bounds-source-end
slice_bounds-source-end c =
    let pair = c.args.pair in
    let l : length pair.local ≡ 16 = search rules in
    omega (arith, width-le pair.family)

pub slice_bounds-pseudo_sum-end : goal.slice_bounds-pseudo_sum-end
slice_bounds-pseudo_sum-end c =
    let pair = c.args.pair in
    let l : length pair.local ≡ 16 = search rules in
    sym (length-take-le _ pair.local (omega (arith, width-le pair.family)))

pub slice_bounds-destination-end : goal.slice_bounds-destination-end
slice_bounds-destination-end c =
    let pair = c.args.pair in
    let l : length pair.remote ≡ 16 = search rules in
    omega (arith, width-le pair.family)

pub slice_bounds-pseudo_sum-end-2 : goal.slice_bounds-pseudo_sum-end-2
slice_bounds-pseudo_sum-end-2 c =
    let pair = c.args.pair in
    let l : length pair.remote ≡ 16 = search rules in
    sym (length-take-le _ pair.remote (omega (arith, width-le pair.family)))

pub returns : goal.returns
returns c =
    let a = c.args in
    let e = c.width_of-w.ensures in
    c.pseudo_sum.ensures ∙ (λ i. added begun (pseudo_header (take (e i) a.pair.local) (take (e i) a.pair.remote) a.len))
