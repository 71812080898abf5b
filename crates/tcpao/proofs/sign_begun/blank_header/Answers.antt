-- Three parts laid into zeros.
use native.Mathlib.Omega.{arith}
use mathlib.Core.Path.{sym}
use Prim.Native.Nat.{ℕ, ◌-◌}
use lib.ListN.{replicate}
use lib.Seq.{length-take-le}
use Rattle.tcpao.proofs.SignedLaws.{blank-is, ones-are}
use Rattle.tcpao.proofs.sign_begun.blank_header.Goals as goal

-- the padding's part of three bytes of kind 1
pub slice_bounds-padding-end : goal.slice_bounds-padding-end
slice_bounds-padding-end c = omega (arith, c.requires.near)

pub slice_bounds-copy_at-length : goal.slice_bounds-copy_at-length
slice_bounds-copy_at-length c =
    sym (length-take-le (c.args.added - c.args.len) _ (omega (arith, c.requires.near)))

pub copy_at-requires-2 : goal.copy_at-requires-2
copy_at-requires-2 c =
    let l = length-take-le (c.args.added - c.args.len) (replicate {A = ℕ} 3 1) (omega (arith, c.requires.near)) in
    omega (arith, l, c.requires.fits, c.requires.low, c.requires.long)

pub returns : goal.returns
returns c =
    let a = c.args in
    blank-is a.header.now c.copy_at.new.dst c.copy_at-2.new.dst _ a.kind a.len a.third a.fourth a.added c.requires
    c.head_of-head.ensures c.copy_at.ensures (ones-are (a.added - a.len) (omega (arith, c.requires.near)))
    c.copy_at-2.ensures c.copy_at-3.ensures

pub slice_bounds-padding-count : goal.slice_bounds-padding-count
slice_bounds-padding-count c = c.requires.fits
