-- The data stand behind the old header; what is written is the new one and they.
use borrow.Author.Rules.{rules}
use Prim.Native.Nat.{◌+◌, ◌-◌}
use mathlib.Core.Path.{◌≡◌, sym}
use native.Mathlib.Omega.{arith}
use lib.ListN.{length, take, drop, length-drop}
use lib.Seq.{length-take-le}
use Rattle.tcpao.proofs.SignedLaws.{written_is}
use Rattle.tcpao.proofs.sign.finish.Goals as goal

pub slice_bounds-lay-end : goal.slice_bounds-lay-end
slice_bounds-lay-end c =
    let e = c.header_end-end in
    let h = c.end-header.result in
    let k : length h ≡ 60 = search rules in
    sym (length-take-le (e.result + c.args.begun.added) h (omega (arith, e.ensures, c.requires.header)))

pub lay-requires : goal.lay-requires
lay-requires c =
    let e = c.header_end-end in
    let s = c.args.segment.now in
    let h = c.end-header.result in
    let k : length h ≡ 60 = search rules in
    let l = length-take-le (e.result + c.args.begun.added) h (omega (arith, e.ensures, c.requires.header)) in
    let d : length (take (length s - e.result) (drop e.result s)) ≡ length s - e.result =
    length-take-le (length s - e.result) (drop e.result s) (omega (arith, length-drop e.result s)) in
    omega (arith, e.ensures, c.requires.room, c.requires.inside)

pub returns : goal.returns
returns c =
    let e = c.header_end-end in
    let a = c.args in
    written_is a.begun c.data.result a.segment.now a.out.now e.ensures c.data.ensures
    c.end-header.ensures c.lay.ensures
