-- Each turn lays one byte more.
use Rattle.std.proofs.Common.{◌≡◌, ℕ, ◌+◌, List, length, set, get_or, ap, ◌∙◌, arith}
use Rattle.std.proofs.Math.Seq.{paste}
use Rattle.std.proofs.lemmas.List.Edits.{paste_none, paste_more}
use Rattle.tcpao.proofs.sign.lay_data.Goals as goal

pub loop-i-init : goal.loop-i-init
loop-i-init c = paste_none c.args.out.now c.args.at c.args.«data».now

pub loop-i-preserved : goal.loop-i-preserved
loop-i-preserved c =
    let a = c.args in
    let i : ℕ = c.loop-i.i in
    ap (λ (l : List ℕ). set l (a.at + i) (get_or a.«data».now i 0)) c.loop-i.invariant
    ∙ paste_more a.out.now a.at a.«data».now i 0 (omega (arith, c.requires, c.loop-i-test.true)) c.loop-i-test.true

pub returns : goal.returns
returns c =
    let a = c.args in
    let e : c.loop-i.i ≡ length a.«data».now = omega (arith, c.loop-i-test.false, c.loop-i.auto.i-end) in
    c.loop-i.invariant ∙ ap (paste a.out.now a.at a.«data».now) e
