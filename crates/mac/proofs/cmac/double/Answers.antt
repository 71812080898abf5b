use Rattle.std.proofs.Common.{◌≡◌, ℕ, ◌+◌, ◌/◌, ◌<◌, List, get_or, refl, arith, lt-ltb}
use Rattle.mac.specs.Cmac.{shifted, double_at, double}
use Rattle.mac.proofs.BlockBytes.{written-more, written_all}
use Rattle.mac.proofs.cmac.double.Goals as goal

low : (l : List ℕ) (i : ℕ) → i < 15 → shifted (get_or l i 0) (get_or l (i + 1) 0 / 128) ≡ double_at l i
low l i h = rw (lt-ltb i 15 h) refl

pub loop-i-init : goal.loop-i-init
loop-i-init c = (omega arith, refl, refl)

pub loop-i-preserved : goal.loop-i-preserved
loop-i-preserved c =
    written-more (double_at c.args.l) c.loop-i.r c.loop-i.i _ (omega arith) (low c.args.l c.loop-i.i c.loop-i-test.true) c.loop-i.invariant

pub returns : goal.returns
unfolding double
returns c =
    let e : c.loop-i.i ≡ 15 = omega arith in
    written_all (double_at c.args.l) _ 16 (omega arith)
    (written-more (double_at c.args.l) c.loop-i.r 15 _ (omega arith) c.carry.ensures (rw e at c.loop-i.invariant))
