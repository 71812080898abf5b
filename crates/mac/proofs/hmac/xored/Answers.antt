use Rattle.std.proofs.Common.{◌≡◌, ℕ, map, sym, refl, ap, ◌∙◌, arith, length-set, take_all, rules}
use lib.Bits.{bit_xor}
use Rattle.mac.specs.Hmac.{xored}
use Rattle.mac.proofs.KeyBlock.{map_more}
use Rattle.mac.proofs.hmac.xored.Goals as goal

pub loop-i-init : goal.loop-i-init
loop-i-init c = (search rules, search rules, refl)

pub loop-i-preserved : goal.loop-i-preserved
loop-i-preserved c =
    let l = c.loop-i in (
      l.invariant.0,
      length-set l.out l.i _ ∙ l.invariant.1,
      map_more (λ (b : ℕ). bit_xor b c.args.x) l.i c.args.k l.out (omega arith) (omega arith) l.invariant.2,
    )

pub returns : goal.returns
unfolding xored
returns c =
    let l = c.loop-i in
    let q : l.i ≡ 64 = omega arith in
    sym (take_all 64 l.out (omega arith)) ∙ (rw q at l.invariant.2) ∙ ap (map (λ (b : ℕ). bit_xor b c.args.x)) (take_all 64 c.args.k (omega arith))
