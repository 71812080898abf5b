use Rattle.std.proofs.Common.{refl, arith, rules}
use Rattle.mac.specs.Aes.{add_at_lem, add_round_key_of}
use Rattle.mac.proofs.BlockBytes.{written-more, written_all}
use Rattle.mac.proofs.cmac.xor.Goals as goal

pub loop-i-init : goal.loop-i-init
loop-i-init c = (omega arith, search rules, refl)

pub loop-i-preserved : goal.loop-i-preserved
loop-i-preserved c = written-more (add_at_lem c.args.x c.args.y.now) c.loop-i.r c.loop-i.i _ c.loop-i-test.true refl c.loop-i.invariant

pub returns : goal.returns
unfolding add_round_key_of
returns c = written_all (add_at_lem c.args.x c.args.y.now) c.loop-i.r c.loop-i.i (omega arith) c.loop-i.invariant
