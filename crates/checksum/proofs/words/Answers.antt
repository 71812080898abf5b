-- `checksum::words` meets its contract.
use Rattle.std.proofs.Common.{rules}
use Rattle.checksum.proofs.Steps.{start, step, last_step}
use Rattle.checksum.proofs.words.Goals as goal

pub loop-pair-init : goal.loop-pair-init
loop-pair-init c = start _ _ _ _ (cc) (λ i. (c.type_inv.piece i).fits) (cc) (cc)

pub loop-pair-preserved : goal.loop-pair-preserved
loop-pair-preserved c =
    let s = c.in-Some.ensures.steps in
    step _ _ _ _ _ _ _ _ _ _ c.loop-pair.invariant s.0 s.1.0 s.1.1 c.with_room.ensures.same c.load32.ensures

pub returns : goal.returns
returns c =
    record {
      same = last_step _ _ _ _ _ _ _ c.loop-pair.invariant c.in-None.ensures.steps.1.0 c.with_room-2.ensures.same c.last_words.ensures;
      low = search rules;
    }
