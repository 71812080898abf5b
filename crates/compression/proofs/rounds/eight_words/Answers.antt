use Rattle.std.proofs.Common.{refl, ◌∙◌, arith, length-set}
use Rattle.compression.proofs.Ring.{ring-more}
use Rattle.compression.proofs.rounds.eight_words.Goals as goal

pub loop-i-preserved : goal.loop-i-preserved
loop-i-preserved g c =
    let l = c.loop-i in (
      refl,
      length-set l.w l.i _ ∙ l.invariant.1,
      λ W h e. let p = l.invariant.2 W h e in ring-more _ l.i _ W l.w h (omega arith) p (c.next.ensures W h p),
    )
