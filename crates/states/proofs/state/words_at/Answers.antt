-- `state::words_at`: one more number is copied behind those that are there.
use Rattle.std.proofs.Common.{ℕ, ap, ◌∙◌, List, length, arith}
use Rattle.std.proofs.Math.Seq.{paste}
use Rattle.states.proofs.Parts.{one_written}
use Rattle.states.proofs.state.words_at.Goals as goal

pub loop-word-preserved : goal.loop-word-preserved
loop-word-preserved c =
    let l = c.loop-word in
    let a = c.args in
    record {
      there = omega arith;
      whole = c.copy_at.auto.dst ∙ l.invariant.whole;
      copied =
          one_written a.out.now a.words.now l.out _ _ a.at l.word-index c.requires c.loop-word-test.true l.invariant.copied c.bytes64.ensures
          (c.copy_at.ensures ∙ ap (λ (k : ℕ). paste l.out k c.bytes64.result (length c.bytes64.result)) l.invariant.there);
    }
