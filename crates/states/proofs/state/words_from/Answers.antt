-- `state::words_from`: one more number is read at its place.
use Rattle.std.proofs.Common.{refl, ap, ◌∙◌, arith, length-set}
use Rattle.std.proofs.lemmas.List.{length-replicate}
use Rattle.octets.specs.Octets.{get64}
use Rattle.states.specs.Layout.{words_at_lem}
use Rattle.states.proofs.Parts.{one-read}
use Rattle.states.proofs.state.words_from.Goals as goal

pub loop-word-init : goal.loop-word-init
unfolding words_at_lem
loop-word-init g c = record { there = omega arith; whole = length-replicate g.row.N 0; read = refl }

pub loop-word-preserved : goal.loop-word-preserved
loop-word-preserved g c =
    let l = c.loop-word in
    record {
      there = omega arith;
      whole = simp length-set l.invariant.whole;
      read =
          one-read l.word-items c.args.bytes.now l.word-index _ c.args.at (omega (arith, l.invariant.whole)) l.invariant.read
          (c.load64.ensures ∙ ap (get64 c.args.bytes.now) l.invariant.there);
    }
