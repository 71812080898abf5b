-- `state::words_at`: the bytes of the numbers passed have been copied.
use Rattle.std.proofs.Common.{◌≡◌, ◌+◌, ◌*◌, length}
use Rattle.std.proofs.Math.Seq.{paste}
use Rattle.states.specs.Layout.{word_bytes}
use Rattle.states.proofs.state.words_at.Given as goal

abbrev pub invariant-loop-word : goal.invariant-loop-word
invariant-loop-word l =
    record {
      there : l.place ≡ l.at + 8 * l.word-index;
      whole : length l.out ≡ length l.fn.out;
      copied : l.out ≡ paste l.fn.out l.at (word_bytes l.words) (8 * l.word-index);
    }
