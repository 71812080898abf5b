-- `state::words_from`: the numbers passed have been read.
use Rattle.std.proofs.Common.{◌≡◌, ◌+◌, ◌*◌, length, take}
use Rattle.states.specs.Layout.{words_at_lem}
use Rattle.states.proofs.state.words_from.Given as goal

abbrev pub invariant-loop-word : goal.invariant-loop-word
invariant-loop-word g l =
    record {
      there : l.place ≡ l.at + 8 * l.word-index;
      whole : length l.word-items ≡ g.row.N;
      read : take l.word-index l.word-items ≡ words_at_lem l.word-index l.bytes l.at;
    }
