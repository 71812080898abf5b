-- What C reads in an answer's word: the statement of Word.antt, proved. Assumes nothing.
use Rattle.std.proofs.Common.{arith}
use Rattle.boundary.specs.Word.{word, WordReads}

pub reads : WordReads
unfolding word
reads a n t w = record { number = omega arith; table = omega arith; zero = omega arith; value = omega arith }
