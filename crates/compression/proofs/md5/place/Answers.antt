use Rattle.std.proofs.Common.{arith}
use Rattle.compression.proofs.Md5Operations.{place_in}
use Rattle.compression.proofs.md5.place.Goals as goal

pub returns-then-t-lt16 : goal.returns-then-t-lt16
returns-then-t-lt16 c = (place_in _ 0 (omega arith) (omega arith), omega arith)

pub returns-then-t-lt32 : goal.returns-then-t-lt32
returns-then-t-lt32 c = (place_in _ 1 (omega arith) (omega arith), omega arith)

pub returns-then-t-lt48 : goal.returns-then-t-lt48
returns-then-t-lt48 c = (place_in _ 2 (omega arith) (omega arith), omega arith)

pub returns : goal.returns
returns c = (place_in _ 3 (omega arith) (omega arith), omega arith)
