use Rattle.std.proofs.Common.{arith}
use Rattle.compression.proofs.Md5Operations.{shift_in}
use Rattle.compression.proofs.md5.shift.Goals as goal

pub returns-then-t-lt16 : goal.returns-then-t-lt16
returns-then-t-lt16 c = shift_in _ 0 _ (omega arith) (omega arith) c.in_turn.ensures

pub returns-then-t-lt32 : goal.returns-then-t-lt32
returns-then-t-lt32 c = shift_in _ 1 _ (omega arith) (omega arith) c.in_turn-then-t-lt32.ensures

pub returns-then-t-lt48 : goal.returns-then-t-lt48
returns-then-t-lt48 c = shift_in _ 2 _ (omega arith) (omega arith) c.in_turn-then-t-lt48.ensures

pub returns : goal.returns
returns c = shift_in _ 3 _ (omega arith) (omega arith) c.in_turn-2.ensures
