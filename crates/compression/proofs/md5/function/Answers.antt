use Rattle.std.proofs.Common.{arith}
use Rattle.compression.proofs.Md5Operations.{function-in}
use Rattle.compression.proofs.md5.function.Goals as goal

pub returns-then-t-lt16 : goal.returns-then-t-lt16
returns-then-t-lt16 c = function-in _ 0 _ _ _ _ (omega arith) c.f.ensures

pub returns-then-t-lt32 : goal.returns-then-t-lt32
returns-then-t-lt32 c = function-in _ 1 _ _ _ _ (omega arith) c.g.ensures

pub returns-then-t-lt48 : goal.returns-then-t-lt48
returns-then-t-lt48 c = function-in _ 2 _ _ _ _ (omega arith) c.h.ensures

pub returns : goal.returns
returns c = function-in _ 3 _ _ _ _ (omega arith) c.i.ensures
