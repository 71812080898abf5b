use Rattle.std.proofs.Common.{refl, arith}
use Rattle.compression.proofs.Sha1Compression.{function-in}
use Rattle.compression.proofs.sha1.function.Goals as goal

pub returns-then-t-lt20 : goal.returns-then-t-lt20
returns-then-t-lt20 c = function-in _ 0 _ _ _ _ (omega arith) c.ch.ensures

pub returns-then-t-lt40 : goal.returns-then-t-lt40
returns-then-t-lt40 c = function-in _ 1 _ _ _ _ (omega arith) refl

pub returns-then-t-lt60 : goal.returns-then-t-lt60
returns-then-t-lt60 c = function-in _ 2 _ _ _ _ (omega arith) c.maj.ensures

pub returns : goal.returns
returns c = function-in _ 3 _ _ _ _ (omega arith) refl
