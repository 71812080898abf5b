use Rattle.std.proofs.Common.{arith}
use Rattle.compression.proofs.Sha1Compression.{constant-in}
use Rattle.compression.proofs.sha1.constant.Goals as goal

pub returns-then-t-lt20 : goal.returns-then-t-lt20
returns-then-t-lt20 c = constant-in _ 0 (omega arith)

pub returns-then-t-lt40 : goal.returns-then-t-lt40
returns-then-t-lt40 c = constant-in _ 1 (omega arith)

pub returns-then-t-lt60 : goal.returns-then-t-lt60
returns-then-t-lt60 c = constant-in _ 2 (omega arith)

pub returns : goal.returns
returns c = constant-in _ 3 (omega arith)
