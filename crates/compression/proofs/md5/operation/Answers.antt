use Rattle.std.proofs.Common.{◌≡◌, ◌-◌, ◌%◌, rules, arith}
use Rattle.compression.specs.Md5Block.{operation}
use Rattle.compression.proofs.md5.operation.Goals as goal

pub returns : goal.returns
unfolding operation
returns c =
    let left : c.args.n % 32 ≡ c.args.n = omega (arith, c.requires) in
    let right : (32 - c.args.n) % 32 ≡ 32 - c.args.n = omega (arith, c.requires) in
    let r = rw (left, right) at c.rotate_left.ensures in
    search rules
