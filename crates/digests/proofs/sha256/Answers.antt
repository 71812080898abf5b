use Rattle.std.proofs.Common.{◌≡◌, length, rules}
use Rattle.std.proofs.lemmas.Bool.{lt-leb}
use Rattle.mac.specs.Sha256.{sha256}
use Rattle.digests.specs.Digests.{sha256_into}
use Rattle.digests.proofs.Written.{refused, given}
use Rattle.digests.proofs.sha256.Goals as goal

pub returns-then-out-lt32 : goal.returns-then-out-lt32
unfolding sha256_into
returns-then-out-lt32 c = let a = c.args in refused _ 32 (sha256 a.message.now) a.out.now (lt-leb _ _ c.if-out-lt32.true)

pub returns : goal.returns
unfolding sha256_into
returns c =
    let long : length c.sha256.result ≡ 32 = search rules in
    given 32 c.sha256.result _ c.args.out.now long c.sha256.ensures c.give.ensures
