use Rattle.std.proofs.Common.{◌≡◌, length, rules}
use Rattle.std.proofs.lemmas.Bool.{lt-leb}
use Rattle.mac.specs.Md5.{md5}
use Rattle.digests.specs.Digests.{md5_into}
use Rattle.digests.proofs.Written.{refused, given}
use Rattle.digests.proofs.md5.Goals as goal

pub returns-then-out-lt16 : goal.returns-then-out-lt16
unfolding md5_into
returns-then-out-lt16 c = let a = c.args in refused _ 16 (md5 a.message.now) a.out.now (lt-leb _ _ c.if-out-lt16.true)

pub returns : goal.returns
unfolding md5_into
returns c =
    let long : length c.md5.result ≡ 16 = search rules in
    given 16 c.md5.result _ c.args.out.now long c.md5.ensures c.give.ensures
