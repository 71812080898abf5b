use Rattle.std.proofs.Common.{◌≡◌, length, rules}
use Rattle.std.proofs.lemmas.Bool.{lt-leb}
use Rattle.mac.specs.Sha1.{sha1}
use Rattle.digests.specs.Digests.{sha1_into}
use Rattle.digests.proofs.Written.{refused, given}
use Rattle.digests.proofs.sha1.Goals as goal

pub returns-then-out-lt20 : goal.returns-then-out-lt20
unfolding sha1_into
returns-then-out-lt20 c = let a = c.args in refused _ 20 (sha1 a.message.now) a.out.now (lt-leb _ _ c.if-out-lt20.true)

pub returns : goal.returns
unfolding sha1_into
returns c =
    let long : length c.sha1.result ≡ 20 = search rules in
    given 20 c.sha1.result _ c.args.out.now long c.sha1.ensures c.give.ensures
