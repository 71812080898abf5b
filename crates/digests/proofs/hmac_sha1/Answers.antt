use Rattle.std.proofs.Common.{◌≡◌, length, rules}
use Rattle.std.proofs.lemmas.Bool.{lt-leb}
use Rattle.mac.specs.Hmac.{hmac_sha1_of}
use Rattle.digests.specs.Digests.{hmac_sha1_into}
use Rattle.digests.proofs.Written.{refused, given}
use Rattle.digests.proofs.hmac_sha1.Goals as goal

pub returns-then-out-lt20 : goal.returns-then-out-lt20
unfolding hmac_sha1_into
returns-then-out-lt20 c = let a = c.args in refused _ 20 (hmac_sha1_of a.key.now a.message.now) a.out.now (lt-leb _ _ c.if-out-lt20.true)

pub returns : goal.returns
unfolding hmac_sha1_into
returns c =
    let long : length c.hmac_sha1.result ≡ 20 = search rules in
    given 20 c.hmac_sha1.result _ c.args.out.now long c.hmac_sha1.ensures c.give.ensures
