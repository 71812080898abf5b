use Rattle.std.proofs.Common.{◌≡◌, length, rules}
use Rattle.std.proofs.lemmas.Bool.{lt-leb}
use Rattle.mac.specs.Hmac.{hmac_sha256_of}
use Rattle.digests.specs.Digests.{hmac_sha256_into}
use Rattle.digests.proofs.Written.{refused, given}
use Rattle.digests.proofs.hmac_sha256.Goals as goal

pub returns-then-out-lt32 : goal.returns-then-out-lt32
unfolding hmac_sha256_into
returns-then-out-lt32 c = let a = c.args in refused _ 32 (hmac_sha256_of a.key.now a.message.now) a.out.now (lt-leb _ _ c.if-out-lt32.true)

pub returns : goal.returns
unfolding hmac_sha256_into
returns c =
    let long : length c.hmac_sha256.result ≡ 32 = search rules in
    given 32 c.hmac_sha256.result _ c.args.out.now long c.hmac_sha256.ensures c.give.ensures
