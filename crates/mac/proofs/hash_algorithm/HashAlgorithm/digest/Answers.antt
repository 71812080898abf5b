use Rattle.std.proofs.Common.{◌≡◌, length, sym, rules}
use Rattle.mac.specs.Hmac.{filled}
use Rattle.mac.specs.HashContexts.{digest_room}
use Rattle.mac.specs.HashLaws.{filled-full}
use Rattle.mac.specs.declared.hash_algorithm.HashAlgorithm.TheVariants.{Sha1, Sha256, Md5}
use Rattle.mac.proofs.Algorithms.{all-eight, digested-in}
use Rattle.mac.proofs.hash_algorithm.HashAlgorithm.digest.Goals as goal

pub returns-in-Sha1 : goal.returns-in-Sha1
unfolding filled
returns-in-Sha1 c = digested-in _ Sha1 c.in-Sha1.is _ _ _ _ c.first.ensures c.digest.ensures c.padded.ensures

pub returns-in-Sha256 : goal.returns-in-Sha256
returns-in-Sha256 c =
    let lh : length c.args.h ≡ 8 = search rules in
    let lr : length c.digest-in-Sha256.result ≡ 32 = search rules in
    digested-in _ Sha256 c.in-Sha256.is _ c.args.h _ _ (sym (all-eight c.args.h lh))
    c.digest-in-Sha256.ensures (sym (filled-full digest_room c.digest-in-Sha256.result lr))

pub returns-in-Md5 : goal.returns-in-Md5
unfolding filled
returns-in-Md5 c = digested-in _ Md5 c.in-Md5.is _ _ _ _ c.first-in-Md5.ensures c.digest-in-Md5.ensures c.padded-in-Md5.ensures
