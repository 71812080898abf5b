-- Field by field, as the definition has them.
use Rattle.prepared.specs.Prepared.{clean_secret, raw_secret}
use Rattle.prepared.proofs.clean.RawEntry.secret.Goals as goal

pub returns-in-Keys : goal.returns-in-Keys
unfolding clean_secret raw_secret
returns-in-Keys c = rw c.in-Keys.is (cc)

pub returns-in-Md5 : goal.returns-in-Md5
unfolding clean_secret raw_secret
returns-in-Md5 c = rw c.in-Md5.is (cc)
