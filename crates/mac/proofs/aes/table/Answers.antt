use Rattle.mac.specs.Aes.{xtime, multiply, inverse, affine, sbox}
use Rattle.mac.specs.AesLaws.{sboxed}
use Rattle.mac.proofs.aes.table.Goals as goal

-- the test of all 256 entries, by FIPS 197's rule, computes
pub returns : goal.returns
unfolding xtime multiply inverse affine sbox
returns c = sboxed _ tt
