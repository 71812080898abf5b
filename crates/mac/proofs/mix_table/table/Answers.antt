use Rattle.mac.specs.Aes.{xtime, multiply, inverse, affine, sbox}
use Rattle.mac.proofs.MixTable.{entry, mixing}
use Rattle.mac.proofs.mix_table.table.Goals as goal

-- the test of all 256 entries, by the S-box and its multiples in the field, computes
pub returns : goal.returns
unfolding xtime multiply inverse affine sbox entry
returns c = mixing _ tt
