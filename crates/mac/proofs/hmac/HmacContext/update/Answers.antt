use Rattle.std.proofs.Common.{take}
use Rattle.mac.specs.Hmac.{hmac_absorb}
use Rattle.mac.specs.HashContexts.{words_of}
use Rattle.mac.proofs.hmac.HmacContext.update.Goals as goal

pub returns : goal.returns
unfolding hmac_absorb
returns c = λ i. record { outer = take (words_of c.args.hash) c.args.self.outer; inner = c.update.ensures i }
