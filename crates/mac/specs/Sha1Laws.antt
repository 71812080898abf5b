-- Laws of SHA-1: a digest has 20 bytes. Assumes nothing.
use Rattle.std.specs.Prelude.{◌≡◌, ℕ, List, length, refl}
use Rattle.mac.specs.BlocksLaws.{digest-all}
use Rattle.compression.specs.Sha1Block.{digest}
use Rattle.mac.specs.Sha1.{parts, sha1}

pub length-digest : (h : List ℕ) → length (digest h) ≡ 20
unfolding digest
length-digest h = refl

pub length-sha1 : (m : List ℕ) → length (sha1 m) ≡ 20
length-sha1 = digest-all parts (λ (d : List ℕ). length d ≡ 20) length-digest
