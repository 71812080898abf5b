-- Laws of SHA-256: a digest has 32 bytes. Assumes nothing.
use Rattle.std.specs.Prelude.{◌≡◌, ℕ, List, length, refl}
use Rattle.mac.specs.BlocksLaws.{digest-all}
use Rattle.compression.specs.Sha256Block.{digest}
use Rattle.mac.specs.Sha256.{parts, sha256}

pub length-digest : (h : List ℕ) → length (digest h) ≡ 32
unfolding digest
length-digest h = refl

pub length-sha256 : (m : List ℕ) → length (sha256 m) ≡ 32
length-sha256 = digest-all parts (λ (d : List ℕ). length d ≡ 32) length-digest
