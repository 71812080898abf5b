-- Laws of MD5: a digest has 16 bytes. Assumes nothing.
use Rattle.std.specs.Prelude.{◌≡◌, ℕ, List, length, refl}
use Rattle.mac.specs.BlocksLaws.{digest-all}
use Rattle.compression.specs.Md5Block.{digest}
use Rattle.mac.specs.Md5.{parts, md5}

pub length-digest : (h : List ℕ) → length (digest h) ≡ 16
unfolding digest
length-digest h = refl

pub length-md5 : (m : List ℕ) → length (md5 m) ≡ 16
length-md5 = digest-all parts (λ (d : List ℕ). length d ≡ 16) length-digest
