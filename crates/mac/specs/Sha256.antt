-- SHA-256, FIPS 180-4 §6.2: a hash with blocks of 64 bytes whose compression, first chaining value and digest are those of the crate
-- compression (Sha256Block), and of a message. Padding, blocks and chaining are those of `Blocks`. Assumes nothing.
use Rattle.std.specs.Prelude.{ℕ, List}
use Rattle.octets.specs.Octets.{bytes64}
use Rattle.compression.specs.Sha256Block.{compress, initial, digest}
use Rattle.mac.specs.Blocks.{Hash, hash}

abbrev pub parts : Hash
parts = record { compress = compress; initial = initial; suffix = bytes64; digest = digest }

abbrev pub sha256 : List ℕ → List ℕ
sha256 = hash parts
