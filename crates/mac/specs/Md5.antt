-- MD5, RFC 1321: a hash with blocks of 64 bytes whose handling of a block, first registers and digest are those of the crate compression
-- (Md5Block), and of a message. Padding (§3.1, §3.2), blocks and chaining are those of `Blocks`; the count of bits is low-order byte first.
-- Assumes nothing.
use Rattle.std.specs.Prelude.{ℕ, List}
use Rattle.compression.specs.Md5Block.{compress, initial, digest, bytes_low64}
use Rattle.mac.specs.Blocks.{Hash, hash}

abbrev pub parts : Hash
parts = record { compress = compress; initial = initial; suffix = bytes_low64; digest = digest }

abbrev pub md5 : List ℕ → List ℕ
md5 = hash parts
