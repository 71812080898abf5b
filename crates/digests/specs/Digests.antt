-- What the calls on messages give and write: docs/BOUNDARY.md, "The calls on one connection", its last paragraph. Each is one definition.
-- Assumes nothing.
use Rattle.std.specs.Prelude.{ℕ, Bool, cond, ◌&&◌, List, ◌++◌, length, drop, leb, eqb}
use Rattle.mac.specs.Sha1.{sha1}
use Rattle.mac.specs.Sha256.{sha256}
use Rattle.mac.specs.Md5.{md5}
use Rattle.mac.specs.Hmac.{hmac_sha1_of, hmac_sha256_of}
use Rattle.mac.specs.Aes.{key_expansion, cipher}
use Rattle.mac.specs.Cmac.{cmac}

-- "Where out is shorter": whether n bytes have room in it
abbrev pub room : ℕ → List ℕ → Bool
room n out = leb n (length out)

-- "or an AES key or block has not 16 bytes": whether it has
abbrev pub sixteen : List ℕ → Bool
sixteen s = eqb (length s) 16

-- "how many bytes they wrote at the front of `out`", and out at exit
pub record Given : Type 0 where
  pub count : ℕ
  pub out : List ℕ

abbrev pub gives : ℕ → List ℕ → Given
gives n out = record { count = n; out = out }

-- n bytes, the digest d, at the front of out if the call can be made; and else "they give 0 and write nothing"
abbrev pub into : (can : Bool) (n : ℕ) (d out : List ℕ) → Given
into can n d out = gives (cond can n 0) (cond can (d ++ drop (length d) out) out)

-- whether a call with an AES key, and one with a block too, can be made
abbrev pub can_tag : List ℕ → List ℕ → Bool
can_tag key out = sixteen key && room 16 out

abbrev pub can_encrypt : List ℕ → List ℕ → List ℕ → Bool
can_encrypt key block out = sixteen key && (sixteen block && room 16 out)

-- The calls.

unfoldable pub sha1_into : (message out : List ℕ) → Given
sha1_into message out = into (room 20 out) 20 (sha1 message) out

unfoldable pub hmac_sha1_into : (key message out : List ℕ) → Given
hmac_sha1_into key message out = into (room 20 out) 20 (hmac_sha1_of key message) out

unfoldable pub sha256_into : (message out : List ℕ) → Given
sha256_into message out = into (room 32 out) 32 (sha256 message) out

unfoldable pub hmac_sha256_into : (key message out : List ℕ) → Given
hmac_sha256_into key message out = into (room 32 out) 32 (hmac_sha256_of key message) out

unfoldable pub aes128_into : (key block out : List ℕ) → Given
aes128_into key block out = into (can_encrypt key block out) 16 (cipher (key_expansion key) block) out

unfoldable pub cmac_into : (key message out : List ℕ) → Given
cmac_into key message out = into (can_tag key out) 16 (cmac key message) out

unfoldable pub md5_into : (message out : List ℕ) → Given
md5_into message out = into (room 16 out) 16 (md5 message) out
