-- Bytes in an array that has room for more: zeros stand behind them.
use Rattle.std.specs.Prelude.{ℕ, List}
use Rattle.octets.specs.Octets.{padded_of}
use Rattle.mac.specs.HashContexts as Hashes

abbrev pub padded : ℕ → List ℕ → List ℕ
padded = padded_of

-- the room that there is for a traffic key (20, 16 or 32 bytes), or for what an algorithm's MAC gives before it is cut: the one for a
-- digest, DIGEST_ROOM of the crate `mac`
abbrev pub digest_room : ℕ
digest_room = Hashes.digest_room
