-- A connection's state as bytes: docs/BOUNDARY.md, "The state". Integers are big-endian. Every string of so many bytes is a state.
-- Fields that later requests add come behind these: what stands here keeps its place.
use Rattle.std.specs.Prelude.{ℕ, zero, suc, ◌+◌, Bool, List, [], ◌∷◌, ◌++◌, length, take, drop, ◌==◌, slice_index}
use Rattle.octets.specs.Octets.{get16, get32, bytes16, bytes32, bytes64}
pub use Rattle.octets.specs.Octets.{get64}
use Rattle.keys.specs.declared.entry.Pair.{Pair}
use Rattle.rules.specs.declared.Connection.{Connection}
use Rattle.rules.specs.declared.State.{State}
use Rattle.rules.specs.Connection.{slots}

-- Where each field stands.

abbrev pub family_at : ℕ
family_at = 0

abbrev pub stage_at : ℕ
stage_at = 1

abbrev pub send_id_at : ℕ
send_id_at = 2

abbrev pub ask_id_at : ℕ
ask_id_at = 3

abbrev pub local_port_at : ℕ
local_port_at = 4

abbrev pub remote_port_at : ℕ
remote_port_at = 6

abbrev pub isn_at : ℕ
isn_at = 8

abbrev pub peer_isn_at : ℕ
peer_isn_at = 12

abbrev pub local_at : ℕ
local_at = 16

abbrev pub remote_at_lem : ℕ
remote_at_lem = 32

abbrev pub sent_at : ℕ
sent_at = 48

abbrev pub seen_at : ℕ
seen_at = 56

abbrev pub accepted_at : ℕ
accepted_at = 64

abbrev pub drops_at : ℕ
drops_at = 72

abbrev pub way_at : ℕ
way_at = 176

abbrev pub state_bytes : ℕ
state_bytes = 177

-- whether a buffer has a state's length
abbrev pub is_state_of : List ℕ → Bool
is_state_of b = length b == state_bytes

-- Numbers of eight bytes.

-- n numbers, one behind the other from `at` on, and numbers as bytes
unfoldable pub words_at_lem : ℕ → List ℕ → ℕ → List ℕ
words_at_lem zero b at = []
words_at_lem (suc n) b at = get64 b at ∷ words_at_lem n b (at + 8)

unfoldable pub word_bytes : List ℕ → List ℕ
word_bytes [] = []
word_bytes (x ∷ l) = bytes64 x ++ word_bytes l

-- Bytes read as a state.

unfoldable pub decode_pair : List ℕ → Pair
decode_pair b =
    record {
      family = slice_index b family_at;
      local_port = get16 b local_port_at;
      remote_port = get16 b remote_port_at;
      local = take 16 (drop local_at b);
      remote = take 16 (drop remote_at_lem b);
    }

unfoldable pub decode_connection : List ℕ → Connection
decode_connection b =
    record {
      stage = slice_index b stage_at;
      way = slice_index b way_at;
      pair = decode_pair b;
      isn = get32 b isn_at;
      peer_isn = get32 b peer_isn_at;
    }

unfoldable pub decode_of : List ℕ → State
decode_of b =
    record {
      conn = decode_connection b;
      sent = get64 b sent_at;
      seen = get64 b seen_at;
      send_id = slice_index b send_id_at;
      ask_id = slice_index b ask_id_at;
      accepted = get64 b accepted_at;
      drops = words_at_lem slots b drops_at;
    }

-- A state as bytes: its fields one behind the other. LayoutLaws proves that each then stands where it is said to stand.

pub record Row : Type 0 where
  pub at : ℕ
  pub bytes : List ℕ

abbrev row : ℕ → List ℕ → Row
row at bytes = record { at = at; bytes = bytes }

unfoldable pub rows : State → List Row
rows s =
    row family_at (s.conn.pair.family ∷ [])
    ∷ row stage_at (s.conn.stage ∷ [])
    ∷ row send_id_at (s.send_id ∷ [])
    ∷ row ask_id_at (s.ask_id ∷ [])
    ∷ row local_port_at (bytes16 s.conn.pair.local_port)
    ∷ row remote_port_at (bytes16 s.conn.pair.remote_port)
    ∷ row isn_at (bytes32 s.conn.isn)
    ∷ row peer_isn_at (bytes32 s.conn.peer_isn)
    ∷ row local_at s.conn.pair.local
    ∷ row remote_at_lem s.conn.pair.remote
    ∷ row sent_at (bytes64 s.sent)
    ∷ row seen_at (bytes64 s.seen)
    ∷ row accepted_at (bytes64 s.accepted)
    ∷ row drops_at (word_bytes s.drops)
    ∷ row way_at (s.conn.way ∷ []) ∷ []

unfoldable pub joined : List Row → List ℕ
joined [] = []
joined (r ∷ l) = r.bytes ++ joined l

unfoldable pub encode_of : State → List ℕ
encode_of s = joined (rows s)
