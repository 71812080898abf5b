-- The layout of a state: each field stands at its place, and reading and writing are inverse to each other.
-- Assumes of a state what every value of its type has (`Value`), and of bytes that they are below 256; the contracts of `state::encode` and
-- `state::decode` repeat both laws without these.
use Rattle.std.specs.Prelude.{◌≡◌, ℕ, ◌+◌, ◌*◌, ◌^◌, ◌<◌, ◌≤◌, List, [], ◌∷◌, ◌++◌, length, take, drop, slice_index}
use Rattle.std.proofs.Math.Path.{refl, ap}
use Rattle.std.proofs.Common.{sym, ◌∙◌, arith, length-drop, drop_of_length-le, take-append-drop, drop-cons, drop-drop, get_or-drop}
use Rattle.std.proofs.Math.Seq.{take_at, drop_at}
use Rattle.octets.specs.Octets.{get16, get32, bytes16, bytes32, bytes64}
use Rattle.octets.specs.Each.{Octets}
use Rattle.rules.specs.declared.State.{State}
use Rattle.rules.specs.Connection.{slots}
use Rattle.rules.specs.Ends.{Typed}
use Rattle.states.specs.Layout.{family_at, stage_at, send_id_at, ask_id_at, local_port_at, remote_port_at, isn_at, peer_isn_at, local_at, remote_at_lem, sent_at, seen_at, accepted_at, drops_at, way_at, state_bytes, get64, words_at_lem, word_bytes, decode_pair, decode_connection, decode_of, Row, rows, joined, encode_of}
use Rattle.states.specs.WordLaws.{back16, back32, back64, from16, from32, from64, forth16, forth32, forth64, length-words, words_back, words-from, words-forth}

-- What every value of the type `State` has: its arrays are full, and each number is within its width.
pub record Value (s : State) : Type 0 where
  pub typed : Typed s
  pub local-port : s.conn.pair.local_port < 2 ^ 16
  pub remote-port : s.conn.pair.remote_port < 2 ^ 16
  pub accepted : s.accepted < 2 ^ 64
  pub drops : (i : ℕ) → slice_index s.drops i < 2 ^ 64

-- A state's bytes.

-- as the parts that the code puts together: what stands before the addresses, both addresses, three numbers, the counts, the way
abbrev pub head_of : State → List ℕ
head_of s =
    s.conn.pair.family
    ∷ s.conn.stage
    ∷ s.send_id
    ∷ s.ask_id
    ∷ (bytes16 s.conn.pair.local_port
    ++ (bytes16 s.conn.pair.remote_port ++ (bytes32 s.conn.isn ++ bytes32 s.conn.peer_isn)))

abbrev pub numbers_of : State → List ℕ
numbers_of s = s.sent ∷ s.seen ∷ s.accepted ∷ []

abbrev pub from_drops : State → List ℕ
from_drops s = word_bytes s.drops ++ (s.conn.way ∷ [])

abbrev pub from_numbers : State → List ℕ
from_numbers s = word_bytes (numbers_of s) ++ from_drops s

abbrev pub from_remote : State → List ℕ
from_remote s = s.conn.pair.remote ++ from_numbers s

abbrev pub from_local : State → List ℕ
from_local s = s.conn.pair.local ++ from_remote s

pub parts : (s : State) → encode_of s ≡ head_of s ++ from_local s
unfolding encode_of joined rows word_bytes
parts s = refl

-- each field begins where the one before ends, at the place that is named for it, and the last ends at the state's length
abbrev pub Placed : ℕ → List Row → ℕ → Type 0
Placed n [] end = n ≡ end
Placed n (r ∷ l) end = (r.at ≡ n) × Placed (n + length r.bytes) l end

pub in_place : (s : State) → Value s → Placed 0 (rows s) state_bytes
unfolding rows
in_place s v =
    let a = v.typed.local in
    let b = v.typed.remote in
    let c = length-words s.drops in
    let d = v.typed.counts in
    (refl, (refl, (refl, (refl, (refl, (refl, (refl, (refl, (refl, (omega arith, (omega arith, (omega arith, (omega arith, (omega arith, (omega arith, omega arith)))))))))))))))

-- "reading and writing it back gives the same bytes" ..

-- n bytes, and all that stands behind them
glue : (b x r : List ℕ) (at n : ℕ) → x ≡ take n (drop at b) → r ≡ drop (at + n) b → x ++ r ≡ drop at b
glue b x r at n p q = (λ i. p i ++ (q ∙ sym (drop-drop n at b)) i) ∙ take-append-drop n (drop at b)

module _ (b : List ℕ) (whole : length b ≡ state_bytes) (o : Octets b) where
  behind : (at : ℕ) → Octets (drop at b)
  behind at k = rw (get_or-drop at b k 0) (o (at + k))

  byte : (at : ℕ) → at < state_bytes → slice_index b at ∷ [] ≡ take 1 (drop at b)
  byte at h = rw (drop-cons b at 0 (omega arith))

  two : (at : ℕ) → at + 2 ≤ state_bytes → bytes16 (get16 b at) ≡ take 2 (drop at b)
  two at h = let d = length-drop at b in ap bytes16 (from16 b at) ∙ forth16 (drop at b) (omega arith) (behind at)

  four : (at : ℕ) → at + 4 ≤ state_bytes → bytes32 (get32 b at) ≡ take 4 (drop at b)
  four at h = let d = length-drop at b in ap bytes32 (from32 b at) ∙ forth32 (drop at b) (omega arith) (behind at)

  eight : (at : ℕ) → at + 8 ≤ state_bytes → bytes64 (get64 b at) ≡ take 8 (drop at b)
  eight at h = let d = length-drop at b in ap bytes64 (from64 b at) ∙ forth64 (drop at b) (omega arith) (behind at)

  pub encode-decode : encode_of (decode_of b) ≡ b
  unfolding encode_of joined rows decode_of decode_connection decode_pair
  encode-decode =
      glue b _ _ family_at 1 (byte family_at (omega arith))
      (glue b _ _ stage_at 1 (byte stage_at (omega arith))
      (glue b _ _ send_id_at 1 (byte send_id_at (omega arith))
      (glue b _ _ ask_id_at 1 (byte ask_id_at (omega arith))
      (glue b _ _ local_port_at 2 (two local_port_at (omega arith))
      (glue b _ _ remote_port_at 2 (two remote_port_at (omega arith))
      (glue b _ _ isn_at 4 (four isn_at (omega arith))
      (glue b _ _ peer_isn_at 4 (four peer_isn_at (omega arith))
      (glue b _ _ local_at 16 refl
      (glue b _ _ remote_at_lem 16 refl
      (glue b _ _ sent_at 8 (eight sent_at (omega arith))
      (glue b _ _ seen_at 8 (eight seen_at (omega arith))
      (glue b _ _ accepted_at 8 (eight accepted_at (omega arith))
      (glue b _ _ drops_at (8 * slots) (words-forth slots b drops_at o (omega arith))
      (glue b _ _ way_at 1 (byte way_at (omega arith)) (sym (drop_of_length-le b {i = state_bytes} (omega arith)))))))))))))))))

-- .. and writing and reading it back the same state

module _ (s : State) (v : Value s) where
  remote-from : drop 16 (from_local s) ≡ from_remote s
  remote-from = drop_at s.conn.pair.local (from_remote s) 16 v.typed.local

  numbers-from : (k : ℕ) → drop (32 + k) (from_local s) ≡ drop k (from_numbers s)
  numbers-from k =
      sym (drop-drop k 32 (from_local s))
      ∙ ap (drop k) (sym (drop-drop 16 16 (from_local s)) ∙ ap (drop 16) remote-from ∙ drop_at s.conn.pair.remote (from_numbers s) 16 v.typed.remote)

  drops-long : length (word_bytes s.drops) ≡ 8 * slots
  drops-long = length-words s.drops ∙ ap (λ (k : ℕ). 8 * k) v.typed.counts

  way-from : drop (24 + 8 * slots) (from_numbers s) ≡ s.conn.way ∷ []
  unfolding word_bytes
  way-from = drop_at (word_bytes s.drops) (s.conn.way ∷ []) (8 * slots) drops-long

  read : decode_of (head_of s ++ from_local s) ≡ s
  unfolding decode_of decode_connection decode_pair word_bytes
  read i =
      record {
        conn =
            record {
              stage = s.conn.stage;
              way = (sym (get_or-drop way_at (head_of s ++ from_local s) 0 0) ∙ ap (λ (l : List ℕ). slice_index l 0) (numbers-from 128 ∙ way-from)) i;
              pair =
                  record {
                    family = s.conn.pair.family;
                    local_port = back16 s.conn.pair.local_port v.local-port i;
                    remote_port = back16 s.conn.pair.remote_port v.remote-port i;
                    local = take_at s.conn.pair.local (from_remote s) 16 v.typed.local i;
                    remote = (ap (take 16) remote-from ∙ take_at s.conn.pair.remote (from_numbers s) 16 v.typed.remote) i;
                  };
              isn = back32 s.conn.isn v.typed.isn i;
              peer_isn = back32 s.conn.peer_isn v.typed.peer i;
            };
        sent = (from64 (head_of s ++ from_local s) sent_at ∙ ap (λ (l : List ℕ). get64 l 0) (numbers-from 0) ∙ back64 s.sent v.typed.sent) i;
        seen = (from64 (head_of s ++ from_local s) seen_at ∙ ap (λ (l : List ℕ). get64 l 0) (numbers-from 8) ∙ back64 s.seen v.typed.seen) i;
        send_id = s.send_id;
        ask_id = s.ask_id;
        accepted = (from64 (head_of s ++ from_local s) accepted_at ∙ ap (λ (l : List ℕ). get64 l 0) (numbers-from 16) ∙ back64 s.accepted v.accepted) i;
        drops = (words-from slots (head_of s ++ from_local s) drops_at 0 ∙ ap (λ (l : List ℕ). words_at_lem slots l 0) (numbers-from 24) ∙ (rw v.typed.counts at (words_back [] s.drops (s.conn.way ∷ []) v.drops))) i;
      }

  pub decode-encode : decode_of (encode_of s) ≡ s
  decode-encode = ap decode_of (parts s) ∙ read
