-- Document 01, "Positions", "A connection's life" and "Numbers given back", and document 02, Tickets 5 and 9: what a connection is, and
-- who writes its state.
use Rattle.std.specs.Prelude.{ℕ, suc, ◌+◌, ◌-◌, ◌/◌, ◌^◌, max, Bool, true, false, cond, not, ◌&&◌, ◌||◌, List, [], ◌∷◌, length, get_or, set}
use Rattle.std.specs.Prelude.{take, replicate, eqb, ltb, Some, None}
use Rattle.wire.specs.Header.{source_port_of, destination_port_of, sequence}
use Rattle.keys.specs.declared.entry.Pair.{Pair}
use Rattle.keys.specs.Entry.{width, padded}
use Rattle.tables.specs.Tables.{Tables, send_entry}
use Rattle.rules.specs.Position.{Place, position}
use Rattle.rules.specs.declared.Connection.{Connection}
use Rattle.rules.specs.declared.State.{State}
use Rattle.rules.specs.Mac.{Flow}

-- A socket pair.

-- an address of a pair: an IPv4 address is the first four bytes of its field, and what stands behind means nothing
abbrev pub local_address : Pair → List ℕ
local_address p = take (width p.family) p.local

abbrev pub remote_address : Pair → List ℕ
remote_address p = take (width p.family) p.remote

-- 19: "addresses not both 4 or both 16 bytes"
abbrev pub sized : List ℕ → List ℕ → Bool
sized a b = (eqb (length a) 4 && eqb (length b) 4) || (eqb (length a) 16 && eqb (length b) 16)

-- the pair of two addresses of one size
abbrev pub pair_of_lem : List ℕ → List ℕ → ℕ → ℕ → Pair
pair_of_lem local remote local_port remote_port =
    record {
      family = cond (eqb (length local) 4) 4 6;
      local_port = local_port;
      remote_port = remote_port;
      local = padded local;
      remote = padded remote;
    }

-- a segment as it arrives, with the addresses that IP gives
pub record Arrival : Type 0 where
  pub source : List ℕ
  pub destination : List ℕ
  pub segment : List ℕ

abbrev pub arrival_of : (source destination segment : List ℕ) → Arrival
arrival_of source destination segment = record { source = source; destination = destination; segment = segment }

-- the pair of an arrival as we hold it: its source is our remote side
abbrev pub arrival_pair_of : Arrival → Pair
arrival_pair_of a = pair_of_lem a.destination a.source (destination_port_of a.segment) (source_port_of a.segment)

-- Stages. Stage 1 is open, every other value opening.

abbrev pub is_open_of : Connection → Bool
is_open_of l = eqb l.stage 1

-- Ways. Ticket 9: "A connection goes by the way it was opened": way 1 is MD5, every other value TCP-AO.

abbrev pub is_md5_of : Connection → Bool
is_md5_of l = eqb l.way 1

abbrev pub ao_way : ℕ
ao_way = 0

abbrev pub md5_way : ℕ
md5_way = 1

-- Flows: "'source' is whoever sent the segment".

-- "Open: each segment .. is judged and signed with both ISNs"; of the SYN+ACK that opens, "its sequence number is the peer's ISN"
abbrev pub arriving : Connection → List ℕ → Flow
arriving l s =
    record {
      source = remote_address l.pair;
      destination = local_address l.pair;
      source_port = l.pair.remote_port;
      destination_port = l.pair.local_port;
      source_isn = cond (is_open_of l) l.peer_isn (sequence s);
      destination_isn = l.isn;
    }

-- "For a bare SYN (SYN set, ACK clear) the destination ISN is zero", and while opening nothing else is signed
abbrev pub leaving : Connection → Flow
leaving l =
    record {
      source = local_address l.pair;
      destination = remote_address l.pair;
      source_port = l.pair.local_port;
      destination_port = l.pair.remote_port;
      source_isn = l.isn;
      destination_isn = cond (is_open_of l) l.peer_isn 0;
    }

-- a bare SYN that is judged without a state
abbrev pub arriving_syn : Arrival → Flow
arriving_syn a =
    record {
      source = a.source;
      destination = a.destination;
      source_port = source_port_of a.segment;
      destination_port = destination_port_of a.segment;
      source_isn = sequence a.segment;
      destination_isn = 0;
    }

-- Positions.

-- "A bare SYN and the SYN+ACK that opens have extension 0 and their own number as position; once open, every segment goes by its
-- position." (A position below 2^32 has extension 0.) Ticket 9: "An MD5 accept has extension 0", "28 is not given"; of an MD5 connection
-- every segment has its own number.
abbrev pub place_on_lem : Connection → ℕ → ℕ → Place
place_on_lem l reference s = cond (is_open_of l && not (is_md5_of l)) (position reference s) (Some s)

abbrev pub located : Place → Bool
located (Some x) = true
located None = false

abbrev pub value : Place → ℕ
value (Some x) = x
value None = 0

-- "The extension is X divided by 2^32, rounded down."
abbrev pub extension_of_lem : ℕ → ℕ
extension_of_lem x = x / 2 ^ 32

-- Counts.

-- "Counts of acceptances and of each drop stop at 2^64-1."
abbrev pub stop : ℕ
stop = 2 ^ 64 - 1

abbrev pub bump : ℕ → ℕ
bump n = cond (ltb n stop) (n + 1) n

-- the drops that are counted, "20 to 29", each in a place of its own; Ticket 5: "the counted drops and their sum include" 40; Ticket 9: 46
-- and 47, "counted and within the sum"
abbrev pub counted_numbers : List ℕ
counted_numbers = 20 ∷ 21 ∷ 22 ∷ 23 ∷ 24 ∷ 25 ∷ 26 ∷ 27 ∷ 28 ∷ 29 ∷ 40 ∷ 46 ∷ 47 ∷ []

abbrev pub slots : ℕ
slots = length counted_numbers

-- the place of a number in a list, if it is there
abbrev pub later : Place → Place
later (Some i) = Some (suc i)
later None = None

abbrev pub place_in : ℕ → List ℕ → Place
place_in n [] = None
place_in n (m ∷ l) = cond (eqb n m) (Some 0) (later (place_in n l))

unfoldable pub slot : ℕ → Place
slot n = place_in n counted_numbers

abbrev pub is_counted : ℕ → Bool
is_counted n = located (slot n)

-- "add one to that number's count"
abbrev pub count_at_lem : Place → List ℕ → List ℕ
count_at_lem (Some i) drops = set drops i (bump (get_or drops i 0))
count_at_lem None drops = drops

unfoldable pub count_drop_of : ℕ → List ℕ → List ℕ
count_drop_of n drops = count_at_lem (slot n) drops

-- Keys.

-- "an entry matching the pair has that SendID"
unfoldable pub available : Tables → Pair → ℕ → Bool
available t p id = (send_entry t p id).there

-- "After any acceptance: if RNextKeyID differs from the outgoing SendID, and an entry matching the pair has that SendID, it becomes the
-- outgoing key (7.5.2.e)."
unfoldable pub next_key_of : Tables → Pair → ℕ → ℕ → ℕ
next_key_of t p rnext current = cond (eqb rnext current) current (cond (available t p rnext) rnext current)

-- Writers of the state.

-- "Opening sets each reference to that side's ISN"; counts: "All are 0 at opening; the segment that opens is not counted."
abbrev pub opened : (way : ℕ) → Pair → ℕ → ℕ → ℕ → ℕ → State
opened way p isn peer_isn send_id ask_id =
    record {
      conn = record { stage = 1; way = way; pair = p; isn = isn; peer_isn = peer_isn };
      sent = isn;
      seen = peer_isn;
      send_id = send_id;
      ask_id = ask_id;
      accepted = 0;
      drops = replicate slots 0;
    }

-- "until the peer's ISN is known, it and its reference are 0"
abbrev pub opening : (way : ℕ) → Pair → ℕ → ℕ → ℕ → State
opening way p isn send_id ask_id =
    record {
      conn = record { stage = 0; way = way; pair = p; isn = isn; peer_isn = 0 };
      sent = isn;
      seen = 0;
      send_id = send_id;
      ask_id = ask_id;
      accepted = 0;
      drops = replicate slots 0;
    }

-- "the empty state, family 0": every field is zero
abbrev pub empty : State
empty =
    record {
      conn =
          record {
            stage = 0;
            way = 0;
            pair = record { family = 0; local_port = 0; remote_port = 0; local = replicate 16 0; remote = replicate 16 0 };
            isn = 0;
            peer_isn = 0;
          };
      sent = 0;
      seen = 0;
      send_id = 0;
      ask_id = 0;
      accepted = 0;
      drops = replicate slots 0;
    }

-- an accepted segment at position x, once open: "sets its direction's reference to the larger of the old one and X"; it is counted
abbrev pub with_accepted_of : ℕ → ℕ → State → State
with_accepted_of x send_id q =
    record {
      conn = q.conn;
      sent = q.sent;
      seen = max q.seen x;
      send_id = send_id;
      ask_id = q.ask_id;
      accepted = bump q.accepted;
      drops = q.drops;
    }

-- Ticket 9, once open: "after opening neither it nor signing moves a reference"; an accepted MD5 segment is counted and no more
abbrev pub with_counted_of : State → State
with_counted_of q =
    record {
      conn = q.conn;
      sent = q.sent;
      seen = q.seen;
      send_id = q.send_id;
      ask_id = q.ask_id;
      accepted = bump q.accepted;
      drops = q.drops;
    }

-- a drop, once open
abbrev pub with_drop_of : ℕ → State → State
with_drop_of n q =
    record {
      conn = q.conn;
      sent = q.sent;
      seen = q.seen;
      send_id = q.send_id;
      ask_id = q.ask_id;
      accepted = q.accepted;
      drops = count_drop_of n q.drops;
    }

-- a signed segment at position x
abbrev pub with_sent_of : ℕ → State → State
with_sent_of x q =
    record {
      conn = q.conn;
      sent = max q.sent x;
      seen = q.seen;
      send_id = q.send_id;
      ask_id = q.ask_id;
      accepted = q.accepted;
      drops = q.drops;
    }

-- "An operator call sets the RecvID asked of the peer; nothing else does."
abbrev pub with_asked_of : ℕ → State → State
with_asked_of id q =
    record {
      conn = q.conn;
      sent = q.sent;
      seen = q.seen;
      send_id = q.send_id;
      ask_id = id;
      accepted = q.accepted;
      drops = q.drops;
    }
