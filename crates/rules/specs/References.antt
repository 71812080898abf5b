-- What each call makes of the references, ISNs, stage, IDs and counts of a state, as statements with every field written out: document 01,
-- "Positions", "A connection's life" and "Numbers given back"; document 02, Ticket 9. ReferenceLaws proves them.
use Rattle.std.specs.Prelude.{ℕ, ◌+◌, ◌<◌, min, max, ◌≡◌, Bool, true, false, List, [], ◌∷◌, get_or, set, Some}
use Rattle.wire.specs.Header.{sequence}
use Rattle.keys.specs.declared.entry.Ids.{Ids}
use Rattle.tables.specs.Tables.{Tables, send_entry, recv_entry}
use Rattle.rules.specs.declared.Verdict.TheVariants.{Accept, Drop}
use Rattle.rules.specs.declared.State.{State}
use Rattle.rules.specs.Signing as S
use Rattle.rules.specs.Done as D
use Rattle.rules.specs.Position.{position}
use Rattle.rules.specs.Segment.{key_id_of, rnext_key_id}
use Rattle.rules.specs.Connection.{Arrival, pair_of_lem, arrival_pair_of, is_open_of, is_md5_of, next_key_of}
use Rattle.rules.specs.Calls.{syn_is_md5, judged, opened_passively, opened_actively, opened_actively_md5, asked, signed}

-- thirteen counts, of the drops 20 to 29, 40, 46 and 47: "All are 0 at opening"
abbrev pub zero_counts : List ℕ
zero_counts = 0 ∷ 0 ∷ 0 ∷ 0 ∷ 0 ∷ 0 ∷ 0 ∷ 0 ∷ 0 ∷ 0 ∷ 0 ∷ 0 ∷ 0 ∷ []

-- "Counts of acceptances and of each drop stop at 2^64-1."
abbrev pub count_up : ℕ → ℕ
count_up n = min 18446744073709551615 (n + 1)

-- Signing.

-- the state q with the sending reference moved to the larger of itself and x
abbrev pub sent_to : ℕ → State → State
sent_to x q =
    record {
      conn = q.conn;
      sent = max q.sent x;
      seen = q.seen;
      send_id = q.send_id;
      ask_id = q.ask_id;
      accepted = q.accepted;
      drops = q.drops;
    }

-- "An accepted or signed segment sets its direction's reference to the larger of the old one and X." Once open, X is the position of its
-- number by the sending reference.
abbrev pub SignedOpen : Type 0
SignedOpen = (t : Tables) (s out : List ℕ) (q : State) (n : ℕ) → is_open_of q.conn ≡ true → is_md5_of q.conn ≡ false
    → (signed t s out q).answer ≡ S.Signed n
    → (x : ℕ) × (position q.sent (sequence s) ≡ Some x) × ((signed t s out q).state ≡ sent_to x q)

-- Ticket 9, on the MD5 way: "after opening neither it nor signing moves a reference"
abbrev pub SignedOpenMd5 : Type 0
SignedOpenMd5 = (t : Tables) (s out : List ℕ) (q : State) (n : ℕ) → is_open_of q.conn ≡ true → is_md5_of q.conn ≡ true
    → (signed t s out q).answer ≡ S.Signed n → (signed t s out q).state ≡ q

-- "A bare SYN .. [has its] own number as position", by either way
abbrev pub SignedOpening : Type 0
SignedOpening = (t : Tables) (s out : List ℕ) (q : State) (n : ℕ) → is_open_of q.conn ≡ false → (signed t s out q).answer ≡ S.Signed n
    → (signed t s out q).state ≡ sent_to (sequence s) q

-- The openings.

-- "Active opening names a SendID .. It gives the outgoing key and, by RecvID, the key asked of the peer." "Opening sets each reference to
-- that side's ISN; until the peer's ISN is known, it and its reference are 0."
abbrev pub OpensActively : Type 0
OpensActively = (t : Tables) (local remote : List ℕ) (local_port remote_port isn send_id : ℕ)
    → (opened_actively t local remote local_port remote_port isn send_id).answer ≡ D.Succeeded
    → (opened_actively t local remote local_port remote_port isn send_id).state ≡ record {
      conn = record { stage = 0; way = 0; pair = pair_of_lem local remote local_port remote_port; isn = isn; peer_isn = 0 };
      sent = isn;
      seen = 0;
      send_id = send_id;
      ask_id = (send_entry t (pair_of_lem local remote local_port remote_port) send_id).entry.ids.recv;
      accepted = 0;
      drops = zero_counts;
    }

-- by MD5: no IDs
abbrev pub OpensActivelyMd5 : Type 0
OpensActivelyMd5 = (t : Tables) (local remote : List ℕ) (local_port remote_port isn : ℕ)
    → (opened_actively_md5 t local remote local_port remote_port isn).answer ≡ D.Succeeded
    → (opened_actively_md5 t local remote local_port remote_port isn).state ≡ record {
      conn = record { stage = 0; way = 1; pair = pair_of_lem local remote local_port remote_port; isn = isn; peer_isn = 0 };
      sent = isn;
      seen = 0;
      send_id = 0;
      ask_id = 0;
      accepted = 0;
      drops = zero_counts;
    }

-- "A second call takes the same SYN and our ISN, judges it again and, only on accept, opens with the entry found, then applies the key
-- rule": the SYN's number is the peer's ISN. Ticket 9: a bare SYN goes "by the table that matches"
abbrev pub passively_opened : Tables → Arrival → ℕ → Ids → State
passively_opened t a isn ids =
    record {
      conn = record { stage = 1; way = 0; pair = arrival_pair_of a; isn = isn; peer_isn = sequence a.segment };
      sent = isn;
      seen = sequence a.segment;
      send_id = next_key_of t (arrival_pair_of a) (rnext_key_id a.segment) ids.send;
      ask_id = ids.recv;
      accepted = 0;
      drops = zero_counts;
    }

abbrev pub OpensPassively : Type 0
OpensPassively = (t : Tables) (a : Arrival) (isn : ℕ) (strict : Bool) (e : ℕ) → syn_is_md5 t (arrival_pair_of a) ≡ false
    → (opened_passively t a isn strict).verdict ≡ Accept e
    → (opened_passively t a isn strict).state ≡ passively_opened t a isn (recv_entry t (arrival_pair_of a) (key_id_of a.segment)).entry.ids

abbrev pub OpensPassivelyMd5 : Type 0
OpensPassivelyMd5 = (t : Tables) (a : Arrival) (isn : ℕ) (strict : Bool) (e : ℕ) → syn_is_md5 t (arrival_pair_of a) ≡ true
    → (opened_passively t a isn strict).verdict ≡ Accept e
    → (opened_passively t a isn strict).state ≡ record {
      conn = record { stage = 1; way = 1; pair = arrival_pair_of a; isn = isn; peer_isn = sequence a.segment };
      sent = isn;
      seen = sequence a.segment;
      send_id = 0;
      ask_id = 0;
      accepted = 0;
      drops = zero_counts;
    }

-- "An accepted SYN+ACK opens the connection; its sequence number is the peer's ISN"; "the segment that opens is not counted". The way
-- stays.
abbrev pub syn_ack_opened : State → Arrival → ℕ → State
syn_ack_opened q a send_id =
    record {
      conn = record { stage = 1; way = q.conn.way; pair = q.conn.pair; isn = q.conn.isn; peer_isn = sequence a.segment };
      sent = q.conn.isn;
      seen = sequence a.segment;
      send_id = send_id;
      ask_id = q.ask_id;
      accepted = 0;
      drops = zero_counts;
    }

abbrev pub SynAckOpens : Type 0
SynAckOpens = (t : Tables) (a : Arrival) (q : State) (e : ℕ) → is_open_of q.conn ≡ false → is_md5_of q.conn ≡ false
    → (judged t a q).verdict ≡ Accept e
    → (judged t a q).state ≡ syn_ack_opened q a (next_key_of t q.conn.pair (rnext_key_id a.segment) q.send_id)

-- on the MD5 way both IDs stay
abbrev pub SynAckOpensMd5 : Type 0
SynAckOpensMd5 = (t : Tables) (a : Arrival) (q : State) (e : ℕ) → is_open_of q.conn ≡ false → is_md5_of q.conn ≡ true
    → (judged t a q).verdict ≡ Accept e → (judged t a q).state ≡ syn_ack_opened q a q.send_id

-- Judging, once open.

-- an acceptance at the position x
abbrev pub seen_to : ℕ → Tables → ℕ → State → State
seen_to x t rnext q =
    record {
      conn = q.conn;
      sent = q.sent;
      seen = max q.seen x;
      send_id = next_key_of t q.conn.pair rnext q.send_id;
      ask_id = q.ask_id;
      accepted = count_up q.accepted;
      drops = q.drops;
    }

-- the counts stay below 2^64 by their type
abbrev pub AcceptedOpen : Type 0
AcceptedOpen = (t : Tables) (a : Arrival) (q : State) (e : ℕ) → is_open_of q.conn ≡ true → is_md5_of q.conn ≡ false
    → q.accepted < 18446744073709551616 → (judged t a q).verdict ≡ Accept e
    → (x : ℕ) × (position q.seen (sequence a.segment) ≡ Some x) × ((judged t a q).state ≡ seen_to x t (rnext_key_id a.segment) q)

-- Ticket 9, an MD5 acceptance: one more is counted, and nothing else moves
abbrev pub AcceptedOpenMd5 : Type 0
AcceptedOpenMd5 = (t : Tables) (a : Arrival) (q : State) (e : ℕ) → is_open_of q.conn ≡ true → is_md5_of q.conn ≡ true
    → q.accepted < 18446744073709551616 → (judged t a q).verdict ≡ Accept e
    → (judged t a q).state ≡ record {
      conn = q.conn;
      sent = q.sent;
      seen = q.seen;
      send_id = q.send_id;
      ask_id = q.ask_id;
      accepted = count_up q.accepted;
      drops = q.drops;
    }

-- "Nothing else moves it."

-- the state q with other counts of drops
abbrev pub dropped_to : List ℕ → State → State
dropped_to drops q =
    record {
      conn = q.conn;
      sent = q.sent;
      seen = q.seen;
      send_id = q.send_id;
      ask_id = q.ask_id;
      accepted = q.accepted;
      drops = drops;
    }

-- "drops 20 to 29 on an open connection add one to that number's count": the count of 20 + i is the one with the index i
abbrev pub DropCounted : Type 0
DropCounted = (t : Tables) (a : Arrival) (q : State) (i : ℕ) → is_open_of q.conn ≡ true → i < 10 → get_or q.drops i 0 < 18446744073709551616
    → (judged t a q).verdict ≡ Drop (20 + i)
    → (judged t a q).state ≡ dropped_to (set q.drops i (count_up (get_or q.drops i 0))) q

-- Behind these, Ticket 5: 40; Ticket 9: 46 and 47. The count of the number n is the one with the index i.
abbrev pub CountedAt : ℕ → ℕ → Type 0
CountedAt n i = (t : Tables) (a : Arrival) (q : State) → is_open_of q.conn ≡ true → get_or q.drops i 0 < 18446744073709551616
    → (judged t a q).verdict ≡ Drop n
    → (judged t a q).state ≡ dropped_to (set q.drops i (count_up (get_or q.drops i 0))) q

abbrev pub Drop40Counted : Type 0
Drop40Counted = CountedAt 40 10

abbrev pub Drop46Counted : Type 0
Drop46Counted = CountedAt 46 11

abbrev pub Drop47Counted : Type 0
Drop47Counted = CountedAt 47 12

-- "A refusal leaves outputs and state alike": a drop below 20, 44 and 45 (of those above 29 judging gives only 40 and 44 to 47:
-- RefusedAmong of GivenNumbers.antt), and every drop while opening
abbrev pub DropUncounted : Type 0
DropUncounted = (t : Tables) (a : Arrival) (q : State) (n : ℕ) → n < 20 → (judged t a q).verdict ≡ Drop n → (judged t a q).state ≡ q

-- Ticket 8: a prepared table that is refused
abbrev pub Drop44Uncounted : Type 0
Drop44Uncounted = (t : Tables) (a : Arrival) (q : State) → (judged t a q).verdict ≡ Drop 44 → (judged t a q).state ≡ q

-- Ticket 9: tables that both match some pair
abbrev pub Drop45Uncounted : Type 0
Drop45Uncounted = (t : Tables) (a : Arrival) (q : State) → (judged t a q).verdict ≡ Drop 45 → (judged t a q).state ≡ q

abbrev pub DropOpening : Type 0
DropOpening = (t : Tables) (a : Arrival) (q : State) (n : ℕ) → is_open_of q.conn ≡ false → (judged t a q).verdict ≡ Drop n
    → (judged t a q).state ≡ q

abbrev pub SigningRefused : Type 0
SigningRefused = (t : Tables) (s out : List ℕ) (q : State) (n : ℕ) → (signed t s out q).answer ≡ S.Refused n → (signed t s out q).state ≡ q

-- "An operator call sets the RecvID asked of the peer; nothing else does."
abbrev pub Asks : Type 0
Asks = (t : Tables) (id : ℕ) (q : State) → (asked t id q).answer ≡ D.Succeeded → (asked t id q).state ≡ record {
  conn = q.conn;
  sent = q.sent;
  seen = q.seen;
  send_id = q.send_id;
  ask_id = id;
  accepted = q.accepted;
  drops = q.drops;
}

abbrev pub AskingRefused : Type 0
AskingRefused = (t : Tables) (id : ℕ) (q : State) (n : ℕ) → (asked t id q).answer ≡ D.Refused n → (asked t id q).state ≡ q
