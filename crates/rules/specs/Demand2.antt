-- Demand 2, as statements: "What one end signs, the other end of that connection accepts intact if it holds the mirrored key in a valid
-- table, stands at the stage for such a segment and, once open, has a reference less than 2^31 from the true 64-bit position."
-- First what may arrive: the signed bytes themselves, with their right checksum, and, document 02, Ticket 10, the same "with, only on a
-- side whose bit is set in the entry signed under, the port and the address (within its family) rewritten on the way, so that the segment
-- comes under the pair that the receiver holds, its checksum set right". Then one statement for each way that a segment can go, about what
-- the calls return; then the three steps of an opening. Ticket 9: "an end that is open or opening was opened the way the segment is
-- signed": here by TCP-AO; Demand2Md5.antt has the MD5 way. Demand2Laws proves them.
use Rattle.std.specs.Prelude.{ℕ, ◌^◌, ◌<◌, ◌≡◌, Bool, true, false, List}
use Rattle.wire.specs.Header.{syn}
use Rattle.keys.specs.declared.entry.Entry.{Entry}
use Rattle.keys.specs.declared.entry.Pair.{Pair}
use Rattle.keys.specs.declared.entry.Secret.{Secret}
use Rattle.keys.specs.Mirror.{Mirror}
use Rattle.tables.specs.Tables.{Tables, no_index}
use Rattle.rules.specs.declared.Verdict.TheVariants.{Accept}
use Rattle.rules.specs.declared.State.{State}
use Rattle.rules.specs.Connection.{Arrival, local_address, remote_address, arrival_pair_of, is_open_of, is_md5_of, extension_of_lem}
use Rattle.rules.specs.Connection.{next_key_of, ao_way, opened, with_accepted_of}
use Rattle.rules.specs.Checksum.{sums_right, with_checksum_of}
use Rattle.rules.specs.Calls.{judged, judged_syn, opened_passively}
use Rattle.rules.specs.Ends.{Typed, Allowed, Facing, FacingUnder, OtherEnd, with_ports, Delivered, SignedAt, Holds}
use Rattle.rules.specs.Demand3.{Within}

-- Ticket 5: "The signer now writes the right TCP checksum over the pseudo-header", between the state's own addresses
abbrev pub SignedRight : Type 0
SignedRight = (q : State) (e : Entry) (x : ℕ) (b : List ℕ) → Typed q → SignedAt q e x b
    → sums_right (local_address q.conn.pair) (remote_address q.conn.pair) b ≡ true

-- The very bytes that were written, from the sender's address to the address of its peer: where both ends hold one pair they come to the
-- other end, and without a state there it holds the arrival's pair.
abbrev pub sent : State → List ℕ → Arrival
sent q b = record { source = local_address q.conn.pair; destination = remote_address q.conn.pair; segment = b }

abbrev pub SentComes : Type 0
SentComes = (q : State) (e : Entry) (x : ℕ) (b : List ℕ) → Typed q → SignedAt q e x b → (p : Pair) → Facing p q.conn.pair
    → Delivered p b (sent q b)

abbrev pub SentFaces : Type 0
SentFaces = (q : State) (e : Entry) (x : ℕ) (b : List ℕ) → Typed q → SignedAt q e x b → Facing (arrival_pair_of (sent q b)) q.conn.pair

-- one pair is one whatever the entry hides
abbrev pub FacesUnder : Type 0
FacesUnder = (s : Secret) (p q : Pair) → Facing p q → FacingUnder s p q

-- The same bytes rewritten to come under any pair, the checksum set right between its addresses.
abbrev pub rewritten : Pair → List ℕ → Arrival
rewritten p b =
    record {
      source = remote_address p;
      destination = local_address p;
      segment = with_checksum_of (remote_address p) (local_address p) (with_ports p.remote_port p.local_port b);
    }

abbrev pub RewrittenComes : Type 0
RewrittenComes = (q : State) (e : Entry) (x : ℕ) (b : List ℕ) → SignedAt q e x b → (p : State) → Typed p
    → p.conn.pair.local_port < 2 ^ 16 → p.conn.pair.remote_port < 2 ^ 16
    → Delivered p.conn.pair b (rewritten p.conn.pair b)

-- Entries that mirror each other hide the same sides: what may be rewritten one way may be the other way.
abbrev pub FacesBack : Type 0
FacesBack = (p q : Pair) (ours theirs : Entry) → Mirror p q ours theirs → FacingUnder theirs.secret p q
    → FacingUnder ours.secret q p

-- Once open: accepted with the sender's extension. The reference becomes the larger, the key rule applies, and one acceptance more is
-- counted.
abbrev pub OpenSegment : Type 0
OpenSegment = (q : State) (e : Entry) (x : ℕ) (b : List ℕ) (a : Arrival) (t : Tables) (p : State)
    → Typed q → Typed p → Allowed p.conn → is_md5_of q.conn ≡ false → is_md5_of p.conn ≡ false
    → OtherEnd e.secret p.conn q.conn
    → SignedAt q e x b → Delivered p.conn.pair b a → Holds t p.conn.pair q.conn.pair e → Within p.seen x
    → judged t a p ≡ record {
      verdict = Accept (extension_of_lem x);
      index = no_index;
      state = with_accepted_of x (next_key_of t p.conn.pair q.ask_id p.send_id) p;
    }

-- The SYN+ACK of an open end: it opens the end that is opening, whatever else that state holds, with extension 0; "Opening sets each
-- reference to that side's ISN", the counts are 0, and the key rule applies.
abbrev pub SynAck : Type 0
SynAck = (q : State) (e : Entry) (x : ℕ) (b : List ℕ) (a : Arrival) (t : Tables) (p : State) → Typed q → Typed p → Allowed p.conn
    → is_md5_of q.conn ≡ false → is_md5_of p.conn ≡ false
    → is_open_of q.conn ≡ true → is_open_of p.conn ≡ false → FacingUnder e.secret p.conn.pair q.conn.pair
    → p.conn.isn ≡ q.conn.peer_isn
    → (g : SignedAt q e x b) → syn g.unsigned ≡ true → Delivered p.conn.pair b a → Holds t p.conn.pair q.conn.pair e
    → judged t a p ≡ record {
      verdict = Accept 0;
      index = no_index;
      state =
          opened p.conn.way p.conn.pair p.conn.isn q.conn.isn (next_key_of t p.conn.pair q.ask_id p.send_id)
          p.ask_id;
    }

-- The bare SYN of an opening end: accepted with extension 0 by the call without a state, which goes by the arrival's pair,
abbrev pub BareSyn : Type 0
BareSyn = (q : State) (e : Entry) (x : ℕ) (b : List ℕ) (a : Arrival) (t : Tables) → Typed q → is_md5_of q.conn ≡ false
    → is_open_of q.conn ≡ false → FacingUnder e.secret (arrival_pair_of a) q.conn.pair
    → SignedAt q e x b → Delivered (arrival_pair_of a) b a
    → Holds t (arrival_pair_of a) q.conn.pair e → (strict : Bool)
    → judged_syn t a strict ≡ record { verdict = Accept 0; index = no_index }

-- and by the passive opening, which opens with the entry found.
abbrev pub BareSynOpens : Type 0
BareSynOpens = (q : State) (e : Entry) (x : ℕ) (b : List ℕ) (a : Arrival) (t : Tables) → Typed q → is_md5_of q.conn ≡ false
    → is_open_of q.conn ≡ false → FacingUnder e.secret (arrival_pair_of a) q.conn.pair
    → SignedAt q e x b → Delivered (arrival_pair_of a) b a
    → (h : Holds t (arrival_pair_of a) q.conn.pair e) → (strict : Bool) (isn : ℕ)
    → opened_passively t a isn strict ≡ record {
      verdict = Accept 0;
      index = no_index;
      state =
          opened ao_way (arrival_pair_of a) isn q.conn.isn (next_key_of t (arrival_pair_of a) q.ask_id h.ours.ids.send)
          h.ours.ids.recv;
    }

-- The three steps of an opening: one end signs a bare SYN while opening, the other opens passively on it and signs a SYN+ACK, and the
-- first end judges that. Between these the calls of each end may change anything but what its connection is. Then both are open on one
-- connection, each the other's other end: for the entry of the SYN+ACK, and for that of the SYN.
abbrev pub OpenedTogether : Type 0
OpenedTogether = (active : State) (e : Entry) (x : ℕ) (b : List ℕ) (a : Arrival) (t : Tables) → Typed active
    → is_md5_of active.conn ≡ false → is_open_of active.conn ≡ false
    → FacingUnder e.secret (arrival_pair_of a) active.conn.pair → SignedAt active e x b → Delivered (arrival_pair_of a) b a
    → Holds t (arrival_pair_of a) active.conn.pair e → (strict : Bool) (isn : ℕ)
    → (passive : State) (f : Entry) (y : ℕ) (c : List ℕ) (r : Arrival) (u : Tables) (now : State) → Typed passive → Typed now
    → passive.conn ≡ (opened_passively t a isn strict).state.conn → now.conn ≡ active.conn
    → FacingUnder f.secret now.conn.pair passive.conn.pair
    → (k : SignedAt passive f y c) → syn k.unsigned ≡ true → Delivered now.conn.pair c r
    → Holds u now.conn.pair passive.conn.pair f
    → OtherEnd f.secret (judged u r now).state.conn passive.conn
    × OtherEnd e.secret passive.conn (judged u r now).state.conn
