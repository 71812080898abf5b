-- The two ends of a connection, in document 01's words: the last section ("a true segment was signed at the other end ..", "an arrival
-- verifies if ..", "a key is available if ..") and "Positions".
use Rattle.std.specs.Prelude.{ℕ, ◌^◌, ◌<◌, ◌≡◌, true, false, List, ◌∷◌, ◌++◌, length, take, drop, Ok, Some}
use Rattle.octets.specs.Octets.{bytes16}
use Rattle.octets.specs.Each.{Octets}
use Rattle.wire.specs.Header.{source_port_of, destination_port_of, sequence, well_sized_of}
use Rattle.keys.specs.declared.entry.Pair.{Pair}
use Rattle.keys.specs.declared.entry.Entry.{Entry}
use Rattle.keys.specs.declared.entry.Secret.{Secret}
use Rattle.keys.specs.Entry.{is_family_of, local_hidden_of, remote_hidden, key_of}
use Rattle.keys.specs.Places.{At as EntryAt}
use Rattle.keys.specs.Match.{matches}
use Rattle.keys.specs.Mirror.{Mirror}
use Rattle.tables.specs.Tables.{Tables, recv_entry}
use Rattle.tables.specs.Valid.{Apart, ValidTables}
use Rattle.rules.specs.declared.Connection.{Connection}
use Rattle.rules.specs.declared.State.{State}
use Rattle.rules.specs.Signing as S
use Rattle.rules.specs.Mac.{arriving_hidden_of, segment_mac}
use Rattle.rules.specs.Checksum.{sums_right}
use Rattle.rules.specs.Segment.{malformed, ao, md5, ao_at, key_id_of, mac_in, is_bare_syn_of}
use Rattle.rules.specs.Connection.{Arrival, local_address, remote_address, is_open_of, arriving, place_on_lem, slots}
use Rattle.rules.specs.Calls.{outgoing, signed, output}
use Rattle.rules.specs.Lent.{Lent, tables}

-- What a value of a Rattle type is known to be, where it matters: references are below 2 ^ 64, ISNs below 2 ^ 32, arrays full.
pub record Typed (q : State) : Type 0 where
  pub sent : q.sent < 2 ^ 64
  pub seen : q.seen < 2 ^ 64
  pub isn : q.conn.isn < 2 ^ 32
  pub peer : q.conn.peer_isn < 2 ^ 32
  pub local : length q.conn.pair.local ≡ 16
  pub remote : length q.conn.pair.remote ≡ 16
  pub counts : length q.drops ≡ slots

-- a state that 18 allows
abbrev pub Allowed : Connection → Type 0
Allowed l = is_family_of l.pair.family ≡ true

-- one socket pair as its two ends hold it
pub record Facing (p q : Pair) : Type 0 where
  pub family : p.family ≡ q.family
  pub local : local_address p ≡ remote_address q
  pub remote : remote_address p ≡ local_address q
  pub local-port : p.local_port ≡ q.remote_port
  pub remote-port : p.remote_port ≡ q.local_port

-- The same where q's end signs under s. Document 02, Ticket 10: "only on a side whose bit is set in the entry signed under, the port and
-- the address (within its family) rewritten on the way". The signer's local side is p's remote one.
pub record FacingUnder (s : Secret) (p q : Pair) : Type 0 where
  pub family : p.family ≡ q.family
  pub local : remote_hidden s ≡ false → local_address p ≡ remote_address q
  pub remote : local_hidden_of s ≡ false → remote_address p ≡ local_address q
  pub local-port : remote_hidden s ≡ false → p.local_port ≡ q.remote_port
  pub remote-port : local_hidden_of s ≡ false → p.remote_port ≡ q.local_port

-- both open on one connection, where m's end signs under s: "our pair as seen from there, the same ISNs"
pub record OtherEnd (s : Secret) (l m : Connection) : Type 0 where
  pub here : is_open_of l ≡ true
  pub there : is_open_of m ≡ true
  pub pair : FacingUnder s l.pair m.pair
  pub isn : l.isn ≡ m.peer_isn
  pub peer : l.peer_isn ≡ m.isn

-- signed bytes with another checksum; with other ports
abbrev pub rechecked : ℕ → ℕ → List ℕ → List ℕ
rechecked c d s = take 16 s ++ (c ∷ d ∷ drop 18 s)

abbrev pub with_ports : ℕ → ℕ → List ℕ → List ℕ
with_ports source destination s = bytes16 source ++ (bytes16 destination ++ drop 4 s)

-- bytes that come to the end that holds the pair p, "as signed, except perhaps for the checksum"; Ticket 5: "True segments in demand 3 pass
-- this test", so it is a right one. Ticket 10: port and address may be "rewritten on the way, so that the segment comes under the pair that
-- the receiver holds, its checksum set right". On which side they may, FacingUnder says.
pub record Delivered (p : Pair) (bytes : List ℕ) (a : Arrival) : Type 0 where
  pub source : a.source ≡ remote_address p
  pub destination : a.destination ≡ local_address p
  pub source-port : source_port_of a.segment ≡ p.remote_port
  pub destination-port : destination_port_of a.segment ≡ p.local_port
  -- the two bytes of the checksum, any numbers
  pub high : ℕ
  pub low : ℕ
  pub segment : a.segment ≡ rechecked high low (with_ports p.remote_port p.local_port bytes)
  pub right : sums_right a.source a.destination a.segment ≡ true

-- bytes that the signing call wrote, given the state q and some tables, segment and output, under the entry e: "A signed segment's true
-- position is the X it was signed by."
pub record SignedAt (q : State) (e : Entry) (x : ℕ) (bytes : List ℕ) : Type 0 where
  pub lent : Lent
  pub unsigned : List ℕ
  pub out : List ℕ
  pub octets : Octets unsigned
  pub answer : (signed (tables lent) unsigned out q).answer ≡ S.Signed (length bytes)
  pub wrote : bytes ≡ take (length bytes) (output (tables lent) unsigned out q)
  pub under : (outgoing (tables lent) q).entry ≡ e
  pub position : place_on_lem q.conn q.sent (sequence unsigned) ≡ Some x

-- Of bytes, valid is what is not refused: so of tables lent as bytes the demands ask no more than their answer.
abbrev pub LentValid : Type 0
LentValid = (b : Lent) (n : ℕ) → b.form ≡ 0 → (tables b).answer ≡ Ok n → ValidTables (tables b)

-- Ticket 8: "The clash is not tested again; .. demands 2 and 3 .. take neither a clashing table nor one refused with 44." So of either form
-- they ask the answer, and that neither 17 nor 45 would apply.
abbrev pub LentApart : Type 0
LentApart = (b : Lent) (n : ℕ) → (tables b).answer ≡ Ok n → Apart (tables b) → ValidTables (tables b)

-- "it holds the mirrored key in a valid table": of the other end's entry e, on the connection whose pair this end holds as p and that end
-- as q. Ticket 9: "the MD5 table given beside the key table is not refused (10 to 17, 45)"
pub record Holds (t : Tables) (p q : Pair) (e : Entry) : Type 0 where
  pub valid : ValidTables t
  pub ours : Entry
  pub place : ℕ
  pub among : EntryAt t.keys place ours
  pub mirror : Mirror p q ours e

-- MD5 entries that mirror each other: "each matches the pair as its own end holds it", and the keys agree
pub record Md5Mirror (p q : Pair) (e f : Entry) : Type 0 where
  pub here : matches e.selector p ≡ true
  pub there : matches f.selector q ≡ true
  pub key : key_of e.secret ≡ key_of f.secret

-- the same of an MD5 entry
pub record HoldsMd5 (t : Tables) (p q : Pair) (e : Entry) : Type 0 where
  pub valid : ValidTables t
  pub ours : Entry
  pub place : ℕ
  pub among : EntryAt t.md5s place ours
  pub mirror : Md5Mirror p q ours e

-- "A true segment was signed at the other end, in a state open on this connection .., under a mirror of one of the table's entries; it
-- arrives with our state's pair and as signed, except perhaps for its checksum."; Ticket 10: "Demand 3's true segments come so too",
-- rewritten on a side whose bit is set. Its position is x, and it asks for the key r. That it was signed by TCP-AO follows: in valid tables
-- a key entry's algorithm is no MD5 entry's.
pub record TrueSegment (t : Tables) (l : Connection) (a : Arrival) (x r : ℕ) : Type 0 where
  pub peer : State
  pub typed : Typed peer
  pub ours : Entry
  pub theirs : Entry
  pub place : ℕ
  pub among : EntryAt t.keys place ours
  pub mirror : Mirror l.pair peer.conn.pair ours theirs
  pub other : OtherEnd theirs.secret l peer.conn
  pub bytes : List ℕ
  pub signed : SignedAt peer theirs x bytes
  pub delivered : Delivered l.pair bytes a
  pub asks : peer.ask_id ≡ r

-- what these rules give for a segment that arrives, under an extension, our ISNs and a secret
abbrev pub mac_under : Secret → Connection → ℕ → List ℕ → List ℕ
mac_under s l extension segment = segment_mac s (arriving_hidden_of s) (arriving l segment) extension (ao_at segment) segment

-- "An arrival verifies if it is no bare SYN, comes with our state's pair, and its MAC bytes are, for some extension, what these rules
-- give under our ISNs and the entry for its KeyID." It has MAC bytes only if none of 20, 21, 22 applies and TCP-AO is there. Ticket 5: "an
-- arrival that fails" the test of 40 "verifies under no key".
pub record Verifies (t : Tables) (l : Connection) (a : Arrival) : Type 0 where
  pub sized : well_sized_of a.segment ≡ true
  pub summed : sums_right a.source a.destination a.segment ≡ true
  pub formed : malformed a.segment ≡ false
  pub one : (ao a.segment).count ≡ 1
  pub no-md5 : (md5 a.segment).count ≡ 0
  pub no-bare-syn : is_bare_syn_of a.segment ≡ false
  pub source : a.source ≡ remote_address l.pair
  pub destination : a.destination ≡ local_address l.pair
  pub source-port : source_port_of a.segment ≡ l.pair.remote_port
  pub destination-port : destination_port_of a.segment ≡ l.pair.local_port
  pub entry : (recv_entry t l.pair (key_id_of a.segment)).there ≡ true
  pub extension : ℕ
  pub mac : mac_in a.segment ≡ mac_under (recv_entry t l.pair (key_id_of a.segment)).entry.secret l extension a.segment
