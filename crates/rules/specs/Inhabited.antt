-- The demands are not empty: one connection across a rollover, with three true arrivals, under entries of two kinds and through address
-- translation, and one of the other sort, of which demand 3 holds; a bare SYN that demand 2 accepts, by TCP-AO and by MD5; by MD5 also the
-- SYN+ACK that answers it, and a segment once open; tables that are prepared; and a bare SYN whose KeyID is unknown. As statements, with
-- the MAC and the digest shut: they are whatever they are. InhabitedLaws proves them.
use Rattle.std.specs.Prelude.{ℕ, ◌≡◌, true, false, List, [], ◌∷◌, ◌++◌, replicate, Ok}
use Rattle.wire.specs.Header.{syn}
use Rattle.keys.specs.declared.entry.Entry.{Entry}
use Rattle.keys.specs.declared.entry.Pair.{Pair}
use Rattle.keys.specs.Entry.{entry_of}
use Rattle.tables.specs.Tables.{Tables, no_index, tables_of, any_entry}
use Rattle.tables.specs.Preparing.{prepared_of}
use Rattle.rules.specs.declared.Verdict.TheVariants.{Accept, Pass, Drop}
use Rattle.rules.specs.declared.State.{State}
use Rattle.rules.specs.Connection.{Arrival, arrival_pair_of, is_open_of, is_md5_of, slots, opened, with_counted_of}
use Rattle.rules.specs.Calls.{judged, judged_syn, opened_passively, signed_segment}
use Rattle.rules.specs.Lent.{Lent, tables}
use Rattle.rules.specs.Ends.{Typed, Facing, FacingUnder, Delivered, SignedAt, Holds, HoldsMd5, TrueSegment, Verifies}
use Rattle.rules.specs.Demand2.{sent, rewritten}
use Rattle.rules.specs.Demand2Md5.{OtherEndMd5}
use Rattle.rules.specs.Demand3.{Within, Arriving, real, other, Given, Demand3}
use Rattle.rules.specs.Passes.{UnknownKey}
use Rattle.rules.specs.Prepared.{PreparedFrom}

-- an entry of kind 4 with its flags, for every IPv4 pair, HMAC-SHA-1, the key 01 02
abbrev pub entry4 : ℕ → ℕ → ℕ → List ℕ
entry4 flags send_id recv_id =
    (4 ∷ flags ∷ 1 ∷ send_id ∷ recv_id ∷ 0 ∷ 0 ∷ 255 ∷ 255 ∷ 0 ∷ 0 ∷ 255 ∷ 255 ∷ 0 ∷ 0 ∷ 0 ∷ 0 ∷ 0 ∷ 0 ∷ 0 ∷ 0 ∷ 0 ∷ 0 ∷ 2 ∷ 1 ∷ 2 ∷ [])
    ++ replicate 78 0

-- the same of kind 5, all options covered, with a MAC of five bytes
abbrev pub entry5 : ℕ → ℕ → List ℕ
entry5 send_id recv_id =
    (5 ∷ 1 ∷ 1 ∷ send_id ∷ recv_id ∷ 0 ∷ 0 ∷ 255 ∷ 255 ∷ 0 ∷ 0 ∷ 255 ∷ 255 ∷ 0 ∷ 0 ∷ 0 ∷ 0 ∷ 0 ∷ 0 ∷ 0 ∷ 0 ∷ 0 ∷ 0 ∷ 5 ∷ 2 ∷ 1 ∷ 2 ∷ [])
    ++ replicate 78 0

-- an entry of the MD5 table: of kind 4, for every IPv4 pair, the key 03 04; of kind 6, for every IPv6 pair, the key 05
abbrev pub md5_entry4 : List ℕ
md5_entry4 =
    (4 ∷ 0 ∷ 19 ∷ 0 ∷ 0 ∷ 0 ∷ 0 ∷ 255 ∷ 255 ∷ 0 ∷ 0 ∷ 255 ∷ 255 ∷ 0 ∷ 0 ∷ 0 ∷ 0 ∷ 0 ∷ 0 ∷ 0 ∷ 0 ∷ 0 ∷ 0 ∷ 2 ∷ 3 ∷ 4 ∷ [])
    ++ replicate 78 0

abbrev pub md5_entry6 : List ℕ
md5_entry6 = (6 ∷ 0 ∷ 19 ∷ 0 ∷ 0 ∷ 0 ∷ 0 ∷ 255 ∷ 255 ∷ 0 ∷ 0 ∷ 255 ∷ 255 ∷ []) ++ (replicate 34 0 ++ ((1 ∷ 5 ∷ []) ++ replicate 79 0))

-- our end's tables, and the other end's. The last key entry hides the other end's side from the MAC: our remote side (4), its local side
-- (2). The MD5 table beside them matches other pairs.
abbrev pub our_bytes : Lent
our_bytes = record { form = 0; keys = entry4 1 61 84 ++ (entry5 71 94 ++ entry4 5 51 74); md5 = md5_entry6 }

abbrev pub our_table : Tables
our_table = tables our_bytes

abbrev pub their_table : Lent
their_table = record { form = 0; keys = entry4 1 84 61 ++ (entry5 94 71 ++ entry4 3 74 51); md5 = md5_entry6 }

abbrev pub their_entry : Entry
their_entry = entry_of (entry4 1 84 61)

abbrev pub their_short : Entry
their_short = entry_of (entry5 94 71)

abbrev pub their_hidden : Entry
their_hidden = entry_of (entry4 3 74 51)

-- 10.11.12.13, port 59863, and 172.27.28.29, port 179: the pair as we hold it, and as the other end does
abbrev pub our_pair : Pair
our_pair =
    record {
      family = 4;
      local_port = 59863;
      remote_port = 179;
      local = (10 ∷ 11 ∷ 12 ∷ 13 ∷ []) ++ replicate 12 0;
      remote = (172 ∷ 27 ∷ 28 ∷ 29 ∷ []) ++ replicate 12 0;
    }

abbrev pub their_pair : Pair
their_pair =
    record {
      family = 4;
      local_port = 179;
      remote_port = 59863;
      local = (172 ∷ 27 ∷ 28 ∷ 29 ∷ []) ++ replicate 12 0;
      remote = (10 ∷ 11 ∷ 12 ∷ 13 ∷ []) ++ replicate 12 0;
    }

-- the other end behind address translation: it has 192.168.1.2, port 50179, and we see it as before
abbrev pub hidden_pair : Pair
hidden_pair =
    record {
      family = 4;
      local_port = 50179;
      remote_port = 59863;
      local = (192 ∷ 168 ∷ 1 ∷ 2 ∷ []) ++ replicate 12 0;
      remote = (10 ∷ 11 ∷ 12 ∷ 13 ∷ []) ++ replicate 12 0;
    }

-- bytes as they come to us from the other end
abbrev pub from_them : List ℕ → Arrival
from_them bytes = record { source = 172 ∷ 27 ∷ 28 ∷ 29 ∷ []; destination = 10 ∷ 11 ∷ 12 ∷ 13 ∷ []; segment = bytes }

-- Demand 3. Both ends are open, and the other end is about to pass a rollover.

abbrev pub our_state : State
our_state =
    record {
      conn = record { stage = 1; way = 0; pair = our_pair; isn = 100; peer_isn = 4294967280 };
      sent = 100;
      seen = 4294967280;
      send_id = 61;
      ask_id = 84;
      accepted = 0;
      drops = replicate slots 0;
    }

-- the other end, which holds a pair, under the entry with its SendID and asking for a RecvID
abbrev pub theirs : Pair → ℕ → ℕ → State
theirs pair send_id recv_id =
    record {
      conn = record { stage = 1; way = 0; pair = pair; isn = 4294967280; peer_isn = 100 };
      sent = 4294967280;
      seen = 100;
      send_id = send_id;
      ask_id = recv_id;
      accepted = 0;
      drops = replicate slots 0;
    }

-- from a port of two bytes; sequence number 16, ACK, four options of kind 1, three bytes of data: 2^32 + 16 is its position
abbrev pub segment_from : ℕ → ℕ → List ℕ
segment_from high low =
    high ∷ low ∷ 233 ∷ 215 ∷ 0 ∷ 0 ∷ 0 ∷ 16 ∷ 1 ∷ 2 ∷ 3 ∷ 4 ∷ 96 ∷ 16 ∷ 128 ∷ 0 ∷ 140 ∷ 119 ∷ 0 ∷ 0
    ∷ 1 ∷ 1 ∷ 1 ∷ 1 ∷ 97 ∷ 98 ∷ 99 ∷ []

abbrev pub segment : List ℕ
segment = segment_from 0 179

abbrev pub signed_bytes : List ℕ
signed_bytes = signed_segment their_entry (theirs their_pair 84 61) 4294967312 segment

-- with a MAC of five bytes
abbrev pub short_bytes : List ℕ
short_bytes = signed_segment their_short (theirs their_pair 94 71) 4294967312 segment

-- from behind the translation, signed with its own port between its own addresses, rewritten on the way
abbrev pub hidden_segment : List ℕ
hidden_segment = segment_from 196 3

abbrev pub hidden_bytes : List ℕ
hidden_bytes = signed_segment their_hidden (theirs hidden_pair 74 51) 4294967312 hidden_segment

-- it arrives signed, under each entry, and once more without TCP-AO; then the demand holds of all four arrivals
pub record Arrivals : Type 0 where
  pub true-arrival : TrueSegment our_table our_state.conn (from_them signed_bytes) 4294967312 61
  pub short-arrival : TrueSegment our_table our_state.conn (from_them short_bytes) 4294967312 71
  pub hidden-arrival : TrueSegment our_table our_state.conn (rewritten our_pair hidden_bytes) 4294967312 51
  pub other-arrival : Verifies our_table our_state.conn (from_them segment) → ⊥

abbrev pub all : Arrivals → List (Arriving our_table our_state.conn)
all a =
    real (from_them signed_bytes) 4294967312 61 a.true-arrival
    ∷ (real (from_them short_bytes) 4294967312 71 a.short-arrival
    ∷ (real (rewritten our_pair hidden_bytes) 4294967312 51 a.hidden-arrival
    ∷ (other (from_them segment) a.other-arrival ∷ [])))

pub record Demand3NotEmpty : Type 0 where
  pub arrivals : Arrivals
  pub given : Given our_table our_state (all arrivals)
  pub demand : Demand3 our_table our_state (all arrivals)

-- Demand 2, of a bare SYN. The other end opens, by a way and with its IDs.

abbrev pub opener_by : ℕ → ℕ → ℕ → State
opener_by way send_id recv_id =
    record {
      conn = record { stage = 0; way = way; pair = their_pair; isn = 4294967280; peer_isn = 0 };
      sent = 4294967280;
      seen = 0;
      send_id = send_id;
      ask_id = recv_id;
      accepted = 0;
      drops = replicate slots 0;
    }

abbrev pub opener : State
opener = opener_by 0 84 61

abbrev pub syn_segment : List ℕ
syn_segment = 0 ∷ 179 ∷ 233 ∷ 215 ∷ 255 ∷ 255 ∷ 255 ∷ 240 ∷ 0 ∷ 0 ∷ 0 ∷ 0 ∷ 80 ∷ 2 ∷ 128 ∷ 0 ∷ 0 ∷ 0 ∷ 0 ∷ 0 ∷ []

abbrev pub syn_bytes : List ℕ
syn_bytes = signed_segment their_entry opener 4294967280 syn_segment

-- what demand 2 is given, and what it then gives
pub record BareSynNotEmpty : Type 0 where
  pub typed : Typed opener
  pub opening : is_open_of opener.conn ≡ false
  pub signed : SignedAt opener their_entry 4294967280 syn_bytes
  pub facing : FacingUnder their_entry.secret (arrival_pair_of (from_them syn_bytes)) opener.conn.pair
  pub delivered : Delivered (arrival_pair_of (from_them syn_bytes)) syn_bytes (from_them syn_bytes)
  pub holds : Holds our_table (arrival_pair_of (from_them syn_bytes)) opener.conn.pair their_entry
  pub accepted : judged_syn our_table (from_them syn_bytes) true ≡ record { verdict = Accept 0; index = no_index }

-- The same by MD5: both ends have an MD5 table, the key table beside it is empty.

abbrev pub md5_table : Lent
md5_table = record { form = 0; keys = []; md5 = md5_entry4 }

abbrev pub md5_opener : State
md5_opener = opener_by 1 0 0

abbrev pub syn_bytes_md5 : List ℕ
syn_bytes_md5 = signed_segment (entry_of md5_entry4) md5_opener 4294967280 syn_segment

pub record BareSynMd5NotEmpty : Type 0 where
  pub typed : Typed md5_opener
  pub way : is_md5_of md5_opener.conn ≡ true
  pub opening : is_open_of md5_opener.conn ≡ false
  pub signed : SignedAt md5_opener (entry_of md5_entry4) 4294967280 syn_bytes_md5
  pub facing : Facing (arrival_pair_of (from_them syn_bytes_md5)) md5_opener.conn.pair
  pub delivered : Delivered (arrival_pair_of (from_them syn_bytes_md5)) syn_bytes_md5 (from_them syn_bytes_md5)
  pub holds : HoldsMd5 (tables md5_table) (arrival_pair_of (from_them syn_bytes_md5)) md5_opener.conn.pair (entry_of md5_entry4)
  pub accepted : judged_syn (tables md5_table) (from_them syn_bytes_md5) true ≡ record { verdict = Accept 0; index = no_index }

-- We opened passively on that SYN with the ISN 100, and answer it: what SynAckMd5 and OpenedTogetherMd5 are given, and what the second
-- gives.

abbrev pub md5_passive : State
md5_passive = opened 1 our_pair 100 4294967280 0 0

abbrev pub syn_ack_segment : List ℕ
syn_ack_segment = 233 ∷ 215 ∷ 0 ∷ 179 ∷ 0 ∷ 0 ∷ 0 ∷ 100 ∷ 255 ∷ 255 ∷ 255 ∷ 241 ∷ 80 ∷ 18 ∷ 128 ∷ 0 ∷ 0 ∷ 0 ∷ 0 ∷ 0 ∷ []

abbrev pub syn_ack_bytes : List ℕ
syn_ack_bytes = signed_segment (entry_of md5_entry4) md5_passive 100 syn_ack_segment

pub record OpenedMd5NotEmpty : Type 0 where
  pub conn : md5_passive.conn ≡ (opened_passively (tables md5_table) (from_them syn_bytes_md5) 100 true).state.conn
  pub typed : Typed md5_passive
  pub signed : SignedAt md5_passive (entry_of md5_entry4) 100 syn_ack_bytes
  pub its-syn : syn signed.unsigned ≡ true
  pub facing : Facing their_pair our_pair
  pub delivered : Delivered their_pair syn_ack_bytes (sent md5_passive syn_ack_bytes)
  pub holds : HoldsMd5 (tables md5_table) their_pair our_pair (entry_of md5_entry4)
  pub together : OtherEndMd5 (judged (tables md5_table) (sent md5_passive syn_ack_bytes) md5_opener).state md5_passive

-- Once open, the number 16 comes, more than 2^31 from the references of both ends: "MD5 asks no reference".

abbrev pub md5_theirs : State
md5_theirs = opened 1 their_pair 4294967280 100 0 0

abbrev pub open_bytes_md5 : List ℕ
open_bytes_md5 = signed_segment (entry_of md5_entry4) md5_theirs 16 segment

pub record OpenMd5NotEmpty : Type 0 where
  pub far-there : Within md5_theirs.sent 16 → ⊥
  pub far-here : Within md5_passive.seen 16 → ⊥
  pub typed : Typed md5_theirs
  pub facing : Facing our_pair their_pair
  pub signed : SignedAt md5_theirs (entry_of md5_entry4) 16 open_bytes_md5
  pub delivered : Delivered our_pair open_bytes_md5 (from_them open_bytes_md5)
  pub holds : HoldsMd5 (tables md5_table) our_pair their_pair (entry_of md5_entry4)
  pub accepted : judged (tables md5_table) (from_them open_bytes_md5) md5_passive
      ≡ record { verdict = Accept 0; index = no_index; state = with_counted_of md5_passive }

-- Ticket 8: our tables, prepared. They are taken, with three key entries, and by what Prepared.antt says they give what the bytes give.

abbrev pub our_prepared : Lent
our_prepared = record { form = 1; keys = prepared_of our_bytes.keys our_bytes.md5; md5 = [] }

pub record PreparedNotEmpty : Type 0 where
  pub from : PreparedFrom our_bytes our_prepared
  pub taken : (tables our_prepared).answer ≡ Ok 3

-- A bare SYN with the KeyID 85, where our entries have the RecvIDs 84, 94 and 74.

abbrev pub unknown_syn : Arrival
unknown_syn =
    from_them
    ((0 ∷ 179 ∷ 233 ∷ 215 ∷ 255 ∷ 255 ∷ 255 ∷ 240 ∷ 0 ∷ 0 ∷ 0 ∷ 0 ∷ 144 ∷ 2 ∷ 128 ∷ 0 ∷ 180 ∷ 184 ∷ 0 ∷ 0 ∷ 29 ∷ 16 ∷ 85 ∷ 61 ∷ [])
    ++ replicate 12 0)

-- our entries match the pair: 26, though the setting says pass. With empty tables the setting decides.
abbrev pub no_table : Tables
no_table = tables_of 0 [] []

pub record UnknownKeyNotEmpty : Type 0 where
  pub with-entry : UnknownKey our_table unknown_syn
  pub matches : any_entry our_table (arrival_pair_of unknown_syn) ≡ true
  pub dropped : (judged_syn our_table unknown_syn false).verdict ≡ Drop 26
  pub without : UnknownKey no_table unknown_syn
  pub none : any_entry no_table (arrival_pair_of unknown_syn) ≡ false
  pub passed : (judged_syn no_table unknown_syn false).verdict ≡ Pass
