-- What a recording means: document 02, Ticket 1, "Desk check of a recorded line", with document 01's numbers. A recording is any list of
-- bytes. It is read byte by byte, so that where it is cut into pieces says nothing.
use Rattle.std.specs.Prelude.{ℕ, ◌+◌, ◌%◌, ◌^◌, Bool, cond, not, ◌&&◌, ◌||◌, List, [], ◌∷◌, ◌++◌, length, take, drop, ◌==◌, nat_le, nat_lt}
use Rattle.std.specs.Prelude.{slice_index}
use Rattle.octets.specs.Octets.{get16, get32}
use Rattle.octets.specs.Tests.{Test, test, first}
use Rattle.keys.specs.declared.entry.Pair.{Pair}
use Rattle.keys.specs.Entry.{is_family_of}
use Rattle.keys.specs.Table.{loaded}
use Rattle.keys.specs.declared.table.TableKind.TheVariants.{Keys}
use Rattle.tables.specs.Tables.{Admitted}
use Rattle.std.specs.Prelude.{Result, Ok, Err}
use Rattle.tables.specs.declared.Refusal.{Refusal}
use Rattle.tables.specs.Tables.{Tables, key_index, after_table, tables_of, send_entry, recv_entry}
use Rattle.rules.specs.declared.Outcome.{Outcome}
use Rattle.rules.specs.declared.Outcome.TheVariants.{Good, Passed, Bad}
use Rattle.rules.specs.declared.State.{State}
use Rattle.rules.specs.declared.Judged.{Judged}
use Rattle.rules.specs.Connection.{Arrival, arrival_of, local_address, remote_address, ao_way, opened, empty}
use Rattle.rules.specs.Calls.{refuse, is_refused, refusal, unrefused, judged}
use Rattle.recording.specs.declared.line.Line.{Line}
use Rattle.recording.specs.declared.line.Line.TheVariants.{Fault, Refused}
use Rattle.recording.specs.Lines.{verdict_line_of, line_text}

-- Records: one byte of kind, then a body whose length the kind fixes.

abbrev pub kind_of : List ℕ → ℕ
kind_of r = slice_index r 0

-- "a fixed 130-byte body", "a fixed body that you document" (47 bytes), "a fixed 1,600-byte body", each behind its kind
unfoldable pub record_bytes_of : ℕ → ℕ
record_bytes_of k = cond (k == 1) 131 (cond (k == 2) 48 1601)

-- kind 1: "a table entry's length and bytes"
abbrev pub entry_length : List ℕ → ℕ
entry_length r = slice_index r 1

abbrev pub entry_bytes : List ℕ → List ℕ
entry_bytes r = take (entry_length r) (drop 2 r)

-- kind 2: "the connection just after opening (pair, both ISNs, outgoing SendID, asked RecvID ..)". Just after opening the references are
-- the ISNs and the counts 0.
abbrev pub open_pair_of : List ℕ → Pair
open_pair_of r =
    record {
      family = slice_index r 1;
      local_port = get16 r 4;
      remote_port = get16 r 6;
      local = take 16 (drop 16 r);
      remote = take 16 (drop 32 r);
    }

abbrev pub send_id_of : List ℕ → ℕ
send_id_of r = slice_index r 2

abbrev pub ask_id_of : List ℕ → ℕ
ask_id_of r = slice_index r 3

abbrev pub open_state_of : List ℕ → State
open_state_of r = opened ao_way (open_pair_of r) (get32 r 8) (get32 r 12) (send_id_of r) (ask_id_of r)

-- kind 3: "an arriving segment of it .., two bytes of used length, big-endian, first"
abbrev pub used_length : List ℕ → ℕ
used_length r = get16 r 1

abbrev pub segment_bytes : List ℕ → List ℕ
segment_bytes r = take (used_length r) (drop 3 r)

-- The desk: how far the recording has been read. Stage 0 is before the opening, 1 behind it; any other is stopped. `held` is the record
-- that is begun, `records` and `segments` count the whole ones, and `printed` is all that has been printed.
pub record Desk : Type 0 where
  pub stage : ℕ
  pub table : List ℕ
  pub held : List ℕ
  pub records : ℕ
  pub segments : ℕ
  pub state : State
  pub printed : List ℕ

abbrev pub start : Desk
start = record { stage = 0; table = []; held = []; records = 0; segments = 0; state = empty; printed = [] }

abbrev pub is_stopped : Desk → Bool
is_stopped d = nat_lt 1 d.stage

-- "segments and records counted from 0". No recording has 2^64 of them.
abbrev pub next : ℕ → ℕ
next n = (n + 1) % 2 ^ 64

abbrev pub with_held : List ℕ → Desk → Desk
with_held h d =
    record {
      stage = d.stage;
      table = d.table;
      held = h;
      records = d.records;
      segments = d.segments;
      state = d.state;
      printed = d.printed;
    }

-- "stops it with a last line of .."
abbrev pub stopped : Line → Desk → Desk
stopped l d =
    record {
      stage = 2;
      table = d.table;
      held = [];
      records = d.records;
      segments = d.segments;
      state = d.state;
      printed = d.printed ++ line_text l;
    }

-- "All entries .. stand before the one opening, and it before all segments": whether a record of this kind may begin; none of an unknown
-- kind may
abbrev pub placed : ℕ → ℕ → Bool
placed stage k = cond (stage == 0) (k == 1 || k == 2) (stage == 1 && k == 3)

-- "A .. unknown or misplaced record, .. an entry length above 129 or a used length above 1,598": of what is there of a record. A byte that
-- is not there yet counts as 0, so the first byte of a used length may decide before the second is there.
unfoldable pub faulty : ℕ → List ℕ → Bool
faulty stage r =
    not (placed stage (kind_of r)) || cond (kind_of r == 1) (nat_lt 129 (entry_length r)) (kind_of r == 3 && nat_lt 1598 (used_length r))

-- The opening.

-- the tables that a segment is judged by: the entries are those of the key table, and there is no MD5 table
abbrev pub desk_tables : List ℕ → Tables
desk_tables t = tables_of 0 t []

-- document 02, Ticket 8: "Ticket 1's program stays at 64 entries"
abbrev pub desk_entries : ℕ
desk_entries = 64

-- the table's refusals, 10 to 17
abbrev pub desk_answer : List ℕ → Admitted
desk_answer t = after_table key_index (loaded Keys desk_entries t) Ok

-- "a bad table or opening (18; 35 for either ID), judged at the opening record in 01's order"
abbrev pub open_tests : List ℕ → List ℕ → List (Test Outcome)
open_tests t r =
    test (refuse 18) (not (is_family_of (open_pair_of r).family))
    ∷ test (refusal (desk_answer t)) (is_refused (desk_answer t))
    ∷ test (refuse 35) (not (send_entry (desk_tables t) (open_pair_of r) (send_id_of r)).there)
    ∷ test (refuse 35) (not (recv_entry (desk_tables t) (open_pair_of r) (ask_id_of r)).there) ∷ []

unfoldable pub open_outcome_of : List ℕ → List ℕ → Outcome
open_outcome_of t r = first (open_tests t r) unrefused

-- what the code gives of the opening: nothing applies, or the refusal
abbrev pub opens_as : Result Unit Refusal → Outcome
opens_as (Ok x) = unrefused
opens_as (Err r) = Bad r.number r.index

abbrev pub at_opening_of : Desk → State → Desk
at_opening_of d q =
    record {
      stage = 1;
      table = d.table;
      held = [];
      records = next d.records;
      segments = d.segments;
      state = q;
      printed = d.printed;
    }

-- "with 01's number alone"
abbrev pub opened_by_lem : Desk → Outcome → Desk
opened_by_lem d (Good x r) = at_opening_of d (open_state_of d.held)
opened_by_lem d Passed = at_opening_of d (open_state_of d.held)
opened_by_lem d (Bad n i) = stopped (Refused n) d

-- A segment: it arrives from the remote side.

abbrev pub arrival_from : State → List ℕ → Arrival
arrival_from q s = arrival_of (remote_address q.conn.pair) (local_address q.conn.pair) s

-- "What it prints must be what the live calls would give": the segment is judged in the state that the one before left
abbrev pub answered : Desk → Judged → Desk
answered d j =
    record {
      stage = d.stage;
      table = d.table;
      held = [];
      records = next d.records;
      segments = next d.segments;
      state = j.state;
      printed = d.printed ++ line_text (verdict_line_of d.segments j.verdict);
    }

abbrev pub judged_on : Desk → Desk
judged_on d = answered d (judged (desk_tables d.table) (arrival_from d.state (segment_bytes d.held)) d.state)

-- the end: "A cut .. record, an end before the opening", with "the record's index (at an early end, the number of records)", which is
-- the number of whole records in both cases
abbrev pub ends_well : Desk → Bool
ends_well d = is_stopped d || (d.stage == 1 && length d.held == 0)

unfoldable pub finished : Desk → List ℕ
finished d = cond (ends_well d) d.printed (d.printed ++ line_text (Fault d.records))

-- Reading, where `keep` says what is kept of a table that grows: all of it, or so many bytes of it.
module _ (keep : List ℕ → List ℕ) where
  -- "All entries, joined in order, make the table"
  abbrev pub entered : Desk → Desk
  entered d =
      record {
        stage = d.stage;
        table = keep (d.table ++ entry_bytes d.held);
        held = [];
        records = next d.records;
        segments = d.segments;
        state = d.state;
        printed = d.printed;
      }

  -- a record that is whole and has no fault
  unfoldable pub settled : Desk → Desk
  settled d =
      cond (kind_of d.held == 1) (entered d)
      (cond (kind_of d.held == 2) (opened_by_lem d (open_outcome_of d.table d.held))
      (judged_on d))

  -- the record that is begun, with a byte more: "stops it with a last line of 38 and the record's index"
  unfoldable pub looked : Desk → Desk
  looked d =
      cond (faulty d.stage d.held) (stopped (Fault d.records) d)
      (cond (nat_le (record_bytes_of (kind_of d.held)) (length d.held)) (settled d) d)

  -- one byte; after the last line nothing more is read
  unfoldable pub step : Desk → ℕ → Desk
  step d b = cond (is_stopped d) d (looked (with_held (d.held ++ (b ∷ [])) d))

  unfoldable pub absorb : Desk → List ℕ → Desk
  absorb d [] = d
  absorb d (b ∷ s) = absorb (step d b) s

  -- all that is printed of a recording
  abbrev pub text_of : List ℕ → List ℕ
  text_of s = finished (absorb start s)

-- Document 02's text of a recording: every byte of the table is kept.
abbrev pub whole : List ℕ → List ℕ
whole t = t

abbrev pub desk_text : List ℕ → List ℕ
desk_text s = text_of whole s
