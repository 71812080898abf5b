-- Every call of documents 01 and 02, for every input: its numbers in order, of which the first that applies is given; then the answer, the
-- new state, and every byte of the output. What a call knows of its tables is a value of `Tables`.
use Rattle.std.specs.Prelude.{ℕ, ◌+◌, Bool, true, false, cond, not, ◌&&◌, ◌||◌, List, [], ◌∷◌, ◌++◌, length, drop, replicate, eqb, ltb}
use Rattle.std.specs.Prelude.{Ok, Err, Some}
use Rattle.wire.specs.Bytes.{same_bytes}
use Rattle.wire.specs.Header.{source_port_of, destination_port_of, sequence, header_end_of, syn, ack, size_faults}
use Rattle.keys.specs.declared.entry.Pair.{Pair}
use Rattle.keys.specs.declared.entry.Entry.{Entry}
use Rattle.keys.specs.Table.{Found}
use Rattle.keys.specs.Entry.{is_family_of, key_of}
use Rattle.tables.specs.declared.Index.{Index}
use Rattle.tables.specs.Tables.{Admitted, Tables, no_index, send_entry, recv_entry, any_entry, md5_entry}
use Rattle.rules.specs.Position.{Place}
use Rattle.rules.specs.declared.Outcome.{Outcome}
use Rattle.rules.specs.declared.Outcome.TheVariants.{Good, Passed, Bad}
use Rattle.rules.specs.declared.Verdict.{Verdict}
use Rattle.rules.specs.declared.Verdict.TheVariants.{Accept, Pass, Drop}
use Rattle.rules.specs.declared.Connection.{Connection}
use Rattle.rules.specs.declared.State.{State}
use Rattle.rules.specs.declared.Judged.{Judged}
use Rattle.rules.specs.declared.SynJudged.{SynJudged}
use Rattle.rules.specs.Signing as S
use Rattle.rules.specs.Results.{Signed, Settled}
use Rattle.rules.specs.Done as D
use Rattle.octets.specs.Tests.{Test, test, tests, joined, first}
use Rattle.rules.specs.Mac.{Flow, leaving_hidden_of, arriving_hidden_of, segment_mac}
use Rattle.rules.specs.Checksum.{sums_right, with_checksum_of}
use Rattle.rules.specs.Digest.{segment_digest}
use Rattle.rules.specs.Segment.{malformed, ao, md5, ao_at, key_id_of, rnext_key_id, mac_in, digest_in, is_bare_syn_of, option_bytes}
use Rattle.rules.specs.Segment.{signed_with, md5_option_bytes, digested_with}
use Rattle.rules.specs.Connection.{sized, pair_of_lem, Arrival, arrival_pair_of, local_address, remote_address, is_open_of, is_md5_of}
use Rattle.rules.specs.Connection.{ao_way, md5_way, arriving, leaving, arriving_syn, place_on_lem, located, value, extension_of_lem}
use Rattle.rules.specs.Connection.{next_key_of, opened, opening, empty, with_accepted_of, with_counted_of, with_drop_of, with_sent_of}
use Rattle.rules.specs.Connection.{with_asked_of}

abbrev pub refuse : ℕ → Outcome
refuse n = Bad n no_index

-- The numbers, in groups.

-- 18: "state's family is neither IPv4 nor IPv6"; the families are 4 and 6, the entries' kinds 4 to 7
abbrev pub family_tests : Connection → List (Test Outcome)
family_tests l = test (refuse 18) (not (is_family_of l.pair.family)) ∷ []

-- 19: "addresses not both 4 or both 16 bytes"
abbrev pub address_tests : List ℕ → List ℕ → List (Test Outcome)
address_tests a b = test (refuse 19) (not (sized a b)) ∷ []

-- 10 to 17 with the entry's index, of the key table, then of the MD5 table; Ticket 9: "refused with 45 at the first such MD5 entry, behind
-- the key table's and then the MD5 table's refusals and before 20"; Ticket 8: 44 "in the place of 10 to 16, without an index"
abbrev pub is_refused : Admitted → Bool
is_refused (Ok n) = false
is_refused (Err r) = true

abbrev pub refusal : Admitted → Outcome
refusal (Ok n) = refuse 0
refusal (Err r) = Bad r.number r.index

abbrev pub table_tests : Tables → List (Test Outcome)
table_tests t = test (refusal t.answer) (is_refused t.answer) ∷ []

-- 19, then the tables; with a state 18 before them
abbrev pub input_tests : Tables → List ℕ → List ℕ → List (Test Outcome)
input_tests t a b = address_tests a b ++ table_tests t

abbrev pub state_tests : Tables → List ℕ → List ℕ → Connection → List (Test Outcome)
state_tests t a b l = family_tests l ++ input_tests t a b

-- 20, or 30 when signing: "bad length or offset"
abbrev pub length_tests : ℕ → List ℕ → List (Test Outcome)
length_tests n s = tests (refuse n) (size_faults s)

-- 40, Ticket 5: "Arriving segments whose one's complement sum, pseudo-header and checksum included, is not FFFF are dropped with 40, tested
-- after 20 and before 21": between the addresses that came
abbrev pub sum_tests : Arrival → List (Test Outcome)
sum_tests a = test (refuse 40) (not (sums_right a.source a.destination a.segment)) ∷ []

-- 21: "malformed options"; 22: "two TCP-AO, or TCP-AO and MD5 together"; Ticket 9: "Two kind 19 give 22"
abbrev pub form_tests : List ℕ → List (Test Outcome)
form_tests s =
    test (refuse 21) (malformed s)
    ∷ test (refuse 22) (ltb 1 (ao s).count)
    ∷ test (refuse 22) (ltb 0 (ao s).count && ltb 0 (md5 s).count)
    ∷ test (refuse 22) (ltb 1 (md5 s).count) ∷ []

-- 23: "pair is not the state's"
abbrev pub pair_tests : Pair → Arrival → List (Test Outcome)
pair_tests p a =
    tests (refuse 23)
    (not (same_bytes a.source (remote_address p))
    ∷ not (same_bytes a.destination (local_address p))
    ∷ not (eqb (source_port_of a.segment) p.remote_port)
    ∷ not (eqb (destination_port_of a.segment) p.local_port) ∷ [])

-- 24: "wrong segment for the stage". Open: a bare SYN; opening: anything but SYN with ACK; without a state: anything but a bare SYN
abbrev pub stage_tests : Connection → List ℕ → List (Test Outcome)
stage_tests l s = test (refuse 24) (cond (is_open_of l) (is_bare_syn_of s) (not (syn s && ack s))) ∷ []

-- 23, then 24
abbrev pub arrival_tests : Connection → Arrival → List (Test Outcome)
arrival_tests l a = pair_tests l.pair a ++ stage_tests l a.segment

abbrev pub syn_tests : List ℕ → List (Test Outcome)
syn_tests s = test (refuse 24) (not (is_bare_syn_of s)) ∷ []

-- 25 and 26: "TCP-AO missing; no entry for its KeyID", or what a bare SYN gets there; 27: "MAC length wrong"; 28: "no position"
abbrev pub key_tests : Outcome → Outcome → Found → Place → List ℕ → List (Test Outcome)
key_tests missing unknown found x s =
    test missing (eqb (ao s).count 0)
    ∷ test unknown (not found.there)
    ∷ test (refuse 27) (not (eqb (ao s).len (4 + found.entry.secret.mac_bytes)))
    ∷ test (refuse 28) (not (located x)) ∷ []

-- 29: the MAC of the segment, which arrives, under the entry found, is not the one it carries
abbrev pub mac_differs : Entry → Flow → Place → List ℕ → Bool
mac_differs e f x s =
    not (same_bytes (mac_in s) (segment_mac e.secret (arriving_hidden_of e.secret) f (extension_of_lem (value x)) (ao_at s) s))

-- 29: "MAC differs". It alone needs the MAC; of the data, 40 needs the sum.
abbrev pub mac_tests : Entry → Flow → Place → List ℕ → List (Test Outcome)
mac_tests e f x s = test (refuse 29) (mac_differs e f x s) ∷ []

-- Ticket 9, the MD5 way: "drops kind 29 alone with 46 and an unsigned segment with 47, both tested before 25, .. and kind 19 with no entry
-- with 26"; "a length other than 18 gives 27"
abbrev pub md5_tests : Found → List ℕ → List (Test Outcome)
md5_tests found s =
    test (refuse 46) (ltb 0 (ao s).count)
    ∷ test (refuse 47) (eqb (md5 s).count 0)
    ∷ test (refuse 26) (not found.there)
    ∷ test (refuse 27) (not (eqb (md5 s).len 18)) ∷ []

-- "a wrong digest 29"
abbrev pub digest_differs : Entry → Flow → List ℕ → Bool
digest_differs e f s = not (same_bytes (digest_in s) (segment_digest (key_of e.secret) f.source f.destination s))

abbrev pub digest_tests : Entry → Flow → List ℕ → List (Test Outcome)
digest_tests e f s = test (refuse 29) (digest_differs e f s) ∷ []

-- what is given where no test applies, by the way: the position and the RNextKeyID; MD5 has no IDs
abbrev pub good_by : (is_md5_of : Bool) → Place → List ℕ → Outcome
good_by is_md5_of x s = Good (value x) (cond is_md5_of 0 (rnext_key_id s))

-- The tests of an arriving segment, each group by its name. In which order they stand is said here and nowhere else.
pub record Groups : Type 0 where
  pub input : List (Test Outcome)
  pub size : List (Test Outcome)
  pub sum : List (Test Outcome)
  pub form : List (Test Outcome)
  pub arrival : List (Test Outcome)
  pub key : List (Test Outcome)
  pub mac : List (Test Outcome)

-- what is tested of the segment, once the input is right; all of it
abbrev pub segment_groups : Groups → List (List (Test Outcome))
segment_groups g = g.size ∷ g.sum ∷ g.form ∷ g.arrival ∷ g.key ∷ g.mac ∷ []

abbrev pub in_order : Groups → List (Test Outcome)
in_order g = joined (g.input ∷ segment_groups g)

-- Judging.

-- with a state, opening or open: from the tables, what the connection is, its reference, and the arrival. "A connection goes by the way it
-- was opened and never accepts the other"
abbrev pub judge_groups : Tables → Connection → ℕ → Arrival → Groups
judge_groups t l reference a =
    record {
      input = state_tests t a.source a.destination l;
      size = length_tests 20 a.segment;
      sum = sum_tests a;
      form = form_tests a.segment;
      arrival = arrival_tests l a;
      key =
          cond (is_md5_of l) (md5_tests (md5_entry t l.pair) a.segment)
          (key_tests (refuse 25) (refuse 26) (recv_entry t l.pair (key_id_of a.segment)) (place_on_lem l reference (sequence a.segment))
          a.segment);
      mac =
          cond (is_md5_of l) (digest_tests (md5_entry t l.pair).entry (arriving l a.segment) a.segment)
          (mac_tests (recv_entry t l.pair (key_id_of a.segment)).entry (arriving l a.segment)
          (place_on_lem l reference (sequence a.segment)) a.segment);
    }

abbrev pub judge_tests : Tables → Connection → ℕ → Arrival → List (Test Outcome)
judge_tests t l reference a = in_order (judge_groups t l reference a)

unfoldable pub check : Tables → Connection → ℕ → Arrival → Outcome
check t l reference a =
    first (judge_tests t l reference a) (good_by (is_md5_of l) (place_on_lem l reference (sequence a.segment)) a.segment)

-- a bare SYN, without a state. "Bare SYN without TCP-AO: 25 if any entry matches the pair, otherwise pass. Bare SYN with TCP-AO: the
-- entry is found by pair and KeyID = RecvID."
abbrev pub syn_missing_of : Tables → Pair → Outcome
syn_missing_of t p = cond (any_entry t p) (refuse 25) Passed

-- Document 02, Ticket 2: "drop 26 is given whenever any entry matches the pair and none has the KeyID; the setting decides only where no
-- entry matches the pair": pass, or drop 26.
abbrev pub syn_unknown_of : Tables → Pair → Bool → Outcome
syn_unknown_of t p strict = cond (any_entry t p || strict) (refuse 26) Passed

-- Ticket 9: "a bare SYN without one [goes] by the table that matches, else as before"
abbrev pub syn_is_md5 : Tables → Pair → Bool
syn_is_md5 t p = (md5_entry t p).there

abbrev pub syn_groups : Tables → Arrival → Bool → Groups
syn_groups t a strict =
    record {
      input = input_tests t a.source a.destination;
      size = length_tests 20 a.segment;
      sum = sum_tests a;
      form = form_tests a.segment;
      arrival = syn_tests a.segment;
      key =
          cond (syn_is_md5 t (arrival_pair_of a)) (md5_tests (md5_entry t (arrival_pair_of a)) a.segment)
          (key_tests (syn_missing_of t (arrival_pair_of a)) (syn_unknown_of t (arrival_pair_of a) strict)
          (recv_entry t (arrival_pair_of a) (key_id_of a.segment)) (Some (sequence a.segment)) a.segment);
      mac =
          cond (syn_is_md5 t (arrival_pair_of a)) (digest_tests (md5_entry t (arrival_pair_of a)).entry (arriving_syn a) a.segment)
          (mac_tests (recv_entry t (arrival_pair_of a) (key_id_of a.segment)).entry (arriving_syn a) (Some (sequence a.segment)) a.segment);
    }

abbrev pub judge_syn_tests : Tables → Arrival → Bool → List (Test Outcome)
judge_syn_tests t a strict = in_order (syn_groups t a strict)

unfoldable pub check_syn_of : Tables → Arrival → Bool → Outcome
check_syn_of t a strict =
    first (judge_syn_tests t a strict) (good_by (syn_is_md5 t (arrival_pair_of a)) (Some (sequence a.segment)) a.segment)

-- "A verdict is accept with its extension, pass, or drop with a number. The new state stands beside it."
abbrev pub verdict_of_lem : Outcome → Verdict
verdict_of_lem (Good x r) = Accept (extension_of_lem x)
verdict_of_lem Passed = Pass
verdict_of_lem (Bad n i) = Drop n

abbrev pub index_of : Outcome → Index
index_of (Good x r) = no_index
index_of Passed = no_index
index_of (Bad n i) = i

-- the outgoing key after an acceptance: the key rule is TCP-AO's, and an MD5 connection's ID stays
abbrev pub next_on_lem : Tables → State → ℕ → ℕ
next_on_lem t q r = cond (is_md5_of q.conn) q.send_id (next_key_of t q.conn.pair r q.send_id)

-- an acceptance once open: it is counted and, on the TCP-AO way, moves the reference
abbrev pub accepted_on_lem : Tables → State → ℕ → ℕ → State
accepted_on_lem t q x r = cond (is_md5_of q.conn) (with_counted_of q) (with_accepted_of x (next_on_lem t q r) q)

-- after judging with a state: an accepted segment opens, the way as the state has it, or is accepted once open; a drop is counted once open
abbrev pub after_judging_of : Tables → State → Outcome → State
after_judging_of t q (Good x r) =
    cond (is_open_of q.conn) (accepted_on_lem t q x r)
    (opened q.conn.way q.conn.pair q.conn.isn x (next_on_lem t q r) q.ask_id)
after_judging_of t q Passed = q
after_judging_of t q (Bad n i) = cond (is_open_of q.conn) (with_drop_of n q) q

abbrev pub judged_by : Tables → State → Outcome → Judged
judged_by t q o = record { verdict = verdict_of_lem o; index = index_of o; state = after_judging_of t q o }

unfoldable pub judged : Tables → Arrival → State → Judged
judged t a q = judged_by t q (check t q.conn q.seen a)

-- "a bare SYN is judged without a state"
unfoldable pub judged_syn : Tables → Arrival → Bool → SynJudged
judged_syn t a strict = record { verdict = verdict_of_lem (check_syn_of t a strict); index = index_of (check_syn_of t a strict) }

-- "A second call takes the same SYN and our ISN, judges it again and, only on accept, opens with the entry found, then applies the key rule
-- below (house). An opening refused, or a SYN only passed, returns the empty state, family 0."
-- Ticket 9: opened by the table that matches; an MD5 connection's IDs are 0
abbrev pub opened_on : Tables → Pair → ℕ → Entry → ℕ → ℕ → State
opened_on t p isn e x r =
    cond (syn_is_md5 t p) (opened md5_way p isn x 0 0) (opened ao_way p isn x (next_key_of t p r e.ids.send) e.ids.recv)

abbrev pub opened_by_lem : Tables → Pair → ℕ → Entry → Outcome → State
opened_by_lem t p isn e (Good x r) = opened_on t p isn e x r
opened_by_lem t p isn e Passed = empty
opened_by_lem t p isn e (Bad n i) = empty

unfoldable pub opened_passively : Tables → Arrival → ℕ → Bool → Judged
opened_passively t a isn strict =
    record {
      verdict = verdict_of_lem (check_syn_of t a strict);
      index = index_of (check_syn_of t a strict);
      state = opened_by_lem t (arrival_pair_of a) isn (recv_entry t (arrival_pair_of a) (key_id_of a.segment)).entry
          (check_syn_of t a strict);
    }

-- Opening actively, and asking. No test of these calls gives pass.

-- no number is given; a call that has no position makes nothing of its numbers
abbrev pub unrefused : Outcome
unrefused = Good 0 0

abbrev pub settled_by_lem : Outcome → State → State → Settled
settled_by_lem (Good x r) old new = record { answer = D.Succeeded; index = no_index; state = new }
settled_by_lem Passed old new = record { answer = D.Succeeded; index = no_index; state = old }
settled_by_lem (Bad n i) old new = record { answer = D.Refused n; index = i; state = old }

-- "Active opening names a SendID; its entry must match the pair. It gives the outgoing key and, by RecvID, the key asked of the peer."
abbrev pub open_tests : Tables → List ℕ → List ℕ → Found → List (Test Outcome)
open_tests t local remote found = address_tests local remote ++ (table_tests t ++ (test (refuse 35) (not found.there) ∷ []))

abbrev pub opened_with : Tables → List ℕ → List ℕ → Pair → ℕ → ℕ → Settled
opened_with t local remote p isn send_id =
    settled_by_lem (first (open_tests t local remote (send_entry t p send_id)) unrefused) empty
    (opening ao_way p isn send_id (send_entry t p send_id).entry.ids.recv)

unfoldable pub opened_actively : Tables → List ℕ → List ℕ → ℕ → ℕ → ℕ → ℕ → Settled
opened_actively t local remote local_port remote_port isn send_id =
    opened_with t local remote (pair_of_lem local remote local_port remote_port) isn send_id

-- Ticket 9: an active opening by MD5 names no SendID; "kind 19 with no entry .. (opening, signing: 35)"
abbrev pub opened_md5_with : Tables → List ℕ → List ℕ → Pair → ℕ → Settled
opened_md5_with t local remote p isn =
    settled_by_lem (first (open_tests t local remote (md5_entry t p)) unrefused) empty (opening md5_way p isn 0 0)

unfoldable pub opened_actively_md5 : Tables → List ℕ → List ℕ → ℕ → ℕ → ℕ → Settled
opened_actively_md5 t local remote local_port remote_port isn =
    opened_md5_with t local remote (pair_of_lem local remote local_port remote_port) isn

-- 35: no entry matching the pair has "the RecvID to ask (operator call)"; Ticket 9, on the MD5 way: "asking: always 35"
abbrev pub ask_tests : Tables → ℕ → Connection → List (Test Outcome)
ask_tests t id l = family_tests l ++ (table_tests t ++ tests (refuse 35) (is_md5_of l ∷ not (recv_entry t l.pair id).there ∷ []))

unfoldable pub asked : Tables → ℕ → State → Settled
asked t id q = settled_by_lem (first (ask_tests t id q.conn) unrefused) q (with_asked_of id q)

-- Signing. No test of it gives pass.

-- the bytes that signing under an entry adds: TCP-AO with the entry's MAC bytes, and its padding
abbrev pub added_bytes_of : Entry → ℕ
added_bytes_of e = option_bytes e.secret.mac_bytes

-- on the MD5 way the MD5 option and the two kind 1 bytes, "which 32 counts"
abbrev pub added_on_lem : Connection → Entry → ℕ
added_on_lem l e = cond (is_md5_of l) md5_option_bytes (added_bytes_of e)

-- 31: "malformed, or TCP-AO or MD5 present"
abbrev pub fresh_tests : List ℕ → List (Test Outcome)
fresh_tests s = tests (refuse 31) (malformed s ∷ ltb 0 (ao s).count ∷ ltb 0 (md5 s).count ∷ [])

-- 32, Ticket 4: "the data offset rises by the words of the padded option, and 32 .. is given when it would pass 15 or the result 65,535
-- bytes". A header of 15 words has 60 bytes.
abbrev pub growth_tests : ℕ → List ℕ → List (Test Outcome)
growth_tests added s = tests (refuse 32) (ltb 60 (header_end_of s + added) ∷ ltb 65535 (length s + added) ∷ [])

-- 33: "ports not the state's"
abbrev pub port_tests : Pair → List ℕ → List (Test Outcome)
port_tests p s = tests (refuse 33) (not (eqb (source_port_of s) p.local_port) ∷ not (eqb (destination_port_of s) p.remote_port) ∷ [])

-- 34: "wrong segment for the stage". Open: a bare SYN; opening: anything else
abbrev pub sign_stage_tests : Connection → List ℕ → List (Test Outcome)
sign_stage_tests l s = test (refuse 34) (cond (is_open_of l) (is_bare_syn_of s) (not (is_bare_syn_of s))) ∷ []

-- 36: "no position, or a SYN (bare or with ACK) whose position is not our ISN"; Ticket 9, on the MD5 way: "only for a SYN whose number is
-- not our ISN", since there its place is its number
abbrev pub sent_place_tests : Connection → Place → List ℕ → List (Test Outcome)
sent_place_tests l x s = tests (refuse 36) (not (located x) ∷ (syn s && not (eqb (value x) l.isn)) ∷ [])

-- Ticket 4: "32, tested now after 35": where no entry is found, no length is asked for
abbrev pub sign_tests : Tables → List ℕ → ℕ → State → Found → List (Test Outcome)
sign_tests t s room q found =
    family_tests q.conn
    ++ (table_tests t
    ++ (length_tests 30 s
    ++ (fresh_tests s
    ++ (port_tests q.conn.pair s
    ++ (sign_stage_tests q.conn s
    ++ (test (refuse 35) (not found.there)
    ∷ (growth_tests (added_on_lem q.conn found.entry) s
    ++ (sent_place_tests q.conn (place_on_lem q.conn q.sent (sequence s)) s
    ++ (test (refuse 37) (ltb room (length s + added_on_lem q.conn found.entry)) ∷ [])))))))))

-- the entry signed under: the outgoing key's; on the MD5 way the one that matches the pair
abbrev pub outgoing : Tables → State → Found
outgoing t q = cond (is_md5_of q.conn) (md5_entry t q.conn.pair) (send_entry t q.conn.pair q.send_id)

-- the position that a segment is signed by, with the asked RecvID; or the number. `room` is the output's length
unfoldable pub check_sign : Tables → List ℕ → ℕ → State → Outcome
check_sign t s room q =
    first (sign_tests t s room q (outgoing t q)) (Good (value (place_on_lem q.conn q.sent (sequence s))) q.ask_id)

-- "KeyID is the outgoing SendID, RNextKeyID the asked RecvID." The MAC is that of the segment with zeros in its place. The checksum is
-- still zero: Ticket 5, "Document 01's 'checksum zero' holds only for the bytes under the MAC".
unfoldable pub authenticated : Entry → State → ℕ → List ℕ → List ℕ
authenticated e q x s =
    signed_with q.send_id q.ask_id
    (segment_mac e.secret (leaving_hidden_of e.secret) (leaving q.conn) (extension_of_lem x) 20
    (signed_with q.send_id q.ask_id (replicate e.secret.mac_bytes 0) s)) s

-- Ticket 9, the MD5 way: the digest is that of the segment with an MD5 option in its place, whose bytes it does not cover
unfoldable pub digested : Entry → State → List ℕ → List ℕ
digested e q s =
    digested_with
    (segment_digest (key_of e.secret) (leaving q.conn).source (leaving q.conn).destination (digested_with (replicate 16 0) s)) s

-- what is sent has the right checksum, between the state's own addresses
unfoldable pub signed_segment : Entry → State → ℕ → List ℕ → List ℕ
signed_segment e q x s =
    with_checksum_of (local_address q.conn.pair) (remote_address q.conn.pair)
    (cond (is_md5_of q.conn) (digested e q s) (authenticated e q x s))

-- "Signing writes only the signed length's bytes of the output."
abbrev pub written : List ℕ → List ℕ → List ℕ
written bytes out = bytes ++ drop (length bytes) out

-- Ticket 9: "after opening neither it nor signing moves a reference"
abbrev pub after_signing_of : ℕ → State → State
after_signing_of x q = cond (is_open_of q.conn && is_md5_of q.conn) q (with_sent_of x q)

abbrev pub signed_by : State → List ℕ → Entry → Outcome → Signed
signed_by q s e (Good x r) = record { answer = S.Signed (length s + added_on_lem q.conn e); index = no_index; state = after_signing_of x q }
signed_by q s e Passed = record { answer = S.Refused 0; index = no_index; state = q }
signed_by q s e (Bad n i) = record { answer = S.Refused n; index = i; state = q }

abbrev pub output_by : State → List ℕ → List ℕ → Entry → Outcome → List ℕ
output_by q s out e (Good x r) = written (signed_segment e q x s) out
output_by q s out e Passed = out
output_by q s out e (Bad n i) = out

-- the answer and the new state
unfoldable pub signed : Tables → List ℕ → List ℕ → State → Signed
signed t s out q = signed_by q s (outgoing t q).entry (check_sign t s (length out) q)

-- every byte of the output
unfoldable pub output : Tables → List ℕ → List ℕ → State → List ℕ
output t s out q = output_by q s out (outgoing t q).entry (check_sign t s (length out) q)
