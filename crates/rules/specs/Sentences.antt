-- Document 01's sentences, said of the definitions once more and apart from them: the table of numbers row by row, and bytes as numerals.
-- A definition and the code that is proved equal to it could be wrong alike; then they contradict a sentence here. Here is the TCP-AO way,
-- and what both ways share; Md5Sentences.antt has the MD5 way of document 02, Ticket 9. SentenceLaws proves each, PositionLaws
-- `PlaceAnswers`.
use Rattle.std.specs.Prelude.{ℕ, ◌+◌, ◌-◌, ◌*◌, ◌/◌, ◌%◌, ◌<◌, ◌≡◌, Bool, true, false, cond, not, ◌&&◌, List, [], ◌∷◌, ◌++◌, map, length}
use Rattle.std.specs.Prelude.{get_or, take, drop, replicate, eqb, ltb, Some}
use Rattle.octets.specs.Tests.{Test, any, first}
use Rattle.wire.specs.Bytes.{same_bytes}
use Rattle.wire.specs.Header.{source_port_of, destination_port_of, sequence, data_offset_of, header_end_of, syn, ack}
use Rattle.mac.specs.Hmac.{hmac_sha1_of, hmac_sha256_of}
use Rattle.mac.specs.Cmac.{cmac}
use Rattle.keys.specs.declared.entry.Pair.{Pair}
use Rattle.keys.specs.declared.entry.Entry.{Entry}
use Rattle.keys.specs.declared.entry.Secret.{Secret}
use Rattle.keys.specs.declared.entry.Side.{Side}
use Rattle.keys.specs.Table.{Found}
use Rattle.keys.specs.Algorithm.{mac_bytes_of}
use Rattle.keys.specs.Entry.{Item, known_kind_of, family_of_lem, body, secret_of_lem, entry_of, is_family_of, key_of, all_options}
use Rattle.keys.specs.declared.table.TableKind.TheVariants.{Keys}
use Rattle.keys.specs.Table as K
use Rattle.tables.specs.declared.Index.{Index}
use Rattle.tables.specs.Tables.{Tables, send_entry, recv_entry, any_entry}
use Rattle.rules.specs.Position.{Place}
use Rattle.rules.specs.declared.Outcome.{Outcome}
use Rattle.rules.specs.declared.Outcome.TheVariants.{Good, Passed, Bad}
use Rattle.rules.specs.declared.Verdict.TheVariants.{Accept, Pass, Drop}
use Rattle.rules.specs.declared.Connection.{Connection}
use Rattle.rules.specs.declared.State.{State}
use Rattle.checksum.specs.Checksum.{ones_sum}
use Rattle.rules.specs.Checksum.{with_checksum_of}
use Rattle.rules.specs.Ends.{rechecked}
use Rattle.rules.specs.declared.Hidden.{Hidden}
use Rattle.rules.specs.Mac.{Flow, blanked, context, traffic_key_of, pseudo_header, ports_blanked_of, covered_header, message, segment_mac}
use Rattle.rules.specs.Segment.{malformed, ao, md5, ao_at, key_id_of, rnext_key_id, mac_in, is_bare_syn_of, signed_with}
use Rattle.rules.specs.Connection.{Arrival, sized, arrival_pair_of, local_address, remote_address, is_open_of, is_md5_of, arriving, leaving}
use Rattle.rules.specs.Connection.{arriving_syn, pair_of_lem, place_on_lem, located, value, extension_of_lem, bump, opening, empty}
use Rattle.rules.specs.Calls.{is_refused, refusal, syn_is_md5, check, check_syn_of, unrefused, settled_by_lem, opened_actively, ask_tests}
use Rattle.rules.specs.Calls.{check_sign, signed_segment}
use Rattle.rules.specs.Answers.{answer, verdict_answer, place_answer}

-- The table of numbers. "The first that applies, in this order, is given."

-- a row: what is given if one of its tests applies
pub record NumberRow : Type 0 where
  pub gives : Outcome
  pub tests : List Bool

abbrev pub bad : ℕ → Outcome
bad n = Bad n (record { table = 0; entry = 0 })

abbrev pub row : ℕ → List Bool → NumberRow
row n l = record { gives = bad n; tests = l }

-- the row of 10 to 17 and, Ticket 9, of 45, with the entry's table and index; Ticket 8: or of 44
abbrev pub entries_row : Tables → NumberRow
entries_row t = record { gives = refusal t.answer; tests = is_refused t.answer ∷ [] }

abbrev pub first_of : List NumberRow → Outcome → Outcome
first_of [] o = o
first_of (r ∷ l) o = cond (any r.tests) r.gives (first_of l o)

-- "A segment has 20 to 65,535 bytes. The data offset is 5 to 15 words and its header lies inside the segment."
abbrev pub bad_size : List ℕ → List Bool
bad_size s = ltb (length s) 20 ∷ ltb 65535 (length s) ∷ ltb (data_offset_of s) 5 ∷ ltb (length s) (header_end_of s) ∷ []

-- Ticket 10: "flags 2 for the local and 4 for the remote side". The source of what arrives is the remote side, the source of what leaves
-- the local one.
abbrev pub hides_arriving : Secret → Hidden
hides_arriving s = record { source = eqb (s.flags / 4 % 2) 1; destination = eqb (s.flags / 2 % 2) 1 }

abbrev pub hides_leaving : Secret → Hidden
hides_leaving s = record { source = eqb (s.flags / 2 % 2) 1; destination = eqb (s.flags / 4 % 2) 1 }

-- the MAC differs from that of the segment under the entry, of the flow, at the place
abbrev pub wrong_mac : Entry → Flow → Place → List ℕ → Bool
wrong_mac e f x s = not (same_bytes (mac_in s) (segment_mac e.secret (hides_arriving e.secret) f (extension_of_lem (value x)) (ao_at s) s))

-- 40, Ticket 5: a "one's complement sum, pseudo-header and checksum included," that "is not FFFF"
abbrev pub wrong_sum : Arrival → Bool
wrong_sum a = not (eqb (ones_sum (pseudo_header a.source a.destination (length a.segment) ++ a.segment)) 65535)

-- 22: "two TCP-AO, or TCP-AO and MD5 together"; Ticket 9: "Two kind 19 give 22"
abbrev pub too_many : List ℕ → List Bool
too_many s = ltb 1 (ao s).count ∷ (ltb 0 (ao s).count && ltb 0 (md5 s).count) ∷ ltb 1 (md5 s).count ∷ []

-- Judging with a state, its connection l: before the signature, by either way,
abbrev pub arrival_rows : Tables → Connection → Arrival → List NumberRow
arrival_rows t l a =
    row 18 (not (is_family_of l.pair.family) ∷ [])
    ∷ row 19 (not (sized a.source a.destination) ∷ [])
    ∷ entries_row t
    ∷ row 20 (bad_size a.segment)
    ∷ row 40 (wrong_sum a ∷ [])
    ∷ row 21 (malformed a.segment ∷ [])
    ∷ row 22 (too_many a.segment)
    ∷ row 23
    (not (same_bytes a.source (remote_address l.pair))
    ∷ not (same_bytes a.destination (local_address l.pair))
    ∷ not (eqb (source_port_of a.segment) l.pair.remote_port)
    ∷ not (eqb (destination_port_of a.segment) l.pair.local_port) ∷ [])
    ∷ row 24 (cond (is_open_of l) (is_bare_syn_of a.segment) (not (syn a.segment && ack a.segment)) ∷ [])
    ∷ []

-- and TCP-AO's
abbrev pub judge_rows : Tables → Connection → Found → Place → Arrival → List NumberRow
judge_rows t l found x a =
    arrival_rows t l a
    ++ (row 25 (eqb (ao a.segment).count 0 ∷ [])
    ∷ row 26 (not found.there ∷ [])
    ∷ row 27 (not (eqb (ao a.segment).len (4 + found.entry.secret.mac_bytes)) ∷ [])
    ∷ row 28 (not (located x) ∷ [])
    ∷ row 29 (wrong_mac found.entry (arriving l a.segment) x a.segment ∷ [])
    ∷ [])

-- the entry for its KeyID is found by RecvID
abbrev pub JudgeTable : Type 0
JudgeTable = (t : Tables) (l : Connection) (reference : ℕ) (a : Arrival) → is_md5_of l ≡ false
    → check t l reference a
    ≡ first_of (judge_rows t l (recv_entry t l.pair (key_id_of a.segment)) (place_on_lem l reference (sequence a.segment)) a)
    (Good (value (place_on_lem l reference (sequence a.segment))) (rnext_key_id a.segment))

-- A bare SYN, without a state: "25 if any entry matches the pair, otherwise pass"; document 02, Ticket 2: "drop 26 is given whenever any
-- entry matches the pair and none has the KeyID; the setting decides only where no entry matches the pair"
abbrev pub bare_rows : Tables → Arrival → List NumberRow
bare_rows t a =
    row 19 (not (sized a.source a.destination) ∷ [])
    ∷ entries_row t
    ∷ row 20 (bad_size a.segment)
    ∷ row 40 (wrong_sum a ∷ [])
    ∷ row 21 (malformed a.segment ∷ [])
    ∷ row 22 (too_many a.segment)
    ∷ row 24 (not (is_bare_syn_of a.segment) ∷ [])
    ∷ []

abbrev pub syn_rows : Tables → Bool → Found → Arrival → List NumberRow
syn_rows t strict found a =
    bare_rows t a
    ++ (record { gives = cond (any_entry t (arrival_pair_of a)) (bad 25) Passed; tests = eqb (ao a.segment).count 0 ∷ [] }
    ∷ record { gives = cond (any_entry t (arrival_pair_of a)) (bad 26) (cond strict (bad 26) Passed); tests = not found.there ∷ [] }
    ∷ row 27 (not (eqb (ao a.segment).len (4 + found.entry.secret.mac_bytes)) ∷ [])
    ∷ row 29 (wrong_mac found.entry (arriving_syn a) (Some (sequence a.segment)) a.segment ∷ [])
    ∷ [])

-- Ticket 9: "by the table that matches, else as before"
abbrev pub SynTable : Type 0
SynTable = (t : Tables) (a : Arrival) (strict : Bool) → syn_is_md5 t (arrival_pair_of a) ≡ false
    → check_syn_of t a strict
    ≡ first_of (syn_rows t strict (recv_entry t (arrival_pair_of a) (key_id_of a.segment)) a)
    (Good (sequence a.segment) (rnext_key_id a.segment))

-- Ticket 4: the words of an option that has n bytes of MAC, padded "to the next multiple of four"
abbrev pub option_words : ℕ → ℕ
option_words n = (4 + n + 3) / 4

-- Signing the segment s into an output of `room` bytes: by either way, whether an entry is there, that the place is wrong, and how many
-- words the option adds.
abbrev pub sign_rows : Tables → List ℕ → ℕ → State → Bool → List Bool → ℕ → List NumberRow
sign_rows t s room q there misplaced w =
    row 18 (not (is_family_of q.conn.pair.family) ∷ [])
    ∷ entries_row t
    ∷ row 30 (bad_size s)
    ∷ row 31 (malformed s ∷ ltb 0 (ao s).count ∷ ltb 0 (md5 s).count ∷ [])
    ∷ row 33 (not (eqb (source_port_of s) q.conn.pair.local_port) ∷ not (eqb (destination_port_of s) q.conn.pair.remote_port) ∷ [])
    ∷ row 34 (cond (is_open_of q.conn) (is_bare_syn_of s) (not (is_bare_syn_of s)) ∷ [])
    ∷ row 35 (not there ∷ [])
    ∷ row 32 (ltb 15 (data_offset_of s + w) ∷ ltb 65535 (length s + 4 * w) ∷ [])
    ∷ row 36 misplaced
    ∷ row 37 (ltb room (length s + 4 * w) ∷ [])
    ∷ []

-- 36: "no position, or a SYN (bare or with ACK) whose position is not our ISN"
abbrev pub no_place : State → Place → List ℕ → List Bool
no_place q x s = not (located x) ∷ (syn s && not (eqb (value x) q.conn.isn)) ∷ []

-- under the entry that is found for the outgoing SendID
abbrev pub SignTable : Type 0
SignTable = (t : Tables) (s : List ℕ) (room : ℕ) (q : State) → is_md5_of q.conn ≡ false
    → check_sign t s room q
    ≡ first_of
    (sign_rows t s room q (send_entry t q.conn.pair q.send_id).there (no_place q (place_on_lem q.conn q.sent (sequence s)) s)
    (option_words (send_entry t q.conn.pair q.send_id).entry.secret.mac_bytes))
    (Good (value (place_on_lem q.conn q.sent (sequence s))) q.ask_id)

-- Opening actively. 35: "no entry matching the pair has the outgoing SendID (opening ..)"; Ticket 9: or, by MD5, none matches the pair.
abbrev pub open_rows : Tables → List ℕ → List ℕ → Found → List NumberRow
open_rows t local remote found = row 19 (not (sized local remote) ∷ []) ∷ entries_row t ∷ row 35 (not found.there ∷ []) ∷ []

-- "Active opening names a SendID; its entry must match the pair. It gives the outgoing key and, by RecvID, the key asked of the peer."
abbrev pub OpenActiveTable : Type 0
OpenActiveTable = (t : Tables) (local remote : List ℕ) (local_port remote_port isn send_id : ℕ)
    → opened_actively t local remote local_port remote_port isn send_id
    ≡ settled_by_lem
    (first_of (open_rows t local remote (send_entry t (pair_of_lem local remote local_port remote_port) send_id)) unrefused) empty
    (opening 0 (pair_of_lem local remote local_port remote_port) isn send_id
    (send_entry t (pair_of_lem local remote local_port remote_port) send_id).entry.ids.recv)

-- 35: no entry matching the pair has "the RecvID to ask (operator call)"; Ticket 9, of an MD5 connection: "asking: always 35"
abbrev pub AskTable : Type 0
AskTable = (t : Tables) (id : ℕ) (l : Connection)
    → first (ask_tests t id l) unrefused
    ≡ first_of
    (row 18 (not (is_family_of l.pair.family) ∷ []) ∷ entries_row t ∷ row 35 (is_md5_of l ∷ not (recv_entry t l.pair id).there ∷ []) ∷ [])
    unrefused

-- "12, 11, 10", then 13 to 17: the numbers of the entry with the index i, in order
abbrev pub EntryOrder : Type 0
EntryOrder = (limit i : ℕ) (before : List Entry) (x : Item)
    → map (λ (r : Test ℕ). r.gives) (K.load_tests Keys limit i before x)
    ≡ 12 ∷ 11 ∷ 10 ∷ 13 ∷ 13 ∷ 13 ∷ 13 ∷ 13 ∷ 14 ∷ 14 ∷ 15 ∷ 15 ∷ 15 ∷ 15 ∷ 16 ∷ 16 ∷ 16 ∷ 17 ∷ []

-- an entry of kind k that has at byte n the key length 2, behind it 7, 8 and 9, and zeros elsewhere
abbrev pub keyed : ℕ → ℕ → List ℕ
keyed k n = (k ∷ replicate (n - 1) 0) ++ ((2 ∷ 7 ∷ 8 ∷ 9 ∷ []) ++ replicate 77 0)

-- The key table's bytes as numerals: "kind 4 (IPv4) has 103 bytes, kind 6 (IPv6) 127"; Ticket 4: "kinds 5 and 7, like 4 and 6 with one more
-- byte, 4 to 16, before the key length"; "MAC bytes (12 and 12)", and 12 of algorithm 3, where the kind has no such byte.
pub record EntryBytes : Type 0 where
  pub known : map known_kind_of (3 ∷ 4 ∷ 5 ∷ 6 ∷ 7 ∷ 8 ∷ []) ≡ false ∷ true ∷ true ∷ true ∷ true ∷ false ∷ []
  pub bodies : map body (4 ∷ 5 ∷ 6 ∷ 7 ∷ []) ≡ 103 ∷ 104 ∷ 127 ∷ 128 ∷ []
  pub families : map family_of_lem (4 ∷ 5 ∷ 6 ∷ 7 ∷ []) ≡ 4 ∷ 4 ∷ 6 ∷ 6 ∷ []
  pub mac-lengths : (e : List ℕ) → map (λ (k : ℕ). (secret_of_lem k e).mac_bytes) (4 ∷ 5 ∷ 6 ∷ 7 ∷ [])
      ≡ mac_bytes_of (get_or e 2 0) ∷ get_or e 23 0 ∷ mac_bytes_of (get_or e 2 0) ∷ get_or e 47 0 ∷ []
  pub key-lengths : (e : List ℕ) → map (λ (k : ℕ). (secret_of_lem k e).key_len) (4 ∷ 5 ∷ 6 ∷ 7 ∷ [])
      ≡ get_or e 23 0 ∷ get_or e 24 0 ∷ get_or e 47 0 ∷ get_or e 48 0 ∷ []
  pub twelve : map mac_bytes_of (1 ∷ 2 ∷ 3 ∷ []) ≡ 12 ∷ 12 ∷ 12 ∷ []
  -- the key: as many bytes as its length says, behind it
  pub keys : map (λ (e : List ℕ). key_of (entry_of e).secret) (keyed 4 23 ∷ keyed 5 24 ∷ keyed 6 47 ∷ keyed 7 48 ∷ [])
      ≡ (7 ∷ 8 ∷ []) ∷ (7 ∷ 8 ∷ []) ∷ (7 ∷ 8 ∷ []) ∷ (7 ∷ 8 ∷ []) ∷ []

-- 13: "flags or algorithm not listed": Ticket 10 lists the flags up to 7, Ticket 13 algorithm 3; Ticket 4: "also covers the new byte". Of
-- flags, algorithm and MAC length, what an entry gets for these three; 0 is nothing.
abbrev pub listed : ℕ → ℕ → ℕ → ℕ
listed flags algorithm n =
    K.number_of (K.secret_tests (record { flags = flags; algorithm = algorithm; mac_bytes = n; key_len = 1; key = [] }))

pub record Listed : Type 0 where
  pub flags : map (λ (f : ℕ). listed f 1 12) (0 ∷ 1 ∷ 7 ∷ 8 ∷ 255 ∷ []) ≡ 0 ∷ 0 ∷ 0 ∷ 13 ∷ 13 ∷ []
  pub algorithms : map (λ (a : ℕ). listed 0 a 12) (0 ∷ 1 ∷ 2 ∷ 3 ∷ 4 ∷ []) ≡ 13 ∷ 0 ∷ 0 ∷ 0 ∷ 13 ∷ []
  pub lengths : map (λ (n : ℕ). listed 0 1 n) (3 ∷ 4 ∷ 16 ∷ 17 ∷ []) ≡ 13 ∷ 0 ∷ 0 ∷ 13 ∷ []

-- 14: "low port above high"; 15: "prefix above 32 or 128, or address bits set past it"; 16: "key length 0 or above 80, or padding not
-- zero". What a selector, a side or a secret gets for these alone; 0 is nothing.
abbrev pub side_with : ℕ → ℕ → ℕ → List ℕ → Side
side_with low high bits address = record { low = low; high = high; bits = bits; address = address }

abbrev pub ports_get : Side → Side → ℕ
ports_get local remote = K.number_of (K.port_range_tests (record { family = 4; local = local; remote = remote }))

abbrev pub prefix_gets : ℕ → List ℕ → ℕ → ℕ
prefix_gets f address bits = K.number_of (K.side_tests f (side_with 0 0 bits address))

abbrev pub key_gets : List ℕ → ℕ → ℕ
key_gets key n = K.number_of (K.master_key_tests (record { flags = 0; algorithm = 1; mac_bytes = 12; key_len = n; key = key }))

pub record Ranged : Type 0 where
  pub local-ports : map (λ (n : ℕ). ports_get (side_with n 7 0 []) (side_with 0 0 0 [])) (6 ∷ 7 ∷ 8 ∷ []) ≡ 0 ∷ 0 ∷ 14 ∷ []
  pub remote-ports : map (λ (n : ℕ). ports_get (side_with 0 0 0 []) (side_with n 7 0 [])) (6 ∷ 7 ∷ 8 ∷ []) ≡ 0 ∷ 0 ∷ 14 ∷ []
  pub prefixes-ipv4 : map (prefix_gets 4 (replicate 16 0)) (0 ∷ 32 ∷ 33 ∷ 255 ∷ []) ≡ 0 ∷ 0 ∷ 15 ∷ 15 ∷ []
  pub prefixes-ipv6 : map (prefix_gets 6 (replicate 16 0)) (0 ∷ 128 ∷ 129 ∷ 255 ∷ []) ≡ 0 ∷ 0 ∷ 15 ∷ 15 ∷ []
  -- 64 is the second bit of its byte
  pub bits-past : map (prefix_gets 4 ((10 ∷ 64 ∷ []) ++ replicate 14 0)) (8 ∷ 9 ∷ 10 ∷ 32 ∷ []) ≡ 15 ∷ 15 ∷ 0 ∷ 0 ∷ []
  pub key-lengths : map (key_gets (replicate 80 0)) (0 ∷ 1 ∷ 80 ∷ 81 ∷ []) ≡ 16 ∷ 0 ∷ 0 ∷ 16 ∷ []
  pub padding : map (key_gets ((1 ∷ 2 ∷ 3 ∷ []) ++ replicate 77 0)) (2 ∷ 3 ∷ []) ≡ 16 ∷ 0 ∷ []

-- Answers. "A verdict is accept with its extension, pass, or drop with a number": accept has the number 0, pass 1.
pub record AnswerNumbers : Type 0 where
  pub accept : (e : ℕ) (i : Index) → verdict_answer (Accept e) i ≡ record { number = 0; table = 0; value = e }
  pub pass : (i : Index) → verdict_answer Pass i ≡ record { number = 1; table = 0; value = 0 }
  pub drop : (n : ℕ) (i : Index) → verdict_answer (Drop n) i ≡ record { number = n; table = i.table; value = i.entry }

-- "Otherwise the answer is 28 or 36.": a position's answer has that number exactly where the row of 28 or 36 applies, and else the position
-- that the rest of the call goes by
abbrev pub PlaceAnswers : Type 0
PlaceAnswers = (n : ℕ) (x : Place) → place_answer n x ≡ cond (located x) (answer 0 (value x)) (answer n 0)

-- Counts. "Counts of acceptances and of each drop stop at 2^64-1."
pub record CountsStop : Type 0 where
  pub below : (n : ℕ) → n < 18446744073709551615 → bump n ≡ n + 1
  pub there : bump 18446744073709551615 ≡ 18446744073709551615

-- Traffic keys.

-- a connection from 10.11.12.13, port 59863, ISN 100, to 172.27.28.29, port 179, ISN 4294967280, as its first end holds it: open, and
-- opening
abbrev pub ends : Pair
ends =
    record {
      family = 4;
      local_port = 59863;
      remote_port = 179;
      local = (10 ∷ 11 ∷ 12 ∷ 13 ∷ []) ++ replicate 12 0;
      remote = (172 ∷ 27 ∷ 28 ∷ 29 ∷ []) ++ replicate 12 0;
    }

abbrev pub open_end : Connection
open_end = record { stage = 1; way = 0; pair = ends; isn = 100; peer_isn = 4294967280 }

abbrev pub opening_end : Connection
opening_end = record { stage = 0; way = 0; pair = ends; isn = 100; peer_isn = 0 }

-- "The context is source address, destination address, source port, destination port, source ISN, destination ISN"
abbrev pub Context : Type 0
Context = (f : Flow)
    → context f
    ≡ f.source
    ++ f.destination
    ++ (f.source_port / 256 % 256 ∷ f.source_port % 256 ∷ [])
    ++ (f.destination_port / 256 % 256 ∷ f.destination_port % 256 ∷ [])
    ++ (f.source_isn / 16777216 % 256 ∷ f.source_isn / 65536 % 256 ∷ f.source_isn / 256 % 256 ∷ f.source_isn % 256 ∷ [])
    ++ (f.destination_isn / 16777216 % 256 ∷ f.destination_isn / 65536 % 256 ∷ f.destination_isn / 256 % 256 ∷ f.destination_isn % 256 ∷ [])

-- "'source' is whoever sent the segment": of what leaves the first end, of what arrives there; "For a bare SYN (SYN set, ACK clear) the
-- destination ISN is zero."
pub record Contexts : Type 0 where
  pub leaves : context (leaving open_end)
      ≡ 10 ∷ 11 ∷ 12 ∷ 13 ∷ 172 ∷ 27 ∷ 28 ∷ 29 ∷ 233 ∷ 215 ∷ 0 ∷ 179 ∷ 0 ∷ 0 ∷ 0 ∷ 100 ∷ 255 ∷ 255 ∷ 255 ∷ 240 ∷ []
  pub arrives : (s : List ℕ)
      → context (arriving open_end s)
      ≡ 172 ∷ 27 ∷ 28 ∷ 29 ∷ 10 ∷ 11 ∷ 12 ∷ 13 ∷ 0 ∷ 179 ∷ 233 ∷ 215 ∷ 255 ∷ 255 ∷ 255 ∷ 240 ∷ 0 ∷ 0 ∷ 0 ∷ 100 ∷ []
  pub bare-syn : context (leaving opening_end)
      ≡ 10 ∷ 11 ∷ 12 ∷ 13 ∷ 172 ∷ 27 ∷ 28 ∷ 29 ∷ 233 ∷ 215 ∷ 0 ∷ 179 ∷ 0 ∷ 0 ∷ 0 ∷ 100 ∷ 0 ∷ 0 ∷ 0 ∷ 0 ∷ []

-- "The input is one byte 1, the six bytes "TCP-AO", the context, and the output length in bits as two bytes (160 or 128)"
abbrev pub input : Flow → ℕ → ℕ → List ℕ
input f high low = 1 ∷ 84 ∷ 67 ∷ 80 ∷ 45 ∷ 65 ∷ 79 ∷ (context f ++ (high ∷ low ∷ []))

-- "Algorithm 1 applies HMAC-SHA-1 under the master key. Algorithm 2 applies AES-CMAC under the master key if that has 16 bytes; otherwise
-- under AES-CMAC of the master key with an all-zero key."
pub record TrafficKeys : Type 0 where
  pub hmac : (s : Secret) (f : Flow) → s.algorithm ≡ 1 → traffic_key_of s f ≡ hmac_sha1_of (key_of s) (input f 0 160)
  pub cmac-16 : (s : Secret) (f : Flow) → s.algorithm ≡ 2 → length (key_of s) ≡ 16 → traffic_key_of s f ≡ cmac (key_of s) (input f 0 128)
  pub cmac-other : (s : Secret) (f : Flow) → s.algorithm ≡ 2 → (length (key_of s) ≡ 16 → ⊥)
      → traffic_key_of s f ≡ cmac (cmac (replicate 16 0) (key_of s)) (input f 0 128)
  -- Ticket 13: "HMAC-SHA-256, also in place of HMAC-SHA-1 in algorithm 1's key derivation, with output length 256, without an extraction
  -- step"
  pub hmac-256 : (s : Secret) (f : Flow) → s.algorithm ≡ 3 → traffic_key_of s f ≡ hmac_sha256_of (key_of s) (input f 1 0)

-- "It has 20 bytes for IPv4, 44 for IPv6"; the input has "29 or 53 bytes in all"; "traffic key bytes (20 and 16)", of
-- algorithm 3 as many as SHA-256 gives
pub record Lengths : Type 0 where
  pub context-ipv4 : (f : Flow) → length f.source ≡ 4 → length f.destination ≡ 4 → length (context f) ≡ 20
  pub context-ipv6 : (f : Flow) → length f.source ≡ 16 → length f.destination ≡ 16 → length (context f) ≡ 44
  pub input-ipv4 : (f : Flow) (a b : ℕ) → length f.source ≡ 4 → length f.destination ≡ 4 → length (input f a b) ≡ 29
  pub input-ipv6 : (f : Flow) (a b : ℕ) → length f.source ≡ 16 → length f.destination ≡ 16 → length (input f a b) ≡ 53
  pub key-hmac : (s : Secret) (f : Flow) → s.algorithm ≡ 1 → length (traffic_key_of s f) ≡ 20
  pub key-cmac : (s : Secret) (f : Flow) → s.algorithm ≡ 2 → length (traffic_key_of s f) ≡ 16
  pub key-256 : (s : Secret) (f : Flow) → s.algorithm ≡ 3 → length (traffic_key_of s f) ≡ 32

-- What the MAC covers.

-- "the IP pseudo-header as for the checksum, with the whole segment's length": protocol 6 (RFC 9293 §3.1, RFC 8200 §8.1)
pub record PseudoHeaders : Type 0 where
  pub ipv4 : (a b : List ℕ) (n : ℕ) → length a ≡ 4 → pseudo_header a b n ≡ a ++ b ++ (0 ∷ 6 ∷ n / 256 % 256 ∷ n % 256 ∷ [])
  pub ipv6 : (a b : List ℕ) (n : ℕ) → length a ≡ 16
      → pseudo_header a b n ≡ a ++ b ++ (n / 16777216 % 256 ∷ n / 65536 % 256 ∷ n / 256 % 256 ∷ n % 256 ∷ 0 ∷ 0 ∷ 0 ∷ 6 ∷ [])

-- "In this order: the extension (4 bytes); the IP pseudo-header ..; the TCP header ..; the data."
abbrev pub MessageOrder : Type 0
MessageOrder = (s : Secret) (h : Hidden) (f : Flow) (e at : ℕ) (segment : List ℕ)
    → message s h f e at segment
    ≡ (e / 16777216 % 256 ∷ e / 65536 % 256 ∷ e / 256 % 256 ∷ e % 256 ∷ [])
    ++ pseudo_header f.source f.destination (length segment)
    ++ covered_header (all_options s) at s.mac_bytes (ports_blanked_of h (take (header_end_of segment) segment))
    ++ drop (header_end_of segment) segment

-- "The leftmost 12 bytes are the MAC."; Ticket 4: "no longer .. twelve bytes but the leftmost n"; Ticket 10: of a hidden side zeros stand
-- "in the traffic key context and in the MAC's pseudo-header", and in the message's header
pub record SegmentMacs : Type 0 where
  pub hmac : (s : Secret) (h : Hidden) (f : Flow) (e at n : ℕ) (segment : List ℕ) → s.algorithm ≡ 1 → s.mac_bytes ≡ n
      → segment_mac s h f e at segment ≡ take n (hmac_sha1_of (traffic_key_of s (blanked h f)) (message s h (blanked h f) e at segment))
  pub cmac : (s : Secret) (h : Hidden) (f : Flow) (e at n : ℕ) (segment : List ℕ) → s.algorithm ≡ 2 → s.mac_bytes ≡ n
      → segment_mac s h f e at segment ≡ take n (cmac (traffic_key_of s (blanked h f)) (message s h (blanked h f) e at segment))
  pub hmac-256 : (s : Secret) (h : Hidden) (f : Flow) (e at n : ℕ) (segment : List ℕ) → s.algorithm ≡ 3 → s.mac_bytes ≡ n
      → segment_mac s h f e at segment ≡ take n (hmac_sha256_of (traffic_key_of s (blanked h f)) (message s h (blanked h f) e at segment))

-- What is signed: the MAC of the segment with zeros for it; ports and addresses are sent as they are, whatever is hidden from the MAC.
abbrev pub SignedAs : Type 0
SignedAs = (e : Entry) (q : State) (x : ℕ) (s : List ℕ) → is_md5_of q.conn ≡ false
    → signed_segment e q x s
    ≡ with_checksum_of (local_address q.conn.pair) (remote_address q.conn.pair)
    (signed_with q.send_id q.ask_id
    (segment_mac e.secret (hides_leaving e.secret) (leaving q.conn) (extension_of_lem x) 20
    (signed_with q.send_id q.ask_id (replicate e.secret.mac_bytes 0) s))
    s)

-- A segment that arrives on the open connection, 27 bytes: four options of kind 1, three bytes of data.
abbrev pub unsigned : List ℕ
unsigned =
    0 ∷ 179 ∷ 233 ∷ 215 ∷ 0 ∷ 0 ∷ 0 ∷ 16 ∷ 1 ∷ 2 ∷ 3 ∷ 4 ∷ 96 ∷ 16 ∷ 128 ∷ 0 ∷ 18 ∷ 52 ∷ 7 ∷ 8
    ∷ 1 ∷ 1 ∷ 1 ∷ 1 ∷ 97 ∷ 98 ∷ 99 ∷ []

abbrev pub mac : List ℕ
mac = 201 ∷ 202 ∷ 203 ∷ 204 ∷ 205 ∷ 206 ∷ 207 ∷ 208 ∷ 209 ∷ 210 ∷ 211 ∷ 212 ∷ []

-- "Signing puts TCP-AO directly after byte 20, the old options behind it, raises the data offset by 4, and writes checksum zero."
-- (under the MAC; the right checksum comes behind it)
abbrev pub signed_bytes : List ℕ
signed_bytes =
    0 ∷ 179 ∷ 233 ∷ 215 ∷ 0 ∷ 0 ∷ 0 ∷ 16 ∷ 1 ∷ 2 ∷ 3 ∷ 4 ∷ 160 ∷ 16 ∷ 128 ∷ 0 ∷ 0 ∷ 0 ∷ 7 ∷ 8
    ∷ 29 ∷ 16 ∷ 84 ∷ 61 ∷ 201 ∷ 202 ∷ 203 ∷ 204 ∷ 205 ∷ 206 ∷ 207 ∷ 208 ∷ 209 ∷ 210 ∷ 211 ∷ 212
    ∷ 1 ∷ 1 ∷ 1 ∷ 1 ∷ 97 ∷ 98 ∷ 99 ∷ []

abbrev pub SignedExample : Type 0
SignedExample = signed_with 84 61 mac unsigned ≡ signed_bytes

-- Ticket 5: "the right TCP checksum over the pseudo-header, for both families and odd lengths": of these 43 bytes
pub record CheckedExamples : Type 0 where
  pub ipv4 : with_checksum_of (172 ∷ 27 ∷ 28 ∷ 29 ∷ []) (10 ∷ 11 ∷ 12 ∷ 13 ∷ []) signed_bytes ≡ rechecked 251 50 signed_bytes
  pub ipv6 : with_checksum_of ((32 ∷ 1 ∷ []) ++ replicate 13 0 ++ (1 ∷ [])) ((32 ∷ 1 ∷ []) ++ replicate 13 0 ++ (2 ∷ [])) signed_bytes
      ≡ rechecked 153 126 signed_bytes

-- Ticket 4: "The signer pads the option, directly behind it, with kind 1 bytes to the next multiple of four", here of a MAC of five bytes;
-- "the data offset rises by the words of the padded option"
abbrev pub padded_bytes : List ℕ
padded_bytes =
    0 ∷ 179 ∷ 233 ∷ 215 ∷ 0 ∷ 0 ∷ 0 ∷ 16 ∷ 1 ∷ 2 ∷ 3 ∷ 4 ∷ 144 ∷ 16 ∷ 128 ∷ 0 ∷ 0 ∷ 0 ∷ 7 ∷ 8
    ∷ 29 ∷ 9 ∷ 84 ∷ 61 ∷ 201 ∷ 202 ∷ 203 ∷ 204 ∷ 205 ∷ 1 ∷ 1 ∷ 1
    ∷ 1 ∷ 1 ∷ 1 ∷ 1 ∷ 97 ∷ 98 ∷ 99 ∷ []

abbrev pub PaddedExample : Type 0
PaddedExample = signed_with 84 61 (201 ∷ 202 ∷ 203 ∷ 204 ∷ 205 ∷ []) unsigned ≡ padded_bytes

abbrev pub secret_for : ℕ → ℕ → Secret
secret_for n flags = record { flags = flags; algorithm = 1; mac_bytes = n; key_len = 1; key = replicate 80 0 }

abbrev pub secret : ℕ → Secret
secret flags = secret_for 12 flags

-- What the MAC covers, with extension 1, of a segment that arrives at the first end and of one that leaves it.
abbrev pub arrives_as : Secret → List ℕ → List ℕ
arrives_as s segment = message s (hides_arriving s) (blanked (hides_arriving s) (arriving open_end [])) 1 20 segment

abbrev pub leaves_as : Secret → List ℕ → List ℕ
leaves_as s segment = message s (hides_leaving s) (blanked (hides_leaving s) (leaving open_end)) 1 20 segment

-- "the TCP header with checksum and MAC bytes zero"; "With flag 0 only the header's first 20 bytes, data offset as sent, and TCP-AO
-- remain."
pub record Covered : Type 0 where
  pub all-options : arrives_as (secret 1) signed_bytes
      ≡ 0 ∷ 0 ∷ 0 ∷ 1 ∷ 172 ∷ 27 ∷ 28 ∷ 29 ∷ 10 ∷ 11 ∷ 12 ∷ 13 ∷ 0 ∷ 6 ∷ 0 ∷ 43
      ∷ 0 ∷ 179 ∷ 233 ∷ 215 ∷ 0 ∷ 0 ∷ 0 ∷ 16 ∷ 1 ∷ 2 ∷ 3 ∷ 4 ∷ 160 ∷ 16 ∷ 128 ∷ 0 ∷ 0 ∷ 0 ∷ 7 ∷ 8
      ∷ 29 ∷ 16 ∷ 84 ∷ 61 ∷ 0 ∷ 0 ∷ 0 ∷ 0 ∷ 0 ∷ 0 ∷ 0 ∷ 0 ∷ 0 ∷ 0 ∷ 0 ∷ 0
      ∷ 1 ∷ 1 ∷ 1 ∷ 1 ∷ 97 ∷ 98 ∷ 99 ∷ []
  pub only-ao : arrives_as (secret 0) signed_bytes
      ≡ 0 ∷ 0 ∷ 0 ∷ 1 ∷ 172 ∷ 27 ∷ 28 ∷ 29 ∷ 10 ∷ 11 ∷ 12 ∷ 13 ∷ 0 ∷ 6 ∷ 0 ∷ 43
      ∷ 0 ∷ 179 ∷ 233 ∷ 215 ∷ 0 ∷ 0 ∷ 0 ∷ 16 ∷ 1 ∷ 2 ∷ 3 ∷ 4 ∷ 160 ∷ 16 ∷ 128 ∷ 0 ∷ 0 ∷ 0 ∷ 7 ∷ 8
      ∷ 29 ∷ 16 ∷ 84 ∷ 61 ∷ 0 ∷ 0 ∷ 0 ∷ 0 ∷ 0 ∷ 0 ∷ 0 ∷ 0 ∷ 0 ∷ 0 ∷ 0 ∷ 0
      ∷ 97 ∷ 98 ∷ 99 ∷ []
  -- the padding is no part of TCP-AO
  pub all-padded : arrives_as (secret_for 5 1) padded_bytes
      ≡ 0 ∷ 0 ∷ 0 ∷ 1 ∷ 172 ∷ 27 ∷ 28 ∷ 29 ∷ 10 ∷ 11 ∷ 12 ∷ 13 ∷ 0 ∷ 6 ∷ 0 ∷ 39
      ∷ 0 ∷ 179 ∷ 233 ∷ 215 ∷ 0 ∷ 0 ∷ 0 ∷ 16 ∷ 1 ∷ 2 ∷ 3 ∷ 4 ∷ 144 ∷ 16 ∷ 128 ∷ 0 ∷ 0 ∷ 0 ∷ 7 ∷ 8
      ∷ 29 ∷ 9 ∷ 84 ∷ 61 ∷ 0 ∷ 0 ∷ 0 ∷ 0 ∷ 0 ∷ 1 ∷ 1 ∷ 1 ∷ 1 ∷ 1 ∷ 1 ∷ 1 ∷ 97 ∷ 98 ∷ 99 ∷ []
  pub only-padded : arrives_as (secret_for 5 0) padded_bytes
      ≡ 0 ∷ 0 ∷ 0 ∷ 1 ∷ 172 ∷ 27 ∷ 28 ∷ 29 ∷ 10 ∷ 11 ∷ 12 ∷ 13 ∷ 0 ∷ 6 ∷ 0 ∷ 39
      ∷ 0 ∷ 179 ∷ 233 ∷ 215 ∷ 0 ∷ 0 ∷ 0 ∷ 16 ∷ 1 ∷ 2 ∷ 3 ∷ 4 ∷ 144 ∷ 16 ∷ 128 ∷ 0 ∷ 0 ∷ 0 ∷ 7 ∷ 8
      ∷ 29 ∷ 9 ∷ 84 ∷ 61 ∷ 0 ∷ 0 ∷ 0 ∷ 0 ∷ 0 ∷ 97 ∷ 98 ∷ 99 ∷ []

-- Ticket 10: "that side's address and port count as zero in the traffic key context", ISNs as they are: of what arrives at the first end,
-- of what leaves it, of a bare SYN that leaves and of one that arrives without a state
abbrev pub arriving_context : ℕ → List ℕ
arriving_context flags = context (blanked (hides_arriving (secret flags)) (arriving open_end []))

abbrev pub leaving_context : ℕ → Connection → List ℕ
leaving_context flags l = context (blanked (hides_leaving (secret flags)) (leaving l))

-- the segment without TCP-AO, as a bare SYN
abbrev pub bare_syn_of : Arrival
bare_syn_of = record { source = 172 ∷ 27 ∷ 28 ∷ 29 ∷ []; destination = 10 ∷ 11 ∷ 12 ∷ 13 ∷ []; segment = unsigned }

pub record HiddenContexts : Type 0 where
  pub arrives-remote : arriving_context 4
      ≡ 0 ∷ 0 ∷ 0 ∷ 0 ∷ 10 ∷ 11 ∷ 12 ∷ 13 ∷ 0 ∷ 0 ∷ 233 ∷ 215 ∷ 255 ∷ 255 ∷ 255 ∷ 240 ∷ 0 ∷ 0 ∷ 0 ∷ 100 ∷ []
  pub arrives-local : arriving_context 2
      ≡ 172 ∷ 27 ∷ 28 ∷ 29 ∷ 0 ∷ 0 ∷ 0 ∷ 0 ∷ 0 ∷ 179 ∷ 0 ∷ 0 ∷ 255 ∷ 255 ∷ 255 ∷ 240 ∷ 0 ∷ 0 ∷ 0 ∷ 100 ∷ []
  pub arrives_both : arriving_context 6
      ≡ 0 ∷ 0 ∷ 0 ∷ 0 ∷ 0 ∷ 0 ∷ 0 ∷ 0 ∷ 0 ∷ 0 ∷ 0 ∷ 0 ∷ 255 ∷ 255 ∷ 255 ∷ 240 ∷ 0 ∷ 0 ∷ 0 ∷ 100 ∷ []
  pub leaves-remote : leaving_context 4 open_end
      ≡ 10 ∷ 11 ∷ 12 ∷ 13 ∷ 0 ∷ 0 ∷ 0 ∷ 0 ∷ 233 ∷ 215 ∷ 0 ∷ 0 ∷ 0 ∷ 0 ∷ 0 ∷ 100 ∷ 255 ∷ 255 ∷ 255 ∷ 240 ∷ []
  pub leaves-local : leaving_context 2 open_end
      ≡ 0 ∷ 0 ∷ 0 ∷ 0 ∷ 172 ∷ 27 ∷ 28 ∷ 29 ∷ 0 ∷ 0 ∷ 0 ∷ 179 ∷ 0 ∷ 0 ∷ 0 ∷ 100 ∷ 255 ∷ 255 ∷ 255 ∷ 240 ∷ []
  pub bare-syn-leaves : leaving_context 2 opening_end
      ≡ 0 ∷ 0 ∷ 0 ∷ 0 ∷ 172 ∷ 27 ∷ 28 ∷ 29 ∷ 0 ∷ 0 ∷ 0 ∷ 179 ∷ 0 ∷ 0 ∷ 0 ∷ 100 ∷ 0 ∷ 0 ∷ 0 ∷ 0 ∷ []
  pub bare-syn-arrives : context (blanked (hides_arriving (secret 4)) (arriving_syn bare_syn_of))
      ≡ 0 ∷ 0 ∷ 0 ∷ 0 ∷ 10 ∷ 11 ∷ 12 ∷ 13 ∷ 0 ∷ 0 ∷ 233 ∷ 215 ∷ 0 ∷ 0 ∷ 0 ∷ 16 ∷ 0 ∷ 0 ∷ 0 ∷ 0 ∷ []
  -- as many zero bytes as the address has
  pub ipv6 : (h : Hidden) (f : Flow) → h.source ≡ true → length f.source ≡ 16
      → (blanked h f).source ≡ 0 ∷ 0 ∷ 0 ∷ 0 ∷ 0 ∷ 0 ∷ 0 ∷ 0 ∷ 0 ∷ 0 ∷ 0 ∷ 0 ∷ 0 ∷ 0 ∷ 0 ∷ 0 ∷ []

-- "and in the MAC's pseudo-header and header": with all options covered, and with TCP-AO alone. The length stays that of the segment. Of
-- what arrives the source is the remote side, of what leaves (here with the ports exchanged) the local one.
abbrev pub leaving_bytes : List ℕ
leaving_bytes = (233 ∷ 215 ∷ 0 ∷ 179 ∷ []) ++ drop 4 signed_bytes

pub record HiddenCovered : Type 0 where
  pub arrives-remote : arrives_as (secret 5) signed_bytes
      ≡ 0 ∷ 0 ∷ 0 ∷ 1 ∷ 0 ∷ 0 ∷ 0 ∷ 0 ∷ 10 ∷ 11 ∷ 12 ∷ 13 ∷ 0 ∷ 6 ∷ 0 ∷ 43
      ∷ 0 ∷ 0 ∷ 233 ∷ 215 ∷ 0 ∷ 0 ∷ 0 ∷ 16 ∷ 1 ∷ 2 ∷ 3 ∷ 4 ∷ 160 ∷ 16 ∷ 128 ∷ 0 ∷ 0 ∷ 0 ∷ 7 ∷ 8
      ∷ 29 ∷ 16 ∷ 84 ∷ 61 ∷ 0 ∷ 0 ∷ 0 ∷ 0 ∷ 0 ∷ 0 ∷ 0 ∷ 0 ∷ 0 ∷ 0 ∷ 0 ∷ 0
      ∷ 1 ∷ 1 ∷ 1 ∷ 1 ∷ 97 ∷ 98 ∷ 99 ∷ []
  pub arrives-local : arrives_as (secret 3) signed_bytes
      ≡ 0 ∷ 0 ∷ 0 ∷ 1 ∷ 172 ∷ 27 ∷ 28 ∷ 29 ∷ 0 ∷ 0 ∷ 0 ∷ 0 ∷ 0 ∷ 6 ∷ 0 ∷ 43
      ∷ 0 ∷ 179 ∷ 0 ∷ 0 ∷ 0 ∷ 0 ∷ 0 ∷ 16 ∷ 1 ∷ 2 ∷ 3 ∷ 4 ∷ 160 ∷ 16 ∷ 128 ∷ 0 ∷ 0 ∷ 0 ∷ 7 ∷ 8
      ∷ 29 ∷ 16 ∷ 84 ∷ 61 ∷ 0 ∷ 0 ∷ 0 ∷ 0 ∷ 0 ∷ 0 ∷ 0 ∷ 0 ∷ 0 ∷ 0 ∷ 0 ∷ 0
      ∷ 1 ∷ 1 ∷ 1 ∷ 1 ∷ 97 ∷ 98 ∷ 99 ∷ []
  pub arrives_both : arrives_as (secret 7) signed_bytes
      ≡ 0 ∷ 0 ∷ 0 ∷ 1 ∷ 0 ∷ 0 ∷ 0 ∷ 0 ∷ 0 ∷ 0 ∷ 0 ∷ 0 ∷ 0 ∷ 6 ∷ 0 ∷ 43
      ∷ 0 ∷ 0 ∷ 0 ∷ 0 ∷ 0 ∷ 0 ∷ 0 ∷ 16 ∷ 1 ∷ 2 ∷ 3 ∷ 4 ∷ 160 ∷ 16 ∷ 128 ∷ 0 ∷ 0 ∷ 0 ∷ 7 ∷ 8
      ∷ 29 ∷ 16 ∷ 84 ∷ 61 ∷ 0 ∷ 0 ∷ 0 ∷ 0 ∷ 0 ∷ 0 ∷ 0 ∷ 0 ∷ 0 ∷ 0 ∷ 0 ∷ 0
      ∷ 1 ∷ 1 ∷ 1 ∷ 1 ∷ 97 ∷ 98 ∷ 99 ∷ []
  pub leaves-local : leaves_as (secret 3) leaving_bytes
      ≡ 0 ∷ 0 ∷ 0 ∷ 1 ∷ 0 ∷ 0 ∷ 0 ∷ 0 ∷ 172 ∷ 27 ∷ 28 ∷ 29 ∷ 0 ∷ 6 ∷ 0 ∷ 43
      ∷ 0 ∷ 0 ∷ 0 ∷ 179 ∷ 0 ∷ 0 ∷ 0 ∷ 16 ∷ 1 ∷ 2 ∷ 3 ∷ 4 ∷ 160 ∷ 16 ∷ 128 ∷ 0 ∷ 0 ∷ 0 ∷ 7 ∷ 8
      ∷ 29 ∷ 16 ∷ 84 ∷ 61 ∷ 0 ∷ 0 ∷ 0 ∷ 0 ∷ 0 ∷ 0 ∷ 0 ∷ 0 ∷ 0 ∷ 0 ∷ 0 ∷ 0
      ∷ 1 ∷ 1 ∷ 1 ∷ 1 ∷ 97 ∷ 98 ∷ 99 ∷ []
  pub leaves-remote : leaves_as (secret 5) leaving_bytes
      ≡ 0 ∷ 0 ∷ 0 ∷ 1 ∷ 10 ∷ 11 ∷ 12 ∷ 13 ∷ 0 ∷ 0 ∷ 0 ∷ 0 ∷ 0 ∷ 6 ∷ 0 ∷ 43
      ∷ 233 ∷ 215 ∷ 0 ∷ 0 ∷ 0 ∷ 0 ∷ 0 ∷ 16 ∷ 1 ∷ 2 ∷ 3 ∷ 4 ∷ 160 ∷ 16 ∷ 128 ∷ 0 ∷ 0 ∷ 0 ∷ 7 ∷ 8
      ∷ 29 ∷ 16 ∷ 84 ∷ 61 ∷ 0 ∷ 0 ∷ 0 ∷ 0 ∷ 0 ∷ 0 ∷ 0 ∷ 0 ∷ 0 ∷ 0 ∷ 0 ∷ 0
      ∷ 1 ∷ 1 ∷ 1 ∷ 1 ∷ 97 ∷ 98 ∷ 99 ∷ []
  pub only-ao-arrives : arrives_as (secret 4) signed_bytes
      ≡ 0 ∷ 0 ∷ 0 ∷ 1 ∷ 0 ∷ 0 ∷ 0 ∷ 0 ∷ 10 ∷ 11 ∷ 12 ∷ 13 ∷ 0 ∷ 6 ∷ 0 ∷ 43
      ∷ 0 ∷ 0 ∷ 233 ∷ 215 ∷ 0 ∷ 0 ∷ 0 ∷ 16 ∷ 1 ∷ 2 ∷ 3 ∷ 4 ∷ 160 ∷ 16 ∷ 128 ∷ 0 ∷ 0 ∷ 0 ∷ 7 ∷ 8
      ∷ 29 ∷ 16 ∷ 84 ∷ 61 ∷ 0 ∷ 0 ∷ 0 ∷ 0 ∷ 0 ∷ 0 ∷ 0 ∷ 0 ∷ 0 ∷ 0 ∷ 0 ∷ 0
      ∷ 97 ∷ 98 ∷ 99 ∷ []
  pub only-ao-leaves : leaves_as (secret 2) leaving_bytes
      ≡ 0 ∷ 0 ∷ 0 ∷ 1 ∷ 0 ∷ 0 ∷ 0 ∷ 0 ∷ 172 ∷ 27 ∷ 28 ∷ 29 ∷ 0 ∷ 6 ∷ 0 ∷ 43
      ∷ 0 ∷ 0 ∷ 0 ∷ 179 ∷ 0 ∷ 0 ∷ 0 ∷ 16 ∷ 1 ∷ 2 ∷ 3 ∷ 4 ∷ 160 ∷ 16 ∷ 128 ∷ 0 ∷ 0 ∷ 0 ∷ 7 ∷ 8
      ∷ 29 ∷ 16 ∷ 84 ∷ 61 ∷ 0 ∷ 0 ∷ 0 ∷ 0 ∷ 0 ∷ 0 ∷ 0 ∷ 0 ∷ 0 ∷ 0 ∷ 0 ∷ 0
      ∷ 97 ∷ 98 ∷ 99 ∷ []
