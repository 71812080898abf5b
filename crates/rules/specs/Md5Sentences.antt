-- Document 02, Ticket 9, said of the definitions once more and apart from them, as Sentences.antt does for TCP-AO: the numbers of the MD5
-- way row by row, the MD5 table's bytes, what RFC 2385's digest is of, and what is signed, as numerals. Md5SentenceLaws proves each.
use Rattle.std.specs.Prelude.{ℕ, ◌-◌, ◌≡◌, Bool, true, false, not, ◌&&◌, List, [], ◌∷◌, ◌++◌, map, length, take, drop, replicate, eqb, ltb}
use Rattle.std.specs.Prelude.{Some}
use Rattle.octets.specs.Tests.{Test}
use Rattle.mac.specs.Md5.{md5 as hash}
use Rattle.wire.specs.Bytes.{same_bytes}
use Rattle.wire.specs.Header.{sequence, header_end_of, syn, well_sized_of}
use Rattle.wire.specs.Options.{options_of, md5_in}
use Rattle.wire.specs.declared.options.Occurrence.{Occurrence}
use Rattle.keys.specs.declared.entry.Entry.{Entry}
use Rattle.keys.specs.Table.{Found}
use Rattle.keys.specs.declared.table.TableKind.TheVariants.{Md5}
use Rattle.keys.specs.Algorithm.{mac_bytes_of}
use Rattle.keys.specs.Entry.{Item, item, entry_of, key_of}
use Rattle.keys.specs.Table as K
use Rattle.tables.specs.Tables.{refused_with, Tables, admitted, md5_entry}
use Rattle.rules.specs.declared.Outcome.TheVariants.{Good}
use Rattle.rules.specs.declared.Connection.{Connection}
use Rattle.rules.specs.declared.State.{State}
use Rattle.rules.specs.Mac.{pseudo_header}
use Rattle.rules.specs.Digest.{digest_input, segment_digest}
use Rattle.rules.specs.Checksum.{with_checksum_of}
use Rattle.rules.specs.Ends.{rechecked}
use Rattle.rules.specs.Segment.{ao, md5, digest_in, digested_with}
use Rattle.rules.specs.Connection.{Arrival, arrival_pair_of, pair_of_lem, local_address, remote_address, is_md5_of, opening, empty}
use Rattle.rules.specs.Calls.{syn_is_md5, check, check_syn_of, unrefused, settled_by_lem, opened_actively_md5, check_sign, signed_segment}
use Rattle.rules.specs.Sentences.{NumberRow, row, first_of, arrival_rows, bare_rows, sign_rows, open_rows, ends, unsigned}
use Rattle.rules.specs.Inhabited.{entry4, md5_entry4, md5_entry6}

-- The table of numbers.

-- 29: "a wrong digest", between the addresses from and to
abbrev pub wrong_digest : Entry → List ℕ → List ℕ → List ℕ → Bool
wrong_digest e from to s = not (same_bytes (digest_in s) (segment_digest (key_of e.secret) from to s))

-- "The MD5 way drops kind 29 alone with 46 and an unsigned segment with 47, both tested before 25, .. and kind 19 with no entry with 26";
-- "a length other than 18 gives 27, a wrong digest 29". 25 and 28 have no row.
abbrev pub judge_rows_md5 : Tables → Connection → Found → Arrival → List NumberRow
judge_rows_md5 t l found a =
    arrival_rows t l a
    ++ (row 46 (ltb 0 (ao a.segment).count ∷ [])
    ∷ row 47 (eqb (md5 a.segment).count 0 ∷ [])
    ∷ row 26 (not found.there ∷ [])
    ∷ row 27 (not (eqb (md5 a.segment).len 18) ∷ [])
    ∷ row 29 (wrong_digest found.entry (remote_address l.pair) (local_address l.pair) a.segment ∷ [])
    ∷ [])

-- the entry is found by the pair alone
abbrev pub JudgeTableMd5 : Type 0
JudgeTableMd5 = (t : Tables) (l : Connection) (reference : ℕ) (a : Arrival) → is_md5_of l ≡ true
    → check t l reference a ≡ first_of (judge_rows_md5 t l (md5_entry t l.pair) a) (Good (sequence a.segment) 0)

-- a bare SYN "without one by the table that matches": an entry is there, so 26 has no row
abbrev pub syn_rows_md5 : Tables → Found → Arrival → List NumberRow
syn_rows_md5 t found a =
    bare_rows t a
    ++ (row 46 (ltb 0 (ao a.segment).count ∷ [])
    ∷ row 47 (eqb (md5 a.segment).count 0 ∷ [])
    ∷ row 27 (not (eqb (md5 a.segment).len 18) ∷ [])
    ∷ row 29 (wrong_digest found.entry a.source a.destination a.segment ∷ [])
    ∷ [])

abbrev pub SynTableMd5 : Type 0
SynTableMd5 = (t : Tables) (a : Arrival) (strict : Bool) → syn_is_md5 t (arrival_pair_of a) ≡ true
    → check_syn_of t a strict ≡ first_of (syn_rows_md5 t (md5_entry t (arrival_pair_of a)) a) (Good (sequence a.segment) 0)

-- signing: "35" where no entry matches the pair; 32 counts five words; "36 only for a SYN whose number is not our ISN"
abbrev pub SignTableMd5 : Type 0
SignTableMd5 = (t : Tables) (s : List ℕ) (room : ℕ) (q : State) → is_md5_of q.conn ≡ true
    → check_sign t s room q
    ≡ first_of (sign_rows t s room q (md5_entry t q.conn.pair).there ((syn s && not (eqb (sequence s) q.conn.isn)) ∷ []) 5)
    (Good (sequence s) q.ask_id)

-- opening actively by MD5 names no SendID: "35" where no entry matches the pair; the way is 1, and the IDs are 0
abbrev pub OpenActiveMd5Table : Type 0
OpenActiveMd5Table = (t : Tables) (local remote : List ℕ) (local_port remote_port isn : ℕ)
    → opened_actively_md5 t local remote local_port remote_port isn
    ≡ settled_by_lem (first_of (open_rows t local remote (md5_entry t (pair_of_lem local remote local_port remote_port))) unrefused) empty
    (opening 1 (pair_of_lem local remote local_port remote_port) isn 0 0)

-- way 1 is MD5, every other TCP-AO
abbrev pub WayNumbers : Type 0
WayNumbers = map (λ (w : ℕ). is_md5_of (record { stage = 1; way = w; pair = ends; isn = 100; peer_isn = 4294967280 }))
    (0 ∷ 1 ∷ 2 ∷ 255 ∷ [])
    ≡ false ∷ true ∷ false ∷ false ∷ []

-- The MD5 table's bytes: an entry of kind 4 or 6, with flags 0, algorithm 19, SendID 0 and RecvID 0.

abbrev pub EntryOrderMd5 : Type 0
EntryOrderMd5 = (limit i : ℕ) (before : List Entry) (x : Item)
    → map (λ (r : Test ℕ). r.gives) (K.load_tests Md5 limit i before x)
    ≡ 12 ∷ 11 ∷ 10 ∷ 13 ∷ 13 ∷ 13 ∷ 13 ∷ 14 ∷ 14 ∷ 15 ∷ 15 ∷ 15 ∷ 15 ∷ 16 ∷ 16 ∷ 16 ∷ 17 ∷ []

-- of flags, algorithm, SendID and RecvID, what an entry gets for these four; 0 is nothing
abbrev pub listed_md5 : ℕ → ℕ → ℕ → ℕ → ℕ
listed_md5 flags algorithm send_id recv_id =
    K.number_of
    (K.md5_tests (record { flags = flags; algorithm = algorithm; mac_bytes = 16; key_len = 1; key = [] })
    (record { send = send_id; recv = recv_id }))

pub record ListedMd5 : Type 0 where
  pub kinds : map (λ (k : ℕ). K.kind_listed_of Md5 (item (k ∷ []))) (3 ∷ 4 ∷ 5 ∷ 6 ∷ 7 ∷ 8 ∷ [])
      ≡ false ∷ true ∷ false ∷ true ∷ false ∷ false ∷ []
  pub flags : map (λ (f : ℕ). listed_md5 f 19 0 0) (0 ∷ 1 ∷ 2 ∷ 4 ∷ 255 ∷ []) ≡ 0 ∷ 13 ∷ 13 ∷ 13 ∷ 13 ∷ []
  pub algorithms : map (λ (a : ℕ). listed_md5 0 a 0 0) (1 ∷ 2 ∷ 3 ∷ 18 ∷ 19 ∷ 20 ∷ []) ≡ 13 ∷ 13 ∷ 13 ∷ 13 ∷ 0 ∷ 13 ∷ []
  pub ids : map (λ (i : ℕ). listed_md5 0 19 i 0) (0 ∷ 1 ∷ 255 ∷ []) ≡ 0 ∷ 13 ∷ 13 ∷ []
  pub asked-ids : map (λ (i : ℕ). listed_md5 0 19 0 i) (0 ∷ 1 ∷ 255 ∷ []) ≡ 0 ∷ 13 ∷ 13 ∷ []
  pub digest : mac_bytes_of 19 ≡ 16

-- 45, of the tables' bytes: an MD5 entry for every IPv6 pair and behind it one for every IPv4 pair, beside a key entry for every IPv4 pair
abbrev pub CrossedExample : Type 0
CrossedExample = admitted (entry4 1 61 84) (md5_entry6 ++ md5_entry4) ≡ refused_with 45 (record { table = 1; entry = 1 })

-- the key of an MD5 entry, as its bytes have it
pub record Md5Keys : Type 0 where
  pub ipv4 : key_of (entry_of md5_entry4).secret ≡ 3 ∷ 4 ∷ []
  pub ipv6 : key_of (entry_of md5_entry6).secret ≡ 5 ∷ []

-- The digest: RFC 2385, section 2.0, "1. the TCP pseudo-header .. 2. the TCP header, excluding options, and assuming a checksum of zero
-- 3. the TCP segment data (if any) 4. an independently-specified key or password"
abbrev pub DigestOf : Type 0
DigestOf = (key source destination s : List ℕ) → well_sized_of s ≡ true
    → segment_digest key source destination s
    ≡ hash
    (pseudo_header source destination (length s) ++ (take 16 s ++ (0 ∷ 0 ∷ take 2 (drop 18 s))) ++ (drop (header_end_of s) s ++ key))

-- What is signed: the digest of the segment with zeros for it, between the state's own addresses; then the checksum.
abbrev pub SignedAsMd5 : Type 0
SignedAsMd5 = (e : Entry) (q : State) (x : ℕ) (s : List ℕ) → is_md5_of q.conn ≡ true
    → signed_segment e q x s
    ≡ with_checksum_of (local_address q.conn.pair) (remote_address q.conn.pair)
    (digested_with
    (segment_digest (key_of e.secret) (local_address q.conn.pair) (remote_address q.conn.pair) (digested_with (replicate 16 0) s))
    s)

-- "The signer puts it after byte 20 with two kind 1 bytes behind it": the segment of Sentences.antt, whose data offset of six words becomes
-- eleven
abbrev pub digest : List ℕ
digest = 201 ∷ 202 ∷ 203 ∷ 204 ∷ 205 ∷ 206 ∷ 207 ∷ 208 ∷ 209 ∷ 210 ∷ 211 ∷ 212 ∷ 213 ∷ 214 ∷ 215 ∷ 216 ∷ []

abbrev pub md5_bytes : List ℕ
md5_bytes =
    0 ∷ 179 ∷ 233 ∷ 215 ∷ 0 ∷ 0 ∷ 0 ∷ 16 ∷ 1 ∷ 2 ∷ 3 ∷ 4 ∷ 176 ∷ 16 ∷ 128 ∷ 0 ∷ 0 ∷ 0 ∷ 7 ∷ 8
    ∷ 19 ∷ 18 ∷ 201 ∷ 202 ∷ 203 ∷ 204 ∷ 205 ∷ 206 ∷ 207 ∷ 208 ∷ 209 ∷ 210 ∷ 211 ∷ 212 ∷ 213 ∷ 214 ∷ 215 ∷ 216 ∷ 1 ∷ 1
    ∷ 1 ∷ 1 ∷ 1 ∷ 1 ∷ 97 ∷ 98 ∷ 99 ∷ []

abbrev pub SignedExampleMd5 : Type 0
SignedExampleMd5 = digested_with digest unsigned ≡ md5_bytes

-- what the digest is of, with any checksum and the key 75 76: no option is in it, and the key stands last
pub record DigestedBytes : Type 0 where
  pub ipv4 : (c d : ℕ)
      → digest_input (75 ∷ 76 ∷ []) (172 ∷ 27 ∷ 28 ∷ 29 ∷ []) (10 ∷ 11 ∷ 12 ∷ 13 ∷ []) (rechecked c d md5_bytes)
      ≡ 172 ∷ 27 ∷ 28 ∷ 29 ∷ 10 ∷ 11 ∷ 12 ∷ 13 ∷ 0 ∷ 6 ∷ 0 ∷ 47
      ∷ 0 ∷ 179 ∷ 233 ∷ 215 ∷ 0 ∷ 0 ∷ 0 ∷ 16 ∷ 1 ∷ 2 ∷ 3 ∷ 4 ∷ 176 ∷ 16 ∷ 128 ∷ 0 ∷ 0 ∷ 0 ∷ 7 ∷ 8
      ∷ 97 ∷ 98 ∷ 99 ∷ 75 ∷ 76 ∷ []
  -- "for IPv6 over 01's pseudo-header"
  pub ipv6 : (c d : ℕ)
      → digest_input (75 ∷ 76 ∷ []) ((32 ∷ 1 ∷ []) ++ replicate 13 0 ++ (1 ∷ [])) ((32 ∷ 1 ∷ []) ++ replicate 13 0 ++ (2 ∷ []))
      (rechecked c d md5_bytes)
      ≡ 32 ∷ 1 ∷ 0 ∷ 0 ∷ 0 ∷ 0 ∷ 0 ∷ 0 ∷ 0 ∷ 0 ∷ 0 ∷ 0 ∷ 0 ∷ 0 ∷ 0 ∷ 1
      ∷ 32 ∷ 1 ∷ 0 ∷ 0 ∷ 0 ∷ 0 ∷ 0 ∷ 0 ∷ 0 ∷ 0 ∷ 0 ∷ 0 ∷ 0 ∷ 0 ∷ 0 ∷ 2
      ∷ 0 ∷ 0 ∷ 0 ∷ 47 ∷ 0 ∷ 0 ∷ 0 ∷ 6
      ∷ 0 ∷ 179 ∷ 233 ∷ 215 ∷ 0 ∷ 0 ∷ 0 ∷ 16 ∷ 1 ∷ 2 ∷ 3 ∷ 4 ∷ 176 ∷ 16 ∷ 128 ∷ 0 ∷ 0 ∷ 0 ∷ 7 ∷ 8
      ∷ 97 ∷ 98 ∷ 99 ∷ 75 ∷ 76 ∷ []
  -- under the key of an entry's bytes
  pub under-entry : (c d : ℕ)
      → digest_input (key_of (entry_of md5_entry4).secret) (172 ∷ 27 ∷ 28 ∷ 29 ∷ []) (10 ∷ 11 ∷ 12 ∷ 13 ∷ []) (rechecked c d md5_bytes)
      ≡ 172 ∷ 27 ∷ 28 ∷ 29 ∷ 10 ∷ 11 ∷ 12 ∷ 13 ∷ 0 ∷ 6 ∷ 0 ∷ 47
      ∷ 0 ∷ 179 ∷ 233 ∷ 215 ∷ 0 ∷ 0 ∷ 0 ∷ 16 ∷ 1 ∷ 2 ∷ 3 ∷ 4 ∷ 176 ∷ 16 ∷ 128 ∷ 0 ∷ 0 ∷ 0 ∷ 7 ∷ 8
      ∷ 97 ∷ 98 ∷ 99 ∷ 3 ∷ 4 ∷ []

-- the option that was put there is read back: one of kind 19, 18 bytes long, the digest, and no TCP-AO
pub record ReadBack : Type 0 where
  pub count : (md5 md5_bytes).count ≡ 1
  pub length : (md5 md5_bytes).len ≡ 18
  pub digest-in : digest_in md5_bytes ≡ digest
  pub no-ao : (ao md5_bytes).count ≡ 0

-- What an option area holds of kind 19.
abbrev pub read19 : List ℕ → Occurrence
read19 area = md5_in (options_of area)

abbrev pub option19 : ℕ → List ℕ
option19 n = 19 ∷ n ∷ replicate (n - 2) 9

pub record Md5Options : Type 0 where
  pub two : read19 (option19 18 ++ option19 18) ≡ record { count = 2; at = 0; len = 18 }
  -- a length other than 18 is read, and is not malformed
  pub lengths : map (λ (n : ℕ). options_of (option19 n)) (2 ∷ 17 ∷ 19 ∷ 20 ∷ [])
      ≡ map (λ (n : ℕ). Some (record { md5 = record { count = 1; at = 0; len = n }; ao = record { count = 0; at = 0; len = 0 } }))
      (2 ∷ 17 ∷ 19 ∷ 20 ∷ [])
  -- behind kind 1 and an option of four bytes it stands at 5; behind kind 0 it is not seen
  pub behind : read19 ((1 ∷ 2 ∷ 4 ∷ 5 ∷ 180 ∷ []) ++ option19 18) ≡ record { count = 1; at = 5; len = 18 }
  pub behind-end : read19 (0 ∷ option19 18) ≡ record { count = 0; at = 0; len = 0 }
