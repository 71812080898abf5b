-- Document 01's sentences of Sentences.antt, proved.
use Rattle.std.specs.Prelude.{ℕ, ◌+◌, ◌*◌, ◌≡◌, refl, Bool, true, false, cond, not, List, [], ◌∷◌, ◌++◌, length, eqb, ltb, Some}
use Rattle.std.proofs.Common.{ap, ◌∙◌, arith, length-append, lt-ltb, eq-eqb, eqb-true}
use Rattle.octets.specs.Tests.{any, Test, tests, joined, first}
use Rattle.wire.specs.Header.{source_port_of, destination_port_of, sequence, data_offset_of, header_end_of}
use Rattle.wire.specs.Prefix.{clear_to}
use Rattle.checksum.specs.Checksum.{ones_sum, checksum_of, checksummed}
use Rattle.keys.specs.Algorithm.{mac_bytes_of, output_bits_of}
use Rattle.keys.specs.declared.entry.Pair.{Pair}
use Rattle.keys.specs.Table.{Found, number_of}
use Rattle.keys.specs.Entry.{known_kind_of, family_of_lem, extra, body, is_family_of, width, side_of, selector_of_lem, ids_of, mac_length_of, secret_of_lem, entry_of, key_of}
use Rattle.tables.specs.Tables.{Tables, send_entry, recv_entry, any_entry}
use Rattle.rules.specs.Position.{Place}
use Rattle.rules.specs.declared.Outcome.{Outcome}
use Rattle.rules.specs.declared.Outcome.TheVariants.{Good, Passed}
use Rattle.rules.specs.declared.State.{State}
use Rattle.octets.specs.TestLaws.{first-append}
use Rattle.rules.specs.Mac.{context, derivation_input_of, aes_key_of, applied, traffic_key_of, pseudo_header, covered_header, front}
use Rattle.rules.specs.Mac.{message, segment_mac}
use Rattle.rules.specs.Checksum.{segment_sum_of, with_checksum_of}
use Rattle.rules.specs.Segment.{malformed, ao, md5, key_id_of, rnext_key_id, is_bare_syn_of, inserted, with_option, option_bytes, md5_option_bytes}
use Rattle.rules.specs.Connection.{arrival_pair_of, local_address, remote_address, is_open_of, is_md5_of, arriving_syn, place_on_lem, value}
use Rattle.rules.specs.Connection.{pair_of_lem, opening, empty}
use Rattle.rules.specs.Calls.{key_tests, mac_tests, good_by, judge_groups, check, syn_missing_of, syn_unknown_of, syn_groups, check_syn_of}
use Rattle.rules.specs.Calls.{unrefused, settled_by_lem, opened_actively, check_sign, outgoing, added_bytes_of, added_on_lem, authenticated}
use Rattle.rules.specs.Calls.{digested, signed_segment}
use Rattle.rules.proofs.GroupLaws.{key-ao, mac-ao, syn-key-ao, syn-mac-ao}
use Rattle.rules.proofs.DeliveryLaws.{outgoing-ao}
use Rattle.rules.specs.Answers.{verdict_answer}
use Rattle.rules.proofs.MacLaws.{length-context, length-key-1, length-key-2, length-key-3}
use Rattle.rules.proofs.GrowthLaws.{above-15}
use Rattle.rules.specs.Sentences.{NumberRow, bad, row, first_of, bad_size, judge_rows, syn_rows, sign_rows, no_place, entries_row}
use Rattle.rules.specs.Sentences.{JudgeTable, SynTable, SignTable, EntryBytes, Listed, Ranged, open_rows, OpenActiveTable, AskTable}
use Rattle.rules.specs.Sentences.{EntryOrder, AnswerNumbers, CountsStop, Context, Contexts, TrafficKeys, PseudoHeaders, MessageOrder}
use Rattle.rules.specs.Sentences.{Lengths, SegmentMacs, SignedExample, CheckedExamples, PaddedExample, Covered, option_words, SignedAs}
use Rattle.rules.specs.Sentences.{HiddenContexts, HiddenCovered}

-- the tests of rows, one behind another
abbrev pub flat : List NumberRow → List (Test Outcome)
flat [] = []
flat (r ∷ l) = tests r.gives r.tests ++ flat l

first-tests : (o z : Outcome) (l : List Bool) → first (tests o l) z ≡ cond (any l) o z
first-tests o z [] = refl
first-tests o z (true ∷ l) = refl
first-tests o z (false ∷ l) = first-tests o z l

pub first_flat : (l : List NumberRow) (o : Outcome) → first (flat l) o ≡ first_of l o
first_flat [] o = refl
first_flat (r ∷ l) o =
    first-append (tests r.gives r.tests) (flat l) o ∙ first-tests r.gives (first (flat l) o) r.tests
    ∙ ap (cond (any r.tests) r.gives) (first_flat l o)

pub judge-table : JudgeTable
unfolding check segment_sum_of
judge-table t l reference a way =
    let x = place_on_lem l reference (sequence a.segment) in
    let g = judge_groups t l reference a in
    (λ j. first
    (joined
    (g.input ∷ g.size ∷ g.sum ∷ g.form ∷ g.arrival ∷ key-ao t l reference a way j ∷ mac-ao t l reference a way j ∷ []))
    (good_by (way j) x a.segment))
    ∙ first_flat (judge_rows t l (recv_entry t l.pair (key_id_of a.segment)) x a) (Good (value x) (rnext_key_id a.segment))

unknown-row : (t : Tables) (p : Pair) (strict : Bool)
    → syn_unknown_of t p strict ≡ cond (any_entry t p) (bad 26) (cond strict (bad 26) Passed)
unknown-row t p strict = go (any_entry t p) refl
  where
    go : (b : Bool) → any_entry t p ≡ b → syn_unknown_of t p strict ≡ cond (any_entry t p) (bad 26) (cond strict (bad 26) Passed)
    go true e = cc
    go false e = cc

pub syn-table : SynTable
unfolding check_syn_of segment_sum_of
syn-table t a strict way =
    let g = syn_groups t a strict in
    let found = recv_entry t (arrival_pair_of a) (key_id_of a.segment) in
    (λ j. first
    (joined (g.input ∷ g.size ∷ g.sum ∷ g.form ∷ g.arrival ∷ syn-key-ao t a strict way j ∷ syn-mac-ao t a strict way j ∷ []))
    (good_by (way j) (Some (sequence a.segment)) a.segment))
    ∙ (λ j. first
    (joined
    (g.input
    ∷ g.size
    ∷ g.sum
    ∷ g.form
    ∷ g.arrival
    ∷ key_tests (syn_missing_of t (arrival_pair_of a)) (unknown-row t (arrival_pair_of a) strict j) found (Some (sequence a.segment)) a.segment
    ∷ mac_tests found.entry (arriving_syn a) (Some (sequence a.segment)) a.segment ∷ []))
    (Good (sequence a.segment) (rnext_key_id a.segment)))
    ∙ first_flat (syn_rows t strict found a) (Good (sequence a.segment) (rnext_key_id a.segment))

-- Signing: the rows by what is found, how the place is wrong, and the bytes that are added; then with so many words.
abbrev sign_rows_by : Tables → List ℕ → ℕ → State → Bool → List Bool → List Bool → ℕ → List NumberRow
sign_rows_by t s room q there misplaced tests32 added =
    row 18 (not (is_family_of q.conn.pair.family) ∷ [])
    ∷ entries_row t
    ∷ row 30 (bad_size s)
    ∷ row 31 (malformed s ∷ ltb 0 (ao s).count ∷ ltb 0 (md5 s).count ∷ [])
    ∷ row 33 (not (eqb (source_port_of s) q.conn.pair.local_port) ∷ not (eqb (destination_port_of s) q.conn.pair.remote_port) ∷ [])
    ∷ row 34 (cond (is_open_of q.conn) (is_bare_syn_of s) (not (is_bare_syn_of s)) ∷ [])
    ∷ row 35 (not there ∷ [])
    ∷ row 32 tests32
    ∷ row 36 misplaced
    ∷ row 37 (ltb room (length s + added) ∷ [])
    ∷ []

abbrev grows : List ℕ → ℕ → List Bool
grows s added = ltb 60 (header_end_of s + added) ∷ ltb 65535 (length s + added) ∷ []

pub sign-rows : (t : Tables) (s : List ℕ) (room : ℕ) (q : State) (found : Found) (x : Place) (w : ℕ) → outgoing t q ≡ found
    → place_on_lem q.conn q.sent (sequence s) ≡ x → added_on_lem q.conn (outgoing t q).entry ≡ 4 * w
    → check_sign t s room q ≡ first_of (sign_rows t s room q found.there (no_place q x s) w) (Good (value x) q.ask_id)
unfolding check_sign
sign-rows t s room q found x w its-entry place added =
    let n = added_on_lem q.conn (outgoing t q).entry in
    let p = place_on_lem q.conn q.sent (sequence s) in
    first_flat (sign_rows_by t s room q (outgoing t q).there (no_place q p s) (grows s n) n) (Good (value p) q.ask_id)
    ∙ (λ j. first_of (sign_rows_by t s room q (its-entry j).there (no_place q (place j) s) (grows s (added j)) (added j))
    (Good (value (place j)) q.ask_id))
    ∙ ap
    (λ (b : Bool). first_of (sign_rows_by t s room q found.there (no_place q x s) (b ∷ ltb 65535 (length s + 4 * w) ∷ []) (4 * w))
    (Good (value x) q.ask_id))
    (above-15 s (4 * w) (omega arith) ∙ ap (λ (k : ℕ). ltb 15 (data_offset_of s + k)) (omega arith))

-- the words of the padded option
words-added : (n : ℕ) → option_bytes n ≡ 4 * option_words n
words-added n = omega arith

pub sign-table : SignTable
sign-table t s room q way =
    let f = send_entry t q.conn.pair q.send_id in
    sign-rows t s room q f (place_on_lem q.conn q.sent (sequence s)) (option_words f.entry.secret.mac_bytes)
    (outgoing-ao t q way) refl
    ((λ j. cond (way j) md5_option_bytes (added_bytes_of (outgoing-ao t q way j).entry)) ∙ words-added f.entry.secret.mac_bytes)

pub open-active-table : OpenActiveTable
unfolding opened_actively
open-active-table t local remote local_port remote_port isn send_id =
    let p = pair_of_lem local remote local_port remote_port in
    let f = send_entry t p send_id in
    ap (λ (o : Outcome). settled_by_lem o empty (opening 0 p isn send_id f.entry.ids.recv)) (first_flat (open_rows t local remote f) unrefused)

pub ask-table : AskTable
ask-table t id l =
    first_flat
    (row 18 (not (is_family_of l.pair.family) ∷ []) ∷ entries_row t ∷ row 35 (is_md5_of l ∷ not (recv_entry t l.pair id).there ∷ []) ∷ [])
    unrefused

pub entry-order : EntryOrder
entry-order limit i before x = refl

pub entry-bytes : EntryBytes
unfolding known_kind_of family_of_lem extra body width side_of selector_of_lem ids_of mac_length_of mac_bytes_of secret_of_lem entry_of
entry-bytes =
    record {
      known = refl;
      bodies = refl;
      families = refl;
      mac-lengths = λ e. refl;
      key-lengths = λ e. refl;
      twelve = refl;
      keys = refl;
    }

pub listed-is : Listed
unfolding number_of
listed-is = record { flags = refl; algorithms = refl; lengths = refl }

pub ranged-is : Ranged
unfolding number_of width clear_to
ranged-is =
    record {
      local-ports = refl;
      remote-ports = refl;
      prefixes-ipv4 = refl;
      prefixes-ipv6 = refl;
      bits-past = refl;
      key-lengths = refl;
      padding = refl;
    }

pub answer-numbers : AnswerNumbers
unfolding verdict_answer
answer-numbers = record { accept = λ e i. refl; pass = λ i. refl; drop = λ n i. refl }

pub counts-stop : CountsStop
counts-stop = record { below = λ n h. rw (lt-ltb n 18446744073709551615 h); there = refl }

-- Traffic keys.

pub context-is : Context
unfolding context
context-is f = refl

pub contexts : Contexts
unfolding context width
contexts = record { leaves = refl; arrives = λ s. refl; bare-syn = refl }

not_16 : (n : ℕ) → (n ≡ 16 → ⊥) → eqb n 16 ≡ false
not_16 n h = go (eqb n 16) refl
  where
    go : (b : Bool) → eqb n 16 ≡ b → eqb n 16 ≡ false
    go true e = absurd (h (eqb-true n 16 e))
    go false e = e

pub traffic-keys : TrafficKeys
unfolding traffic_key_of applied derivation_input_of output_bits_of aes_key_of
traffic-keys =
    record {
      hmac = λ s f e. rw e;
      cmac-16 = λ s f e l. rw (e, eq-eqb (length (key_of s)) 16 l);
      cmac-other = λ s f e l. rw (e, not_16 (length (key_of s)) l);
      hmac-256 = λ s f e. rw e;
    }

pub lengths : Lengths
lengths =
    record {
      context-ipv4 = λ f a b. omega (arith, length-context f);
      context-ipv6 = λ f a b. omega (arith, length-context f);
      input-ipv4 = λ f high low a b. omega (arith, length-append (context f) (high ∷ low ∷ []), length-context f);
      input-ipv6 = λ f high low a b. omega (arith, length-append (context f) (high ∷ low ∷ []), length-context f);
      key-hmac = length-key-1;
      key-cmac = length-key-2;
      key-256 = length-key-3;
    }

-- What the MAC covers.

pub pseudo-headers : PseudoHeaders
unfolding pseudo_header
pseudo-headers = record { ipv4 = λ a b n l. rw l; ipv6 = λ a b n l. rw l }

pub message-order : MessageOrder
unfolding message front pseudo_header
message-order s h f e at segment = refl

pub segment-macs : SegmentMacs
unfolding segment_mac applied
segment-macs =
    record {
      hmac = λ s h f e at n segment a m. rw (a, m);
      cmac = λ s h f e at n segment a m. rw (a, m);
      hmac-256 = λ s h f e at n segment a m. rw (a, m);
    }

pub checked-examples : CheckedExamples
unfolding with_checksum_of checksummed checksum_of ones_sum pseudo_header
checked-examples = record { ipv4 = refl; ipv6 = refl }

pub padded-example : PaddedExample
unfolding with_option inserted
padded-example = refl

pub signed-example : SignedExample
unfolding with_option inserted
signed-example = refl

pub covered : Covered
unfolding message front pseudo_header covered_header width
covered = record { all-options = refl; only-ao = refl; all-padded = refl; only-padded = refl }

pub signed-as : SignedAs
unfolding signed_segment authenticated
signed-as e q x s way =
    ap
    (λ (b : Bool). with_checksum_of (local_address q.conn.pair) (remote_address q.conn.pair)
    (cond b (digested e q s) (authenticated e q x s))) way

-- Hidden sides.

pub hidden-contexts : HiddenContexts
unfolding context width
hidden-contexts =
    record {
      arrives-remote = refl;
      arrives-local = refl;
      arrives_both = refl;
      leaves-remote = refl;
      leaves-local = refl;
      bare-syn-leaves = refl;
      bare-syn-arrives = refl;
      ipv6 = λ h f e l. rw (e, l);
    }

pub hidden-covered : HiddenCovered
unfolding message front pseudo_header covered_header width
hidden-covered =
    record {
      arrives-remote = refl;
      arrives-local = refl;
      arrives_both = refl;
      leaves-local = refl;
      leaves-remote = refl;
      only-ao-arrives = refl;
      only-ao-leaves = refl;
    }
