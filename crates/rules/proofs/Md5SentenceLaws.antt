-- Document 02's sentences of Md5Sentences.antt, proved.
use Rattle.std.specs.Prelude.{ℕ, ◌+◌, ◌-◌, ◌≤◌, ◌≡◌, refl, Bool, true, false, cond, List, [], ◌∷◌, ◌++◌, length, take, drop, Some}
use Rattle.std.proofs.Common.{ap, ◌∙◌, subst, arith, ltb-false}
use Rattle.std.proofs.Math.Seq.{take-append-add}
use Rattle.std.proofs.lemmas.Bool.{not-true}
use Rattle.octets.specs.Tests.{any, tests, joined, first}
use Rattle.octets.specs.TestLaws.{NoneApplies}
use Rattle.mac.specs.Md5.{md5}
use Rattle.wire.specs.Header.{sequence, data_offset_of, header_end_of, size_faults}
use Rattle.wire.specs.Options.{options_of, read_from}
use Rattle.wire.specs.Prefix.{agree, clear_to}
use Rattle.keys.specs.Algorithm.{mac_bytes_of}
use Rattle.keys.specs.Entry.{known_kind_of, family_of_lem, extra, body, width, side_of, selector_of_lem, ids_of, mac_length_of}
use Rattle.keys.specs.Entry.{secret_of_lem, entry_of, item, items, entries_of}
use Rattle.keys.specs.Match.{holds, matches, meet, overlap, share, clash}
use Rattle.keys.specs.Table.{any_of, number_of, clashing, loaded_from, loaded, nobody, found, answers, meets_any_of}
use Rattle.tables.specs.Tables.{besides, admitted, md5_entry}
use Rattle.rules.specs.declared.Outcome.{Outcome}
use Rattle.rules.specs.declared.Outcome.TheVariants.{Good}
use Rattle.rules.specs.Mac.{pseudo_header, blank}
use Rattle.rules.specs.Checksum.{segment_sum_of, with_checksum_of}
use Rattle.rules.specs.Digest.{digest_front, digest_input, segment_digest}
use Rattle.rules.specs.Segment.{inserted, with_option, md5_option_bytes}
use Rattle.rules.specs.Connection.{arrival_pair_of, pair_of_lem, local_address, remote_address, opening, empty}
use Rattle.rules.specs.Calls.{good_by, judge_groups, check, syn_groups, check_syn_of, added_bytes_of, outgoing, authenticated, digested}
use Rattle.rules.specs.Calls.{unrefused, settled_by_lem, opened_actively_md5, signed_segment}
use Rattle.rules.proofs.GroupLaws.{key-md5, mac-md5, syn-key-md5, syn-mac-md5}
use Rattle.rules.proofs.PositionLaws.{place-md5}
use Rattle.rules.proofs.PortLaws.{ports_of_lem}
use Rattle.rules.proofs.InsertedLaws.{fixed, head_of, shape}
use Rattle.rules.proofs.DeliveryLaws.{outgoing-md5}
use Rattle.rules.proofs.SentenceLaws.{first_flat, sign-rows}
use Rattle.rules.specs.Md5Sentences.{judge_rows_md5, syn_rows_md5, JudgeTableMd5, SynTableMd5, SignTableMd5, EntryOrderMd5, ListedMd5}
use Rattle.rules.specs.Md5Sentences.{OpenActiveMd5Table, WayNumbers, CrossedExample, Md5Keys, Md5Options, DigestOf, SignedAsMd5}
use Rattle.rules.specs.Md5Sentences.{SignedExampleMd5, DigestedBytes, ReadBack}
use Rattle.rules.specs.Sentences.{open_rows}

pub judge-table-md5 : JudgeTableMd5
unfolding check segment_sum_of
judge-table-md5 t l reference a way =
    let g = judge_groups t l reference a in
    (λ j. first
    (joined
    (g.input ∷ g.size ∷ g.sum ∷ g.form ∷ g.arrival ∷ key-md5 t l reference a way j ∷ mac-md5 t l reference a way j ∷ []))
    (good_by (way j) (place-md5 l reference (sequence a.segment) way j) a.segment))
    ∙ first_flat (judge_rows_md5 t l (md5_entry t l.pair) a) (Good (sequence a.segment) 0)

-- 26 never comes, since the entry is there
pub syn-table-md5 : SynTableMd5
unfolding check_syn_of segment_sum_of
syn-table-md5 t a strict way =
    let g = syn_groups t a strict in
    (λ j. first
    (joined (g.input ∷ g.size ∷ g.sum ∷ g.form ∷ g.arrival ∷ syn-key-md5 t a strict way j ∷ syn-mac-md5 t a strict way j ∷ []))
    (good_by (way j) (Some (sequence a.segment)) a.segment))
    ∙ rw way
    (first_flat (syn_rows_md5 t (md5_entry t (arrival_pair_of a)) a) (Good (sequence a.segment) 0))

pub sign-table-md5 : SignTableMd5
sign-table-md5 t s room q way =
    sign-rows t s room q (md5_entry t q.conn.pair) (Some (sequence s)) 5 (outgoing-md5 t q way)
    (place-md5 q.conn q.sent (sequence s) way)
    (ap (λ (b : Bool). cond b md5_option_bytes (added_bytes_of (outgoing t q).entry)) way)

pub open-active-md5-table : OpenActiveMd5Table
unfolding opened_actively_md5
open-active-md5-table t local remote local_port remote_port isn =
    let p = pair_of_lem local remote local_port remote_port in
    ap (λ (o : Outcome). settled_by_lem o empty (opening 1 p isn 0 0)) (first_flat (open_rows t local remote (md5_entry t p)) unrefused)

pub way-numbers : WayNumbers
way-numbers = refl

pub crossed-example : CrossedExample
unfolding agree clear_to mac_bytes_of known_kind_of family_of_lem extra body width side_of selector_of_lem mac_length_of ids_of secret_of_lem entry_of item items entries_of
    holds matches meet overlap share clash number_of clashing loaded_from loaded found nobody answers any_of meets_any_of besides admitted
crossed-example = refl

pub md5-keys : Md5Keys
unfolding extra family_of_lem width side_of selector_of_lem mac_length_of ids_of secret_of_lem entry_of
md5-keys = record { ipv4 = refl; ipv6 = refl }

pub entry-order-md5 : EntryOrderMd5
entry-order-md5 limit i before x = refl

pub listed-md5 : ListedMd5
unfolding number_of known_kind_of extra item mac_bytes_of
listed-md5 = record { kinds = refl; flags = refl; algorithms = refl; ids = refl; asked-ids = refl; digest = refl }

-- the first twenty bytes of a header that has them, the checksum zero
first-twenty : (s : List ℕ) (n : ℕ) → 20 ≤ length s → 20 ≤ n
    → take 20 (blank 16 2 (take n s)) ≡ take 16 s ++ (0 ∷ 0 ∷ take 2 (drop 18 s))
first-twenty s n long low =
    let k : n ≡ 20 + (n - 20) = omega arith in
    subst (λ (z : List ℕ). take 20 (blank 16 2 (take n z)) ≡ take 16 z ++ (0 ∷ 0 ∷ take 2 (drop 18 z))) (shape s long)
    (ap (λ (l : List ℕ). take 20 (blank 16 2 l))
    (ap (λ (m : ℕ). take m (fixed (ports_of_lem s) (head_of s) ++ drop 20 s)) k
    ∙ take-append-add (fixed (ports_of_lem s) (head_of s)) (drop 20 s) (n - 20)))

none-of-any : (l : List Bool) → any l ≡ false → NoneApplies {O = ℕ} (tests 0 l)
none-of-any [] e = tt
none-of-any (true ∷ l) e = let z : ◌≡◌ {A = ℕ} 0 1 = cc in absurd (omega arith)
none-of-any (false ∷ l) e = (refl, none-of-any l e)

pub digest-of : DigestOf
unfolding segment_digest digest_input digest_front
digest-of key source destination s sized =
    ap (λ (h : List ℕ). md5 (pseudo_header source destination (length s) ++ h ++ (drop (header_end_of s) s ++ key)))
    (first-twenty s (header_end_of s) (ltb-false (length s) 20 faults.0) (omega (arith, ltb-false (data_offset_of s) 5 faults.1.1.0)))
  where
    faults : NoneApplies {O = ℕ} (tests 0 (size_faults s))
    faults = none-of-any (size_faults s) (not-true (any (size_faults s)) sized)

pub signed-as-md5 : SignedAsMd5
unfolding signed_segment digested
signed-as-md5 e q x s way =
    ap
    (λ (b : Bool). with_checksum_of (local_address q.conn.pair) (remote_address q.conn.pair)
    (cond b (digested e q s) (authenticated e q x s))) way

pub signed-example-md5 : SignedExampleMd5
unfolding with_option inserted
signed-example-md5 = refl

pub digested-bytes : DigestedBytes
unfolding digest_input digest_front pseudo_header extra family_of_lem width side_of selector_of_lem mac_length_of ids_of secret_of_lem entry_of
digested-bytes = record { ipv4 = λ c d. refl; ipv6 = λ c d. refl; under-entry = λ c d. refl }

pub read_back : ReadBack
unfolding options_of read_from
read_back = record { count = refl; length = refl; digest-in = refl; no-ao = refl }

pub md5-options : Md5Options
unfolding options_of read_from
md5-options = record { two = refl; lengths = refl; behind = refl; behind-end = refl }
