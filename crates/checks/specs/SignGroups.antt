-- The tests of signing in the parts that the code goes through (src/signing.rt): what was given; then, by the header that was read, the
-- segment and the output. Joined in this order they are `sign_tests` of the crate `rules` (SignLaws). A reader need not believe these: the
-- calls cite the crate `rules` alone.
use Rattle.std.specs.Prelude.{ℕ, ◌+◌, Bool, cond, not, ◌&&◌, List, [], ◌∷◌, ◌++◌, ltb, eqb, Result, Ok, Option}
use Rattle.std.specs.Result.{result_and}
use Rattle.wire.specs.Options.{is_malformed, ao_in, md5_in}
use Rattle.wire.specs.declared.options.Seen.{Seen}
use Rattle.wire.specs.declared.header.Header.{Header}
use Rattle.keys.specs.declared.entry.Pair.{Pair}
use Rattle.keys.specs.Table.{Found}
use Rattle.tables.specs.Tables.{Tables}
use Rattle.rules.specs.declared.Outcome.{Outcome}
use Rattle.rules.specs.Position.{Place}
use Rattle.rules.specs.declared.Connection.{Connection}
use Rattle.rules.specs.declared.State.{State}
use Rattle.octets.specs.Tests.{Test, test, tests, checked}
use Rattle.rules.specs.Connection.{is_open_of, place_on_lem, located, value}
use Rattle.rules.specs.Calls.{refuse, family_tests, table_tests, length_tests, added_on_lem}
use Rattle.checks.specs.declared.signing.Granted.{Granted}

-- 18, 10 to 17 and 30
abbrev pub input_tests : Tables → List ℕ → Connection → List (Test Outcome)
input_tests t s l = family_tests l ++ (table_tests t ++ length_tests 30 s)

-- The tests by a header that was read: of `header_of_lem n s` they are the crate `rules`' tests of s, by computation.

-- 31
abbrev pub fresh_lines : Option Seen → List (Test Outcome)
fresh_lines x = tests (refuse 31) (is_malformed x ∷ ltb 0 (ao_in x).count ∷ ltb 0 (md5_in x).count ∷ [])

-- 32
abbrev pub growth_lines : ℕ → ℕ → ℕ → List (Test Outcome)
growth_lines added end len = tests (refuse 32) (ltb 60 (end + added) ∷ ltb 65535 (len + added) ∷ [])

-- 33
abbrev pub port_lines : Pair → Header → List (Test Outcome)
port_lines p h =
    tests (refuse 33) (not (eqb h.source_port p.local_port) ∷ not (eqb h.destination_port p.remote_port) ∷ [])

-- 34
abbrev pub stage_lines : Connection → Header → List (Test Outcome)
stage_lines l h = test (refuse 34) (cond (is_open_of l) (h.syn && not h.ack) (not (h.syn && not h.ack))) ∷ []

-- 33 and 34
abbrev pub segment_lines : Connection → Header → List (Test Outcome)
segment_lines l h = port_lines l.pair h ++ stage_lines l h

-- 36
abbrev pub place_lines : Connection → Place → Bool → List (Test Outcome)
place_lines l x is_syn = tests (refuse 36) (not (located x) ∷ (is_syn && not (eqb (value x) l.isn)) ∷ [])

-- 35, 32, 36 and 37
abbrev pub output_lines : ℕ → ℕ → Bool → Connection → Place → Header → List (Test Outcome)
output_lines room added there l x h =
    test (refuse 35) (not there)
    ∷ (growth_lines added h.end h.len ++ (place_lines l x h.syn ++ tests (refuse 37) (ltb room (h.len + added) ∷ [])))

-- 31, 33 to 35, 32, 36 and 37
abbrev pub sign_lines : ℕ → ℕ → Bool → State → Header → List (Test Outcome)
sign_lines room added there q h =
    fresh_lines h.options
    ++ (segment_lines q.conn h ++ output_lines room added there q.conn (place_on_lem q.conn q.sent h.sequence) h)

-- what they come to: the position where none applies
abbrev pub signed : ℕ → ℕ → Bool → State → Header → Result ℕ Outcome
signed room added there q h = result_and (checked (sign_lines room added there q h)) (Ok (value (place_on_lem q.conn q.sent h.sequence)))

-- under the entry found: what the segment is signed by where none applies
abbrev pub granted_of : ℕ → Found → State → Header → Result Granted Outcome
granted_of room f q h =
    result_and (checked (sign_lines room (added_on_lem q.conn f.entry) f.there q h))
    (Ok (record {
      position = value (place_on_lem q.conn q.sent h.sequence);
      added = added_on_lem q.conn f.entry;
      secret = f.entry.secret;
    }))
