-- The groups in which the code takes document 01's tests (crate `rules`, specs/Calls): each function of src/faults.rt gives what one of
-- them gives. A reader need not believe these: the calls cite the crate `rules` alone.
use Rattle.std.specs.Prelude.{ℕ, Bool, true, false, cond, not, ◌&&◌, List, [], ◌∷◌, ◌++◌, ltb, eqb, Option}
use Rattle.wire.specs.Bytes.{same_bytes}
use Rattle.wire.specs.Options.{is_malformed, ao_in, md5_in}
use Rattle.wire.specs.declared.options.Seen.{Seen}
use Rattle.wire.specs.declared.header.Header.{Header}
use Rattle.keys.specs.declared.entry.Pair.{Pair}
use Rattle.rules.specs.declared.Outcome.{Outcome}
use Rattle.rules.specs.declared.Outcome.TheVariants.{Good, Passed, Bad}
use Rattle.rules.specs.declared.Connection.{Connection}
use Rattle.octets.specs.Tests.{Test, test, tests, joined}
use Rattle.rules.specs.Mac.{Flow}
use Rattle.rules.specs.Connection.{Arrival, local_address, remote_address, is_open_of}
use Rattle.rules.specs.Calls.{refuse, length_tests, sum_tests, Groups}

-- a number, or pass
abbrev pub is_final : Outcome → Bool
is_final (Good x r) = false
is_final Passed = true
is_final (Bad n i) = true

-- 20, then 40: whether the segment came whole
abbrev pub intact_tests : Arrival → List (Test Outcome)
intact_tests a = length_tests 20 a.segment ++ sum_tests a

-- The tests by a header that was read: of `header_of_lem n s` they are the crate `rules`' tests of s, by computation.
abbrev pub option_tests : Option Seen → List (Test Outcome)
option_tests x =
    test (refuse 21) (is_malformed x)
    ∷ test (refuse 22) (ltb 1 (ao_in x).count)
    ∷ test (refuse 22) (ltb 0 (ao_in x).count && ltb 0 (md5_in x).count)
    ∷ test (refuse 22) (ltb 1 (md5_in x).count) ∷ []

abbrev pub header_pair_tests : Pair → List ℕ → List ℕ → Header → List (Test Outcome)
header_pair_tests p source destination h =
    tests (refuse 23)
    (not (same_bytes source (remote_address p))
    ∷ not (same_bytes destination (local_address p))
    ∷ not (eqb h.source_port p.remote_port)
    ∷ not (eqb h.destination_port p.local_port) ∷ [])

abbrev pub header_stage_tests : Connection → Header → List (Test Outcome)
header_stage_tests l h = test (refuse 24) (cond (is_open_of l) (h.syn && not h.ack) (not (h.syn && h.ack))) ∷ []

abbrev pub header_syn_tests : Header → List (Test Outcome)
header_syn_tests h = test (refuse 24) (not (h.syn && not h.ack)) ∷ []

abbrev pub header_arrival_tests : Connection → List ℕ → List ℕ → Header → List (Test Outcome)
header_arrival_tests l source destination h = header_pair_tests l.pair source destination h ++ header_stage_tests l h

-- every test but 29, which alone needs the MAC
abbrev pub until_mac : Groups → List (Test Outcome)
until_mac g = joined (g.input ∷ g.size ∷ g.sum ∷ g.form ∷ g.arrival ∷ g.key ∷ [])

-- "'source' is whoever sent the segment": our remote side
abbrev pub arriving_on : Pair → ℕ → ℕ → Flow
arriving_on p source_isn destination_isn =
    record {
      source = remote_address p;
      destination = local_address p;
      source_port = p.remote_port;
      destination_port = p.local_port;
      source_isn = source_isn;
      destination_isn = destination_isn;
    }
