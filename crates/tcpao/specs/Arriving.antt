-- What is known of an outcome when the state is written. A reader need not believe these: the calls cite the crate `rules` alone.
use Rattle.std.specs.Prelude.{ℕ, ◌≡◌, true, false, cond}
use Rattle.wire.specs.Header.{sequence}
use Rattle.tables.specs.Tables.{Tables, recv_entry}
use Rattle.rules.specs.declared.Connection.{Connection}
use Rattle.rules.specs.declared.State.{State}
use Rattle.rules.specs.declared.Outcome.{Outcome}
use Rattle.rules.specs.declared.Outcome.TheVariants.{Good}
use Rattle.rules.specs.Segment.{key_id_of}
use Rattle.rules.specs.Connection.{Arrival, sized, arrival_pair_of, is_open_of}
use Rattle.rules.specs.Calls.{syn_is_md5, opened_by_lem}
use Rattle.checks.specs.declared.begun.Way.{Way}
use Rattle.checks.specs.declared.begun.Way.TheVariants.{Ao, Md5}

-- what is accepted while opening stands at its own number
abbrev pub AtNumber : Connection → ℕ → Outcome → Type 0
AtNumber l number o = (x r : ℕ) → o ≡ Good x r → is_open_of l ≡ false → x ≡ number

-- a bare SYN that is accepted: of its addresses, its position, and its way with, by TCP-AO, the IDs of the entry that was found for it
pub record Taken (t : Tables) (a : Arrival) (way : Way) (x : ℕ) : Type 0 where
  pub addresses : sized a.source a.destination ≡ true
  pub position : x ≡ sequence a.segment
  pub by : way ≡ cond (syn_is_md5 t (arrival_pair_of a)) Md5 (Ao (recv_entry t (arrival_pair_of a) (key_id_of a.segment)).entry.ids)

abbrev pub TakenBy : Tables → Arrival → Way → Outcome → Type 0
TakenBy t a way o = (x r : ℕ) → o ≡ Good x r → Taken t a way x

-- the state that an outcome of its judging opens with
abbrev pub opened_from : Tables → Arrival → ℕ → Outcome → State
opened_from t a isn o = opened_by_lem t (arrival_pair_of a) isn (recv_entry t (arrival_pair_of a) (key_id_of a.segment)).entry o
