-- Judging that has begun (src/begun.rt): what a value of the code's Begun stands for, once every test but 29 is made. A reader need
-- not believe these: the calls cite the crate `rules` alone.
use Rattle.std.specs.Prelude.{ℕ, ◌≤◌, min, ◌≡◌, Bool, true, cond, Some, Result, Ok, Err, List, length, take}
use Rattle.wire.specs.Bytes.{same_bytes}
use Rattle.wire.specs.Header.{sequence, header_end_of}
use Rattle.keys.specs.declared.entry.Entry.{Entry}
use Rattle.keys.specs.declared.entry.Pair.{Pair}
use Rattle.tables.specs.Tables.{Tables, recv_entry, md5_entry}
use Rattle.rules.specs.declared.Connection.{Connection}
use Rattle.rules.specs.declared.Outcome.{Outcome}
use Rattle.rules.specs.declared.Outcome.TheVariants.{Good}
use Rattle.octets.specs.Tests.{first}
use Rattle.rules.specs.Mac.{Flow, arriving_hidden_of}
use Rattle.rules.specs.Segment.{ao_at, key_id_of, mac_in, digest_in}
use Rattle.rules.specs.Connection.{Arrival, arrival_pair_of, arriving, arriving_syn, place_on_lem, extension_of_lem, is_md5_of}
use Rattle.rules.specs.Calls.{refuse, good_by, judge_groups, syn_is_md5, syn_groups}
use Rattle.traffic.specs.MacContext.{MacView, mac_view, mac_absorb, mac_finished, fronted_by, digested_by}
use Rattle.checks.specs.Groups.{until_mac}
use Rattle.checks.specs.Groups.{is_final}
use Rattle.checks.specs.declared.begun.Begun.{Begun}
use Rattle.checks.specs.declared.begun.Way.{Way}
use Rattle.checks.specs.declared.begun.Way.TheVariants.{Ao, Md5}

-- what a segment is compared with once its data are in: so many bytes that it carries, and the MAC that the front leaves; which way that
-- is, with the IDs of the entry found by TCP-AO
pub record Expected : Type 0 where
  pub way : Way
  pub bytes : ℕ
  pub carried : List ℕ
  pub mac : MacView

-- by TCP-AO, at the position x under the entry e
abbrev pub by_ao : Entry → Flow → List ℕ → ℕ → Expected
by_ao e f s x =
    record {
      way = Ao e.ids;
      bytes = e.secret.mac_bytes;
      carried = mac_in s;
      mac = fronted_by e.secret (arriving_hidden_of e.secret) f (extension_of_lem x) (ao_at s) (length s) (take (header_end_of s) s);
    }

-- by MD5 under the entry e
abbrev pub by_md5_of : Entry → Flow → List ℕ → ℕ → Expected
by_md5_of e f s x =
    record {
      way = Md5;
      bytes = 16;
      carried = digest_in s;
      mac = digested_by e.secret f (length s) (take (header_end_of s) s);
    }

-- what waits for the data
pub record Ready (w : Expected) (b : Begun) : Type 0 where
  pub way : b.way ≡ w.way
  pub bytes : b.mac_bytes ≡ w.bytes
  pub short : b.mac_bytes ≤ 16
  pub carried : take b.mac_bytes b.carried ≡ w.carried
  pub mac : mac_view b.mac ≡ w.mac

-- o is the outcome of every test but 29: Good, at a position and with an RNextKeyID, and what is expected there waits; or another, which is
-- given as it is
abbrev pub Begins : Outcome → (ℕ → Expected) → Result Begun Outcome → Type 0
Begins o w (Ok b) = (o ≡ Good b.position b.rnext) × Ready (w b.position) b
Begins o w (Err e) = (o ≡ e) × (is_final e ≡ true)

-- with a state: by the way of the connection
abbrev pub expected : Tables → Connection → List ℕ → ℕ → Expected
expected t l s =
    cond (is_md5_of l) (by_md5_of (md5_entry t l.pair).entry (arriving l s) s)
    (by_ao (recv_entry t l.pair (key_id_of s)).entry (arriving l s) s)

abbrev pub Judges : Tables → Connection → ℕ → Arrival → Result Begun Outcome → Type 0
Judges t l reference a r =
    Begins (first (until_mac (judge_groups t l reference a))
    (good_by (is_md5_of l) (place_on_lem l reference (sequence a.segment)) a.segment))
    (expected t l a.segment) r

-- of a bare SYN without one: by the table that matches
abbrev pub expected_syn : Tables → Pair → Flow → List ℕ → ℕ → Expected
expected_syn t p f s = cond (syn_is_md5 t p) (by_md5_of (md5_entry t p).entry f s) (by_ao (recv_entry t p (key_id_of s)).entry f s)

abbrev pub JudgesSyn : Tables → Arrival → Bool → Result Begun Outcome → Type 0
JudgesSyn t a strict r =
    Begins
    (first (until_mac (syn_groups t a strict)) (good_by (syn_is_md5 t (arrival_pair_of a)) (Some (sequence a.segment)) a.segment))
    (expected_syn t (arrival_pair_of a) (arriving_syn a) a.segment) r

-- data go into the MAC, and nothing else changes
pub record Fed (b : Begun) (d : List ℕ) (c : Begun) : Type 0 where
  pub position : c.position ≡ b.position
  pub rnext : c.rnext ≡ b.rnext
  pub way : c.way ≡ b.way
  pub bytes : c.mac_bytes ≡ b.mac_bytes
  pub carried : c.carried ≡ b.carried
  pub mac : mac_view c.mac ≡ mac_absorb (mac_view b.mac) d

-- how many bytes a MAC has: what its length says, but never more than there is room for
abbrev pub mac_length_of : ℕ → ℕ
mac_length_of n = min n 16

-- 29, where nothing came before it
abbrev pub agrees : Begun → MacView → Bool
agrees b v = same_bytes (take (mac_length_of b.mac_bytes) b.carried) (take (mac_length_of b.mac_bytes) (mac_finished v))

abbrev pub ended : Begun → Bool → Outcome
ended b same = cond same (Good b.position b.rnext) (refuse 29)
