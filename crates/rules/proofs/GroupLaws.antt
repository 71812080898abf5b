-- What the groups of tests leave, each by its name: nothing here or above says at which place a test stands.
-- Assumes nothing.
use Rattle.std.specs.Prelude.{ℕ, ◌≡◌, refl, Bool, not, true, false, List, ◌∷◌, Some}
use Rattle.std.proofs.Common.{ap}
use Rattle.octets.specs.Tests.{joined, first}
use Rattle.wire.specs.Header.{sequence, size_faults, well_sized_of}
use Rattle.keys.specs.declared.entry.Pair.{Pair}
use Rattle.tables.specs.Tables.{Tables, recv_entry, any_entry, md5_entry}
use Rattle.rules.specs.declared.Outcome.{Outcome}
use Rattle.rules.specs.declared.Outcome.TheVariants.{Passed}
use Rattle.rules.specs.declared.Connection.{Connection}
use Rattle.octets.specs.TestLaws.{NoneApplies, first-none, first_past, none_any, none-joined, joined-none}
use Rattle.rules.specs.Segment.{key_id_of}
use Rattle.rules.specs.Connection.{Arrival, arrival_pair_of, is_md5_of, arriving, arriving_syn, place_on_lem}
use Rattle.rules.specs.Calls.{refuse, length_tests, key_tests, mac_tests, md5_tests, digest_tests, Groups, segment_groups, in_order}
use Rattle.rules.specs.Calls.{judge_groups, syn_missing_of, syn_unknown_of, syn_is_md5, syn_groups}

-- no test of any group applies
pub record Clear (g : Groups) : Type 0 where
  pub input : NoneApplies g.input
  pub size : NoneApplies g.size
  pub sum : NoneApplies g.sum
  pub form : NoneApplies g.form
  pub arrival : NoneApplies g.arrival
  pub key : NoneApplies g.key
  pub mac : NoneApplies g.mac

module _ (g : Groups) where
  pub clear_none : Clear g → NoneApplies (in_order g)
  clear_none c = none-joined (g.input ∷ segment_groups g) (c.input, (c.size, (c.sum, (c.form, (c.arrival, (c.key, (c.mac, tt)))))))

  pub none-clear : NoneApplies (in_order g) → Clear g
  none-clear n =
      let p = joined-none (g.input ∷ segment_groups g) n in
      let s = p.1.1.1 in
      record { input = p.0; size = p.1.0; sum = p.1.1.0; form = s.0; arrival = s.1.0; key = s.1.1.0; mac = s.1.1.1.0 }

  -- then what stands behind them is given
  pub first-clear : (o : Outcome) → Clear g → first (in_order g) o ≡ o
  first-clear o c = first-none (in_order g) o (clear_none c)

  -- a right input leaves it to the segment
  pub past-input : (o : Outcome) → NoneApplies g.input → first (in_order g) o ≡ first (joined (segment_groups g)) o
  past-input o n = first_past g.input (joined (segment_groups g)) o n

-- The signature's tests, by the way.

module _ (t : Tables) (l : Connection) (reference : ℕ) (a : Arrival) where
  pub key-ao : is_md5_of l ≡ false
      → (judge_groups t l reference a).key
      ≡ key_tests (refuse 25) (refuse 26) (recv_entry t l.pair (key_id_of a.segment)) (place_on_lem l reference (sequence a.segment)) a.segment
  key-ao e = rw e

  pub mac-ao : is_md5_of l ≡ false
      → (judge_groups t l reference a).mac
      ≡ mac_tests (recv_entry t l.pair (key_id_of a.segment)).entry (arriving l a.segment)
      (place_on_lem l reference (sequence a.segment)) a.segment
  mac-ao e = rw e

  pub key-md5 : is_md5_of l ≡ true → (judge_groups t l reference a).key ≡ md5_tests (md5_entry t l.pair) a.segment
  key-md5 e = rw e

  pub mac-md5 : is_md5_of l ≡ true
      → (judge_groups t l reference a).mac ≡ digest_tests (md5_entry t l.pair).entry (arriving l a.segment) a.segment
  mac-md5 e = rw e

-- a bare SYN without a state
module _ (t : Tables) (a : Arrival) (strict : Bool) where
  pub syn-key-ao : syn_is_md5 t (arrival_pair_of a) ≡ false
      → (syn_groups t a strict).key
      ≡ key_tests (syn_missing_of t (arrival_pair_of a)) (syn_unknown_of t (arrival_pair_of a) strict) (recv_entry t (arrival_pair_of a) (key_id_of a.segment))
      (Some (sequence a.segment)) a.segment
  syn-key-ao e = rw e

  pub syn-mac-ao : syn_is_md5 t (arrival_pair_of a) ≡ false
      → (syn_groups t a strict).mac
      ≡ mac_tests (recv_entry t (arrival_pair_of a) (key_id_of a.segment)).entry (arriving_syn a) (Some (sequence a.segment)) a.segment
  syn-mac-ao e = rw e

  pub syn-key-md5 : syn_is_md5 t (arrival_pair_of a) ≡ true → (syn_groups t a strict).key ≡ md5_tests (md5_entry t (arrival_pair_of a)) a.segment
  syn-key-md5 e = rw e

  pub syn-mac-md5 : syn_is_md5 t (arrival_pair_of a) ≡ true
      → (syn_groups t a strict).mac ≡ digest_tests (md5_entry t (arrival_pair_of a)).entry (arriving_syn a) a.segment
  syn-mac-md5 e = rw e

-- a bare SYN whose KeyID is unknown gets 26 or pass: what holds of both, holds of that
pub unknown-passes : (f : Outcome → Bool) (t : Tables) (p : Pair) (strict : Bool) → f (refuse 26) ≡ true → f Passed ≡ true
    → f (syn_unknown_of t p strict) ≡ true
unknown-passes f t p strict n y = go (any_entry t p) strict refl refl
  where
    go : (b s : Bool) → any_entry t p ≡ b → strict ≡ s → f (syn_unknown_of t p strict) ≡ true
    go true true e d = cc
    go true false e d = cc
    go false true e d = cc
    go false false e d = cc

-- 20 leaves a segment of a right size
pub sized_of : (n : ℕ) (s : List ℕ) → NoneApplies (length_tests n s) → well_sized_of s ≡ true
sized_of n s p = ap not (none_any (refuse n) (size_faults s) p)
