-- One arrival on an open connection: what is accepted verifies, and what does not verify is dropped with a number that is counted unless it
-- is 19. Document 01, last section. The second half assumes a valid table and an allowed family, as demand 3 does.
use Rattle.std.specs.Prelude.{ℕ, ◌<◌, ◌≡◌, Bool, cond, ◌&&◌, eqb, ltb, Ok, Err}
use Rattle.std.proofs.Math.Path.{refl, ap}
use Rattle.std.proofs.Common.{◌∙◌, subst, arith, ltb-true, ltb-false, eqb-true}
use Rattle.std.proofs.Math.Bool.{true, false, not}
use Rattle.std.proofs.lemmas.Bool.{eqb-false, not-false}
use Rattle.wire.specs.Bytes.{same_bytes}
use Rattle.wire.proofs.BytesLaws.{eq-of-same}
use Rattle.wire.specs.Header.{source_port_of, destination_port_of, sequence, syn, ack}
use Rattle.tables.specs.declared.Index.{Index}
use Rattle.tables.specs.Tables.{Admitted, Tables, no_index, recv_entry}
use Rattle.tables.specs.Valid.{ValidTables}
use Rattle.rules.specs.declared.Outcome.{Outcome}
use Rattle.rules.specs.declared.Outcome.TheVariants.{Good, Passed, Bad}
use Rattle.rules.specs.declared.Connection.{Connection}
use Rattle.octets.specs.Tests.{joined}
use Rattle.octets.specs.TestLaws.{NoneApplies, each_gives, none-append, first_passes, none-applied}
use Rattle.rules.proofs.GroupLaws.{Clear, none-clear, past-input, key-ao, mac-ao, sized_of}
use Rattle.rules.specs.Segment.{ao, md5, key_id_of, is_bare_syn_of}
use Rattle.rules.specs.Connection.{sized, Arrival, local_address, remote_address, is_open_of, is_md5_of, arriving, place_on_lem, value}
use Rattle.rules.specs.Connection.{extension_of_lem, slot, is_counted}
use Rattle.rules.specs.Calls.{is_refused, refusal, family_tests, address_tests, table_tests, input_tests, state_tests, mac_differs}
use Rattle.rules.specs.Calls.{segment_groups, judge_groups, judge_tests, check}
use Rattle.rules.specs.Ends.{Allowed, Verifies}

-- a refusal; and one that is counted
abbrev pub is_bad : Outcome → Bool
is_bad (Good x r) = false
is_bad Passed = false
is_bad (Bad n i) = true

abbrev pub is_counted_bad : Outcome → Bool
is_counted_bad (Good x r) = true
is_counted_bad Passed = false
is_counted_bad (Bad n i) = is_counted n

pub refusal-bad : (c : Admitted) → is_bad (refusal c) ≡ true
refusal-bad (Ok n) = refl
refusal-bad (Err r) = refl

-- no pass
abbrev pub not_passed : Outcome → Bool
not_passed (Good x r) = true
not_passed Passed = false
not_passed (Bad n i) = true

pub refusal-not-passed : (c : Admitted) → not_passed (refusal c) ≡ true
refusal-not-passed (Ok n) = refl
refusal-not-passed (Err r) = refl

-- tests that failed, put together
pub nonzero : (n : ℕ) → eqb n 0 ≡ false → 0 < n
nonzero n e = go (ltb 0 n) refl
  where
    go : (b : Bool) → ltb 0 n ≡ b → 0 < n
    go true q = ltb-true 0 n q
    go false q = absurd (eqb-false n 0 e (omega (arith, ltb-false 0 n q)))

pub absent : (n m : ℕ) → (ltb 0 n && ltb 0 m) ≡ false → n ≡ 1 → m ≡ 0
absent n m e one = go (ltb 0 m) refl
  where
    go : (b : Bool) → ltb 0 m ≡ b → m ≡ 0
    go true q = let z : ◌≡◌ {A = ℕ} 0 1 = cc (rw (q, one) at e) in absurd (omega arith)
    go false q = omega (arith, ltb-false 0 m q)

module _ (t : Tables) (l : Connection) (reference : ℕ) (a : Arrival) where
  -- accepted means that every test failed, on either way
  pub none_of : (x r : ℕ) → check t l reference a ≡ Good x r → Clear (judge_groups t l reference a)
  unfolding check
  none_of x r e = none-clear (judge_groups t l reference a) (none-applied is_bad (judge_tests t l reference a) _ (each (is_md5_of l) refl) (ap is_bad e))
    where
      each : (b : Bool) → is_md5_of l ≡ b → each_gives is_bad (judge_tests t l reference a) ≡ true
      each true q = rw (q, refusal-bad t.answer)
      each false q = rw (q, refusal-bad t.answer)

  -- no test comes to pass
  pub check-not-passed : not_passed (check t l reference a) ≡ true
  unfolding check
  check-not-passed = first_passes not_passed (judge_tests t l reference a) _ (each (is_md5_of l) refl) refl
    where
      each : (b : Bool) → is_md5_of l ≡ b → each_gives not_passed (judge_tests t l reference a) ≡ true
      each true q = rw (q, refusal-not-passed t.answer)
      each false q = rw (q, refusal-not-passed t.answer)

  -- what is accepted on an open TCP-AO connection verifies
  pub accepted-verifies : (x r : ℕ) → is_open_of l ≡ true → is_md5_of l ≡ false → check t l reference a ≡ Good x r → Verifies t l a
  accepted-verifies x r is_open way e =
      let p = none_of x r e in
      let k = subst NoneApplies (key-ao t l reference a way) p.key in
      let m = subst NoneApplies (mac-ao t l reference a way) p.mac in
      let one : (ao a.segment).count ≡ 1 = omega (arith, ltb-false 1 (ao a.segment).count (search), nonzero (ao a.segment).count (search)) in
      let stage : cond (is_open_of l) (is_bare_syn_of a.segment) (not (syn a.segment && ack a.segment)) ≡ false = search in
      let equal : mac_differs (recv_entry t l.pair (key_id_of a.segment)).entry (arriving l a.segment) (place_on_lem l reference (sequence a.segment)) a.segment ≡ false = search in
      record {
        sized = sized_of 20 a.segment p.size;
        summed = not-false _ p.sum.0;
        formed = search;
        one = one;
        no-md5 = absent (ao a.segment).count (md5 a.segment).count (search) one;
        no-bare-syn = rw is_open at stage;
        source = eq-of-same _ _ (not-false (same_bytes a.source (remote_address l.pair)) (search));
        destination = eq-of-same _ _ (not-false (same_bytes a.destination (local_address l.pair)) (search));
        source-port = eqb-true _ _ (not-false (eqb (source_port_of a.segment) l.pair.remote_port) (search));
        destination-port = eqb-true _ _ (not-false (eqb (destination_port_of a.segment) l.pair.local_port) (search));
        entry = not-false (recv_entry t l.pair (key_id_of a.segment)).there (search);
        extension = extension_of_lem (value (place_on_lem l reference (sequence a.segment)));
        mac = eq-of-same _ _ (not-false _ equal);
      }

  -- on valid tables, an allowed family and the TCP-AO way: 19 where the addresses are not both 4 or both 16 bytes, else no drop but 20 to
  -- 29 and 40, and no pass
  module _ (valid : ValidTables t) (allowed : Allowed l) (way : is_md5_of l ≡ false) where
    unsized-19 : sized a.source a.destination ≡ false → check t l reference a ≡ Bad 19 no_index
    unfolding check
    unsized-19 e = rw (allowed, e)

    sized-counted : sized a.source a.destination ≡ true → is_counted_bad (check t l reference a) ≡ true
    unfolding check slot
    sized-counted e =
        ap is_counted_bad (past-input (judge_groups t l reference a) _ right)
        ∙ first_passes is_counted_bad (joined (segment_groups (judge_groups t l reference a))) _ (rw way) refl
      where
        right : NoneApplies (state_tests t a.source a.destination l)
        right =
            none-append (family_tests l) (input_tests t a.source a.destination) (ap not allowed, tt)
            (none-append (address_tests a.source a.destination) (table_tests t) (ap not e, tt) (ap is_refused valid.taken.1, tt))

    -- so what does not verify is dropped, and counted unless it is given 19
    uncounted : is_counted 19 ≡ false
    unfolding slot
    uncounted = refl

    pub other-bad : is_open_of l ≡ true → (Verifies t l a → ⊥)
        → (n : ℕ) × (i : Index) × (check t l reference a ≡ Bad n i) × (is_counted n ≡ sized a.source a.destination)
    other-bad is_open o = go (sized a.source a.destination) (check t l reference a) refl refl
      where
        go : (b : Bool) (c : Outcome) → sized a.source a.destination ≡ b → check t l reference a ≡ c
            → (n : ℕ) × (i : Index) × (check t l reference a ≡ Bad n i) × (is_counted n ≡ b)
        go false c q e = (19, no_index, unsized-19 q, uncounted)
        go true (Good x r) q e = absurd (o (accepted-verifies x r is_open way e))
        go true Passed q e = let z : ◌≡◌ {A = ℕ} 0 1 = cc (rw e at (sized-counted q)) in absurd (omega arith)
        go true (Bad n i) q e = (n, i, e, rw e at (sized-counted q))
