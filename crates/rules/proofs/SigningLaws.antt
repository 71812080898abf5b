-- What is known of a segment that the signing call signed, on either way.
use Rattle.std.specs.Prelude.{ℕ, ◌+◌, ◌≤◌, true, false, cond, not, ◌&&◌, List, length, eqb}
use Rattle.std.proofs.Math.Path.{◌≡◌, refl, sym}
use Rattle.std.proofs.Common.{ap, ◌∙◌, arith, ltb-false, eqb-true}
use Rattle.std.proofs.lemmas.Bool.{not-false}
use Rattle.wire.specs.Header.{source_port_of, destination_port_of, sequence, data_offset_of, header_end_of, syn}
use Rattle.keys.specs.Entry.{is_family_of}
use Rattle.tables.specs.Tables.{Tables}
use Rattle.rules.specs.Position.{Place}
use Rattle.rules.specs.declared.Outcome.{Outcome}
use Rattle.rules.specs.declared.Outcome.TheVariants.{Good, Passed, Bad}
use Rattle.rules.specs.declared.State.{State}
use Rattle.rules.specs.Signing as S
use Rattle.octets.specs.TestLaws.{NoneApplies, first-none, none-applied}
use Rattle.rules.proofs.JudgeLaws.{is_bad, refusal-bad}
use Rattle.rules.specs.Segment.{ao, md5, is_bare_syn_of}
use Rattle.rules.specs.Connection.{is_open_of, place_on_lem, located, value}
use Rattle.rules.specs.Calls.{is_refused, outgoing, added_on_lem, sign_tests, check_sign, signed}
use Rattle.rules.proofs.InsertedLaws.{Fresh}

module _ (t : Tables) (s out : List ℕ) (q : State) where
  abbrev place : Place
  place = place_on_lem q.conn q.sent (sequence s)

  pub record Signs : Type 0 where
    pub allowed : is_family_of q.conn.pair.family ≡ true
    pub taken : is_refused t.answer ≡ false
    pub fresh : Fresh s
    pub header : header_end_of s + added_on_lem q.conn (outgoing t q).entry ≤ 60
    pub whole : length s + added_on_lem q.conn (outgoing t q).entry ≤ 65535
    pub source-port : source_port_of s ≡ q.conn.pair.local_port
    pub destination-port : destination_port_of s ≡ q.conn.pair.remote_port
    pub stage : cond (is_open_of q.conn) (is_bare_syn_of s) (not (is_bare_syn_of s)) ≡ false
    pub entry : (outgoing t q).there ≡ true
    pub is-located : located place ≡ true
    pub number : (syn s && not (eqb (value place) q.conn.isn)) ≡ false

  none-signs : NoneApplies (sign_tests t s (length out) q (outgoing t q)) → Signs
  none-signs n =
      record {
        allowed = not-false (is_family_of q.conn.pair.family) (search);
        taken = search;
        fresh =
            record {
              long = ltb-false (length s) 20 (search);
              low = omega (arith, ltb-false (data_offset_of s) 5 (search));
              inside = ltb-false (length s) (header_end_of s) (search);
              formed = search;
              no-ao = omega (arith, ltb-false 0 (ao s).count (search));
              no-md5 = omega (arith, ltb-false 0 (md5 s).count (search));
            };
        header = ltb-false 60 (header_end_of s + added_on_lem q.conn (outgoing t q).entry) (search);
        whole = ltb-false 65535 (length s + added_on_lem q.conn (outgoing t q).entry) (search);
        source-port = eqb-true _ _ (not-false (eqb (source_port_of s) q.conn.pair.local_port) (search));
        destination-port = eqb-true _ _ (not-false (eqb (destination_port_of s) q.conn.pair.remote_port) (search));
        stage = search;
        entry = not-false (outgoing t q).there (search);
        is-located = not-false (located place) (search);
        number = search;
      }

  pub signs-good : (x r : ℕ) → check_sign t s (length out) q ≡ Good x r → Signs × (value place ≡ x) × (q.ask_id ≡ r)
  unfolding check_sign
  signs-good x r e =
      let n = none-applied is_bad (sign_tests t s (length out) q (outgoing t q)) _ (rw (refusal-bad t.answer)) (ap is_bad e) in
      let g = sym (first-none (sign_tests t s (length out) q (outgoing t q)) (Good (value place) q.ask_id) n) ∙ e in
      (none-signs n, cc, cc)

  -- where the call answers with a length, it signed
  pub signed-good : (n : ℕ) → (signed t s out q).answer ≡ S.Signed n
      → (x : ℕ) × (r : ℕ) × (check_sign t s (length out) q ≡ Good x r) × (length s + added_on_lem q.conn (outgoing t q).entry ≡ n)
  unfolding signed
  signed-good n e = go (check_sign t s (length out) q) refl
    where
      go : (o : Outcome) → check_sign t s (length out) q ≡ o
          → (x : ℕ) × (r : ℕ) × (check_sign t s (length out) q ≡ Good x r) × (length s + added_on_lem q.conn (outgoing t q).entry ≡ n)
      go (Good x r) f = (x, r, f, cc (rw f at e))
      go Passed f = let z : ◌≡◌ {A = ℕ} 0 1 = cc (rw f at e) in absurd (omega arith)
      go (Bad m i) f = let z : ◌≡◌ {A = ℕ} 0 1 = cc (rw f at e) in absurd (omega arith)
