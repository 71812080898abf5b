-- One segment signed by MD5, one judging call: the tests that the receiver makes of it all fail, on each of the three ways that it can go.
use Rattle.std.specs.Prelude.{ℕ, ◌≡◌, Bool, false, cond, ◌&&◌, List, length, eqb, ltb}
use Rattle.std.proofs.Math.Path.{refl, ap₂, subst⁻¹}
use Rattle.std.proofs.Common.{ap, sym, ◌∙◌}
use Rattle.std.proofs.Math.Bool.{true, not}
use Rattle.std.proofs.lemmas.Bool.{not-false}
use Rattle.octets.specs.TestLaws.{NoneApplies, none-append}
use Rattle.wire.proofs.BytesLaws.{same-of-eq}
use Rattle.wire.specs.Header.{sequence, syn, ack}
use Rattle.wire.specs.declared.options.Occurrence.{Occurrence}
use Rattle.keys.specs.declared.entry.Pair.{Pair}
use Rattle.keys.specs.declared.entry.Entry.{Entry}
use Rattle.keys.specs.Table.{Found}
use Rattle.keys.specs.Entry.{is_family_of, key_of}
use Rattle.keys.proofs.MatchLaws.{and-true}
use Rattle.tables.specs.Tables.{Tables, md5_entry}
use Rattle.tables.specs.Valid.{ValidTables}
use Rattle.rules.specs.Position.{Place}
use Rattle.rules.specs.declared.Outcome.TheVariants.{Good}
use Rattle.rules.specs.declared.Connection.{Connection}
use Rattle.rules.specs.declared.State.{State}
use Rattle.rules.proofs.PositionLaws.{place-md5}
use Rattle.rules.specs.Digest.{segment_digest}
use Rattle.rules.specs.Mac.{Flow}
use Rattle.rules.specs.Segment.{md5, is_bare_syn_of, rnext_key_id}
use Rattle.rules.specs.Connection.{Arrival, arrival_pair_of, local_address, remote_address, is_open_of, is_md5_of, arriving, arriving_syn}
use Rattle.rules.specs.Connection.{value}
use Rattle.rules.specs.Calls.{family_tests, address_tests, table_tests, input_tests, form_tests, pair_tests, stage_tests, md5_tests}
use Rattle.rules.specs.Calls.{digest_tests, judge_groups, check, syn_groups, check_syn_of}
use Rattle.rules.specs.Ends.{Typed, Facing, Delivered, SignedAt}
use Rattle.rules.proofs.GroupLaws.{first-clear, key-md5, mac-md5, syn-key-md5, syn-mac-md5}
use Rattle.rules.proofs.DigestLaws.{ReadsMd5}
use Rattle.rules.proofs.DeliveryLaws.{address-length, signs, comes}
use Rattle.rules.proofs.Md5DeliveryLaws.{digest, reads, same-digest}
use Rattle.rules.proofs.AcceptanceLaws.{syn-at, none-20, none-10}
use Rattle.rules.proofs.AcceptedLaws.{sized-by, none-23}

-- A segment that comes to the end that holds the pair p.
module _ (q : State) (e : Entry) (x : ℕ) (b : List ℕ) (g : SignedAt q e x b) (way : is_md5_of q.conn ≡ true) (p : Pair) (a : Arrival)
    (v : Delivered p b a) where
  abbrev came : List ℕ
  came = a.segment

  abbrev read : ReadsMd5 came (digest q e x b g way)
  read = reads q e x b g way p a v

  -- 19 and the tables
  none-19 : Typed q → Facing p q.conn.pair → (t : Tables) → ValidTables t → NoneApplies (input_tests t a.source a.destination)
  none-19 typed facing t valid =
      none-append (address_tests a.source a.destination) (table_tests t) (
        ap not
            (sized-by q.conn.pair.family a.source a.destination
            (ap length (v.source ∙ facing.remote) ∙ address-length q.conn.pair.family q.conn.pair.local typed.local)
            (ap length (v.destination ∙ facing.local) ∙ address-length q.conn.pair.family q.conn.pair.remote typed.remote)),
        tt,
      )
      (none-10 t valid)

  -- 21 and 22
  none-21 : NoneApplies (form_tests came)
  none-21 = (
    read.formed,
    (
      ap (ltb 1) read.no-ao,
      (
        ap (λ (n : ℕ). ltb 0 n && ltb 0 (md5 came).count) read.no-ao,
        (rw read.one, tt),
      ),
    ),
  )

  -- 46 to 29, where the entry that is found for the pair has the sender's key
  module _ (found : Found) (there : found.there ≡ true) (key : key_of found.entry.secret ≡ key_of e.secret) where
    none-46 : NoneApplies (md5_tests found came)
    none-46 = (
      ap (ltb 0) read.no-ao,
      (
        ap (λ (o : Occurrence). eqb o.count 0) read.one,
        (ap not there, (ap (λ (o : Occurrence). not (eqb o.len 18)) read.one, tt)),
      ),
    )

    none-29 : Facing p q.conn.pair → (f : Flow) → f.source ≡ remote_address p → f.destination ≡ local_address p
        → NoneApplies (digest_tests found.entry f came)
    none-29 facing f source destination = (
      ap not
          (same-of-eq _ _
          (read.digest
          ∙ sym
          ((λ j. segment_digest (key j) (source j) (destination j) came) ∙ same-digest q e x b g way p a v facing))),
      tt,
    )

  -- a bare SYN arrives as one, and what is none as none
  bare : (w : Bool) → is_bare_syn_of g.unsigned ≡ w → is_bare_syn_of came ≡ w
  bare w h = let c = comes q e x b g p a v in (λ j. c.its-syn j && not (c.its-ack j)) ∙ h

  -- a SYN is signed with our ISN as its number, and so it arrives
  syn-number : syn g.unsigned ≡ true → sequence came ≡ q.conn.isn
  syn-number its-syn =
      (comes q e x b g p a v).number ∙ ap value (sym (place-md5 q.conn q.sent (sequence g.unsigned) way) ∙ g.position)
      ∙ syn-at q e x b g its-syn

-- With a state, whose connection is l.
module _ (q : State) (e : Entry) (x : ℕ) (b : List ℕ) (g : SignedAt q e x b) (way : is_md5_of q.conn ≡ true) (typed : Typed q)
    (l : Connection) (here : is_md5_of l ≡ true) (a : Arrival) (v : Delivered l.pair b a) (facing : Facing l.pair q.conn.pair)
    (t : Tables) (valid : ValidTables t) (there : (md5_entry t l.pair).there ≡ true)
    (key : key_of (md5_entry t l.pair).entry.secret ≡ key_of e.secret) where
  -- accepted with its number, if the stage is right
  accepted : (reference : ℕ) → cond (is_open_of l) (is_bare_syn_of a.segment) (not (syn a.segment && ack a.segment)) ≡ false
      → check t l reference a ≡ Good (sequence a.segment) 0
  unfolding check
  accepted reference stage =
      first-clear (judge_groups t l reference a) _
      (record {
        input =
            none-append (family_tests l) (input_tests t a.source a.destination)
            (ap not (ap is_family_of facing.family ∙ (signs q e x b g).allowed), tt)
            (none-19 q e x b g way l.pair a v typed facing t valid);
        size = none-20 q e x b g l.pair a v;
        sum = (ap not v.right, tt);
        form = none-21 q e x b g way l.pair a v;
        arrival = none-append (pair_tests l.pair a) (stage_tests l a.segment) (none-23 l.pair b a v) (stage, tt);
        key =
            subst⁻¹ NoneApplies (key-md5 t l reference a here)
            (none-46 q e x b g way l.pair a v (md5_entry t l.pair) there key);
        mac =
            subst⁻¹ NoneApplies (mac-md5 t l reference a here)
            (none-29 q e x b g way l.pair a v (md5_entry t l.pair) there key facing (arriving l a.segment) refl refl);
      })
      ∙ ap₂ (λ (z : Place) (w : Bool). Good (value z) (cond w 0 (rnext_key_id a.segment)))
      (place-md5 l reference (sequence a.segment) here) here

  -- Once open, whatever the reference.
  pub open-accepted : is_open_of q.conn ≡ true → is_open_of l ≡ true → (reference : ℕ)
      → check t l reference a ≡ Good (sequence a.segment) 0
  open-accepted opened opens reference =
      accepted reference (rw opens (bare q e x b g way l.pair a v false (rw opened at (signs q e x b g).stage)))

  -- The SYN+ACK that opens: accepted by the end that is opening, at the peer's ISN, whatever else that state holds.
  pub syn-ack-accepted : is_open_of q.conn ≡ true → is_open_of l ≡ false → syn g.unsigned ≡ true → (reference : ℕ)
      → check t l reference a ≡ Good q.conn.isn 0
  syn-ack-accepted opened opening its-syn reference =
      accepted reference stage ∙ ap (λ (n : ℕ). Good n 0) (syn-number q e x b g way l.pair a v its-syn)
    where
      with-ack : ack g.unsigned ≡ true
      with-ack = not-false _ (rw (opened, its-syn) at (signs q e x b g).stage)

      stage : cond (is_open_of l) (is_bare_syn_of a.segment) (not (syn a.segment && ack a.segment)) ≡ false
      stage =
          let c = comes q e x b g l.pair a v in
          λ j. cond (opening j) (is_bare_syn_of a.segment) (not ((c.its-syn ∙ its-syn) j && (c.its-ack ∙ with-ack) j))

-- Without a state: a bare SYN that the opening end q signed, which comes under its own pair.
module _ (q : State) (e : Entry) (x : ℕ) (b : List ℕ) (g : SignedAt q e x b) (way : is_md5_of q.conn ≡ true) (typed : Typed q)
    (opening : is_open_of q.conn ≡ false) (a : Arrival) (v : Delivered (arrival_pair_of a) b a) (facing : Facing (arrival_pair_of a) q.conn.pair)
    (t : Tables) (valid : ValidTables t) (there : (md5_entry t (arrival_pair_of a)).there ≡ true)
    (key : key_of (md5_entry t (arrival_pair_of a)).entry.secret ≡ key_of e.secret) (strict : Bool) where
  is-bare : is_bare_syn_of g.unsigned ≡ true
  is-bare = not-false _ (rw opening at (signs q e x b g).stage)

  pub syn-accepted : check_syn_of t a strict ≡ Good q.conn.isn 0
  unfolding check_syn_of
  syn-accepted =
      first-clear (syn_groups t a strict) _
      (record {
        input = none-19 q e x b g way (arrival_pair_of a) a v typed facing t valid;
        size = none-20 q e x b g (arrival_pair_of a) a v;
        sum = (ap not v.right, tt);
        form = none-21 q e x b g way (arrival_pair_of a) a v;
        arrival = (ap not (bare q e x b g way (arrival_pair_of a) a v true is-bare), tt);
        key =
            subst⁻¹ NoneApplies (syn-key-md5 t a strict there)
            (none-46 q e x b g way (arrival_pair_of a) a v (md5_entry t (arrival_pair_of a)) there key);
        mac =
            subst⁻¹ NoneApplies (syn-mac-md5 t a strict there)
            (none-29 q e x b g way (arrival_pair_of a) a v (md5_entry t (arrival_pair_of a)) there key facing (arriving_syn a) v.source
            v.destination);
      })
      ∙ ap₂ (λ (n : ℕ) (w : Bool). Good n (cond w 0 (rnext_key_id a.segment)))
      (syn-number q e x b g way (arrival_pair_of a) a v (and-true (syn g.unsigned) (not (ack g.unsigned)) is-bare).0) there
