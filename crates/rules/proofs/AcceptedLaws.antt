-- One segment signed by TCP-AO, one judging call: the tests that the receiver makes of it all fail, on each of the three ways that it can go.
use Rattle.std.specs.Prelude.{ℕ, ◌-◌, ◌≡◌, Bool, true, false, ◌&&◌, List, ◌⊎◌, length, take, replicate, eqb, Some}
use Rattle.std.proofs.Math.Path.{refl, sym, subst⁻¹}
use Rattle.std.proofs.Common.{ap, ◌∙◌, inl, inr, arith, length-append, length-take-le, eq-eqb}
use Rattle.std.proofs.Math.Bool.{cond, not}
use Rattle.std.proofs.lemmas.List.{length-replicate}
use Rattle.std.proofs.lemmas.Bool.{not-false}
use Rattle.wire.proofs.BytesLaws.{same-of-eq}
use Rattle.wire.specs.Header.{sequence, syn, ack}
use Rattle.keys.specs.declared.entry.Pair.{Pair}
use Rattle.keys.specs.declared.entry.Entry.{Entry}
use Rattle.keys.specs.Entry.{width, padded}
use Rattle.keys.proofs.EntryLaws.{width-le}
use Rattle.keys.proofs.FormedLaws.{KeyProper}
use Rattle.keys.proofs.MatchLaws.{and-true}
use Rattle.keys.specs.Places.{At as EntryAt}
use Rattle.keys.specs.Mirror.{Mirror}
use Rattle.keys.specs.Table.{Found}
use Rattle.tables.specs.Tables.{Tables, recv_entry}
use Rattle.tables.specs.Valid.{ValidTables}
use Rattle.tables.proofs.ValidLaws.{valid-key}
use Rattle.tables.specs.Search.{hit}
use Rattle.tables.proofs.SearchLaws.{recv-found, send-holder, uncrossed}
use Rattle.rules.specs.Position.{Place, position, Near}
use Rattle.rules.specs.declared.Outcome.{Outcome}
use Rattle.rules.specs.declared.Outcome.TheVariants.{Good}
use Rattle.rules.specs.declared.Connection.{Connection}
use Rattle.rules.specs.declared.State.{State}
use Rattle.rules.proofs.PositionLaws.{complete, sound}
use Rattle.octets.specs.TestLaws.{NoneApplies, none-append}
use Rattle.rules.proofs.GroupLaws.{first-clear, key-ao, mac-ao, syn-key-ao, syn-mac-ao}
use Rattle.rules.specs.Mac.{Flow, leaving_hidden_of}
use Rattle.rules.proofs.MacLaws.{Alike}
use Rattle.rules.specs.Segment.{key_id_of, is_bare_syn_of}
use Rattle.rules.specs.Connection.{sized, Arrival, local_address, remote_address, arrival_pair_of, is_open_of, is_md5_of, arriving}
use Rattle.rules.specs.Connection.{arriving_syn, leaving, place_on_lem, value, extension_of_lem}
use Rattle.rules.specs.Calls.{refuse, family_tests, address_tests, table_tests, input_tests, pair_tests, stage_tests, key_tests, mac_tests}
use Rattle.rules.specs.Calls.{judge_groups, check, syn_missing_of, syn_unknown_of, syn_is_md5, syn_groups, check_syn_of}
use Rattle.rules.specs.Lent.{tables}
use Rattle.rules.specs.Ends.{Typed, Allowed, FacingUnder, OtherEnd, Delivered, SignedAt, TrueSegment}
use Rattle.rules.specs.Demand3.{Within}
use Rattle.rules.proofs.RoundTripLaws.{Arrived}
use Rattle.rules.proofs.DeliveryLaws.{address-length, outgoing-ao, outgoing-md5, signs, mac, reads}
use Rattle.rules.proofs.LentLaws.{lent-found-md5}
use Rattle.rules.proofs.AcceptanceLaws.{sequence-below, syn-at, none-20, none-21, none-10, keyed}

pub sized-by : (f : ℕ) (a b : List ℕ) → length a ≡ width f → length b ≡ width f → sized a b ≡ true
unfolding width
sized-by f a b p q = go (eqb f 4) refl
  where
    go : (w : Bool) → eqb f 4 ≡ w → sized a b ≡ true
    go true e = rw (p, q, e)
    go false e = rw (p, q, e)

-- an address of a pair that is made from two addresses
padded-length : (f : ℕ) (a : List ℕ) → length (take (width f) (padded a)) ≡ width f
padded-length f a =
    length-take-le (width f) (padded a)
    (omega (arith, width-le f, length-append a (replicate (16 - length a) 0), length-replicate {A = ℕ} (16 - length a) 0))

-- 23: what comes under the pair p
pub none-23 : (p : Pair) (b : List ℕ) (a : Arrival) → Delivered p b a → NoneApplies (pair_tests p a)
none-23 p b a v = (
  ap not (same-of-eq _ _ v.source),
  (
    ap not (same-of-eq _ _ v.destination),
    (ap not (eq-eqb _ _ v.source-port), (ap not (eq-eqb _ _ v.destination-port), tt)),
  ),
)

-- A segment that comes to the end that holds the pair p, whose entry `ours` mirrors the sender's.
module _ (q : State) (typed : Typed q) (way : is_md5_of q.conn ≡ false) (e : Entry) (x : ℕ) (b : List ℕ) (g : SignedAt q e x b) (p : Pair)
    (a : Arrival) (v : Delivered p b a) (facing : FacingUnder e.secret p q.conn.pair) (t : Tables) (valid : ValidTables t) (i : ℕ)
    (ours : Entry) (among : EntryAt t.keys i ours) (mirror : Mirror p q.conn.pair ours e)
    (local : length (local_address p) ≡ width p.family) (remote : length (remote_address p) ≡ width p.family) where
  abbrev came : List ℕ
  came = a.segment

  abbrev read : Arrived g.unsigned came q.send_id q.ask_id (mac q e x b g way)
  read = reads q e x b g way p a v

  -- the entry signed under has the outgoing SendID
  its-id : e.ids.send ≡ q.send_id
  its-id =
      let o = outgoing-ao (tables g.lent) q way in
      ap (λ (f : Entry). f.ids.send) (sym g.under) ∙ ap (λ (f : Found). f.entry.ids.send) o
      ∙ (send-holder (tables g.lent) q.conn.pair q.send_id (sym (ap (λ (f : Found). f.there) o) ∙ (signs q e x b g).entry)).1

  found : recv_entry t p (key_id_of came) ≡ hit i ours
  found = recv-found t p (key_id_of came) i ours valid among mirror.here (mirror.received ∙ its-id ∙ sym read.reads.key)

  -- 19 and the table
  none-19 : NoneApplies (input_tests t a.source a.destination)
  none-19 =
      none-append (address_tests a.source a.destination) (table_tests t)
      (ap not (sized-by p.family a.source a.destination (ap length v.source ∙ remote) (ap length v.destination ∙ local)), tt)
      (none-10 t valid)

  -- 25 to 29, at a place y with the sender's extension: its flow is the sender's, but for what is hidden
  none-25 : (missing unknown : Outcome) (f : Flow) (y : ℕ) → f.source ≡ remote_address p → f.destination ≡ local_address p
      → p.remote_port ≡ f.source_port → p.local_port ≡ f.destination_port
      → f.source_isn ≡ (leaving q.conn).source_isn → f.destination_isn ≡ (leaving q.conn).destination_isn → extension_of_lem y ≡ extension_of_lem x
      → NoneApplies (key_tests missing unknown (recv_entry t p (key_id_of came)) (Some y) came)
      × NoneApplies (mac_tests (recv_entry t p (key_id_of came)).entry f (Some y) came)
  none-25 missing unknown f y from to source-port destination-port source-isn destination-isn ext =
      keyed q e x b g way p a v missing unknown i ours f y (recv_entry t p (key_id_of came)) mirror found alike source-port destination-port ext
    where
      size : (address : List ℕ) → length address ≡ 16 → width p.family ≡ length (take (width q.conn.pair.family) address)
      size address l = ap width facing.family ∙ sym (address-length q.conn.pair.family address l)

      alike : Alike (leaving_hidden_of e.secret) f (leaving q.conn)
      alike =
          record {
            source-length = ap length from ∙ remote ∙ size q.conn.pair.local typed.local;
            destination-length = ap length to ∙ local ∙ size q.conn.pair.remote typed.remote;
            source = λ h. from ∙ facing.remote h;
            destination = λ h. to ∙ facing.local h;
            source-port = λ h. sym source-port ∙ facing.remote-port h;
            destination-port = λ h. sym destination-port ∙ facing.local-port h;
            source-isn = source-isn;
            destination-isn = destination-isn;
          }

-- With a state, whose connection is l.
module _ (q : State) (typed : Typed q) (way : is_md5_of q.conn ≡ false) (e : Entry) (x : ℕ) (b : List ℕ) (g : SignedAt q e x b)
    (l : Connection) (a : Arrival) (v : Delivered l.pair b a) (facing : FacingUnder e.secret l.pair q.conn.pair) (t : Tables)
    (valid : ValidTables t) (i : ℕ) (ours : Entry) (among : EntryAt t.keys i ours) (mirror : Mirror l.pair q.conn.pair ours e)
    (way-here : is_md5_of l ≡ false) (allowed : Allowed l) (local : length l.pair.local ≡ 16) (remote : length l.pair.remote ≡ 16) where
  abbrev came-there : List ℕ
  came-there = a.segment

  abbrev read-there : Arrived g.unsigned came-there q.send_id q.ask_id (mac q e x b g way)
  read-there = reads q e x b g way l.pair a v

  local-size : length (local_address l.pair) ≡ width l.pair.family
  local-size = address-length l.pair.family l.pair.local local

  remote-size : length (remote_address l.pair) ≡ width l.pair.family
  remote-size = address-length l.pair.family l.pair.remote remote

  -- accepted at a place of the same extension, if the stage is right and the ISNs are the sender's
  accepted : (reference y : ℕ) → cond (is_open_of l) (is_bare_syn_of came-there) (not (syn came-there && ack came-there)) ≡ false
      → (arriving l came-there).source_isn ≡ (leaving q.conn).source_isn → (arriving l came-there).destination_isn ≡ (leaving q.conn).destination_isn
      → place_on_lem l reference (sequence came-there) ≡ Some y → extension_of_lem y ≡ extension_of_lem x → check t l reference a ≡ Good y q.ask_id
  unfolding check
  accepted reference y stage source-isn destination-isn place ext =
      first-clear (judge_groups t l reference a) _
      (record {
        input =
            none-append (family_tests l) (input_tests t a.source a.destination) (ap not allowed, tt)
            (none-19 q typed way e x b g l.pair a v facing t valid i ours among mirror local-size remote-size);
        size = none-20 q e x b g l.pair a v;
        sum = (ap not v.right, tt);
        form = none-21 q e x b g way l.pair a v;
        arrival = none-append (pair_tests l.pair a) (stage_tests l came-there) (none-23 l.pair b a v) (stage, tt);
        key = subst⁻¹ NoneApplies (key-ao t l reference a way-here) keys.0;
        mac = subst⁻¹ NoneApplies (mac-ao t l reference a way-here) keys.1;
      })
      ∙ (λ j. Good (value (place j)) (cond (way-here j) 0 (read-there.reads.next j)))
    where
      Keys : Place → Type 0
      Keys z = NoneApplies (key_tests (refuse 25) (refuse 26) (recv_entry t l.pair (key_id_of came-there)) z came-there)
          × NoneApplies (mac_tests (recv_entry t l.pair (key_id_of came-there)).entry (arriving l came-there) z came-there)

      keys : Keys (place_on_lem l reference (sequence came-there))
      keys =
          subst⁻¹ Keys place
          (none-25 q typed way e x b g l.pair a v facing t valid i ours among mirror local-size remote-size (refuse 25) (refuse 26)
          (arriving l came-there) y refl refl refl refl source-isn destination-isn ext)

  -- a segment that is no bare SYN arrives as none
  not-bare : (w : Bool) → is_bare_syn_of g.unsigned ≡ w → is_bare_syn_of came-there ≡ w
  not-bare w h = (λ j. read-there.its-syn j && not (read-there.its-ack j)) ∙ h

  -- the position by which it was signed, where the sender is open
  signed-near : is_open_of q.conn ≡ true → Near q.sent (sequence g.unsigned) x
  signed-near opens =
      sound q.sent (sequence g.unsigned) x (sequence-below g.unsigned g.octets) typed.sent (rw (opens, way) at g.position)

  -- Once open: accepted at the true position, with the sender's extension, by every reference less than 2^31 away.
  pub open-accepted : OtherEnd e.secret l q.conn → (reference : ℕ) → Within reference x
      → check t l reference a ≡ Good x q.ask_id
  open-accepted other reference near =
      accepted reference x (rw other.here (not-bare false (rw other.there at (signs q e x b g).stage)))
      (ap (λ (w : Bool). cond w l.peer_isn (sequence came-there)) other.here ∙ other.peer)
      (other.isn ∙ ap (λ (w : Bool). cond w q.conn.peer_isn 0) (sym other.there)) place refl
    where
      place : place_on_lem l reference (sequence came-there) ≡ Some x
      place =
          let n = signed-near other.there in
          (λ j. cond (other.here j && not (way-here j)) (position reference (sequence came-there)) (Some (sequence came-there)))
          ∙ ap (position reference) read-there.number
          ∙ complete reference (sequence g.unsigned) x (record { remainder = n.remainder; above = omega arith; below = omega arith; fits = n.fits })

  -- The SYN+ACK that opens: accepted by the end that is opening, at the peer's ISN, whatever else that state holds.
  pub syn-ack-accepted : is_open_of q.conn ≡ true → is_open_of l ≡ false → l.isn ≡ q.conn.peer_isn → syn g.unsigned ≡ true → (reference : ℕ)
      → check t l reference a ≡ Good q.conn.isn q.ask_id
  syn-ack-accepted there here isn its-syn reference =
      accepted reference q.conn.isn stage
      (ap (λ (w : Bool). cond w l.peer_isn (sequence came-there)) here ∙ number)
      (isn ∙ ap (λ (w : Bool). cond w q.conn.peer_isn 0) (sym there)) place (ap extension_of_lem (sym (syn-at q e x b g its-syn)))
    where
      number : sequence came-there ≡ q.conn.isn
      number =
          let n = signed-near there in
          let z = syn-at q e x b g its-syn in
          let w = typed.isn in
          let k : sequence g.unsigned ≡ q.conn.isn = omega arith in
          read-there.number ∙ k

      with-ack : ack g.unsigned ≡ true
      with-ack = not-false _ (rw (there, its-syn) at (signs q e x b g).stage)

      stage : cond (is_open_of l) (is_bare_syn_of came-there) (not (syn came-there && ack came-there)) ≡ false
      stage = λ j. cond (here j) (is_bare_syn_of came-there) (not ((read-there.its-syn ∙ its-syn) j && (read-there.its-ack ∙ with-ack) j))

      place : place_on_lem l reference (sequence came-there) ≡ Some q.conn.isn
      place =
          (λ j. cond (here j && not (is_md5_of l)) (position reference (sequence came-there)) (Some (sequence came-there))) ∙ ap Some number

-- Without a state: a bare SYN that the opening end q signed, which comes under its own pair.
module _ (q : State) (typed : Typed q) (way : is_md5_of q.conn ≡ false) (opening : is_open_of q.conn ≡ false) (e : Entry) (x : ℕ)
    (b : List ℕ) (g : SignedAt q e x b) (a : Arrival) (v : Delivered (arrival_pair_of a) b a)
    (facing : FacingUnder e.secret (arrival_pair_of a) q.conn.pair) (t : Tables) (valid : ValidTables t) (strict : Bool) (i : ℕ)
    (ours : Entry) (among : EntryAt t.keys i ours) (mirror : Mirror (arrival_pair_of a) q.conn.pair ours e) where
  abbrev syn-came : List ℕ
  syn-came = a.segment

  abbrev syn-read : Arrived g.unsigned syn-came q.send_id q.ask_id (mac q e x b g way)
  syn-read = reads q e x b g way (arrival_pair_of a) a v

  bare : is_bare_syn_of g.unsigned ≡ true
  bare = not-false _ (rw opening at (signs q e x b g).stage)

  its-syn : syn g.unsigned ≡ true
  its-syn = (and-true (syn g.unsigned) (not (ack g.unsigned)) bare).0

  syn-number : sequence syn-came ≡ q.conn.isn
  syn-number =
      let z : sequence g.unsigned ≡ x = cc (rw opening at g.position) in
      syn-read.number ∙ z ∙ syn-at q e x b g its-syn

  syn-local : length (local_address (arrival_pair_of a)) ≡ width (arrival_pair_of a).family
  syn-local = padded-length (arrival_pair_of a).family a.destination

  syn-remote : length (remote_address (arrival_pair_of a)) ≡ width (arrival_pair_of a).family
  syn-remote = padded-length (arrival_pair_of a).family a.source

  pub syn-found : recv_entry t (arrival_pair_of a) (key_id_of syn-came) ≡ hit i ours
  syn-found = found q typed way e x b g (arrival_pair_of a) a v facing t valid i ours among mirror syn-local syn-remote

  -- a key entry matches the pair, so no MD5 entry does
  pub syn-way : syn_is_md5 t (arrival_pair_of a) ≡ false
  syn-way = uncrossed t (arrival_pair_of a) i ours valid among mirror.here

  pub syn-accepted : check_syn_of t a strict ≡ Good q.conn.isn q.ask_id
  unfolding check_syn_of
  syn-accepted =
      first-clear (syn_groups t a strict) _
      (record {
        input = none-19 q typed way e x b g (arrival_pair_of a) a v facing t valid i ours among mirror syn-local syn-remote;
        size = none-20 q e x b g (arrival_pair_of a) a v;
        sum = (ap not v.right, tt);
        form = none-21 q e x b g way (arrival_pair_of a) a v;
        arrival = (ap not ((λ j. syn-read.its-syn j && not (syn-read.its-ack j)) ∙ bare), tt);
        key = subst⁻¹ NoneApplies (syn-key-ao t a strict syn-way) keys.0;
        mac = subst⁻¹ NoneApplies (syn-mac-ao t a strict syn-way) keys.1;
      })
      ∙ (λ j. Good (syn-number j) (cond (syn-way j) 0 (syn-read.reads.next j)))
    where
      keys : NoneApplies (key_tests (syn_missing_of t (arrival_pair_of a)) (syn_unknown_of t (arrival_pair_of a) strict)
          (recv_entry t (arrival_pair_of a) (key_id_of syn-came)) (Some (sequence syn-came)) syn-came)
          × NoneApplies (mac_tests (recv_entry t (arrival_pair_of a) (key_id_of syn-came)).entry (arriving_syn a) (Some (sequence syn-came)) syn-came)
      keys =
          none-25 q typed way e x b g (arrival_pair_of a) a v facing t valid i ours among mirror syn-local syn-remote (syn_missing_of t (arrival_pair_of a))
          (syn_unknown_of t (arrival_pair_of a) strict) (arriving_syn a) (sequence syn-came) v.source v.destination refl refl syn-number
          (ap (λ (w : Bool). cond w q.conn.peer_isn 0) (sym opening)) (ap extension_of_lem (syn-number ∙ sym (syn-at q e x b g its-syn)))

-- A true segment of demand 3 is such a one. By MD5 it would be signed under an entry of algorithm 19, which no key entry mirrors.
no-md5 : (a : ℕ) → (a ≡ 1) ⊎ ((a ≡ 2) ⊎ (a ≡ 3)) → a ≡ 19 → ⊥
no-md5 a (inl h) z = let y : ◌≡◌ {A = ℕ} 1 19 = sym h ∙ z in omega arith
no-md5 a (inr (inl h)) z = let y : ◌≡◌ {A = ℕ} 2 19 = sym h ∙ z in omega arith
no-md5 a (inr (inr h)) z = let y : ◌≡◌ {A = ℕ} 3 19 = sym h ∙ z in omega arith

signed-by-ao : (q : State) (e ours : Entry) (x : ℕ) (b : List ℕ) → SignedAt q e x b → KeyProper ours → ours.secret.algorithm ≡ e.secret.algorithm
    → is_md5_of q.conn ≡ false
signed-by-ao q e ours x b g proper same = go (is_md5_of q.conn) refl
  where
    go : (w : Bool) → is_md5_of q.conn ≡ w → is_md5_of q.conn ≡ false
    go false way = way
    go true way =
        let o = outgoing-md5 (tables g.lent) q way in
        let m =
        lent-found-md5 g.lent q.conn.pair (signs q e x b g).taken (sym (ap (λ (f : Found). f.there) o) ∙ (signs q e x b g).entry)
        in
        let its : e.secret.algorithm ≡ 19 =
        ap (λ (f : Entry). f.secret.algorithm) (sym g.under) ∙ ap (λ (f : Found). f.entry.secret.algorithm) o ∙ m.algorithm
        in
        absurd (no-md5 ours.secret.algorithm proper.algorithm (same ∙ its))

pub true-good : (t : Tables) → ValidTables t → (l : Connection) → is_md5_of l ≡ false → Allowed l → length l.pair.local ≡ 16 → length l.pair.remote ≡ 16
    → (reference : ℕ) (a : Arrival) (x r : ℕ) → TrueSegment t l a x r → Within reference x → check t l reference a ≡ Good x r
true-good t valid l way allowed local remote reference a x r s near =
    open-accepted s.peer s.typed
    (signed-by-ao s.peer s.theirs s.ours x s.bytes s.signed (valid-key valid.held s.among) s.mirror.algorithm) s.theirs x s.bytes s.signed l a s.delivered s.other.pair t valid s.place
    s.ours s.among s.mirror way allowed local remote s.other reference near
    ∙ ap (Good x) s.asks
