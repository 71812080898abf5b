-- Demand 2, proved: the statements of Demand2.antt.
use Rattle.std.specs.Prelude.{ℕ, ◌+◌, ◌*◌, ◌/◌, ◌^◌, ◌≤◌, ◌<◌, ◌≡◌, refl, true, false, List, length, get_or, take, eqb}
use Rattle.std.proofs.Math.Path.{ap, subst⁻¹}
use Rattle.std.proofs.Common.{sym, ◌∙◌, subst₂, arith, length-drop, take_at, eqb-true}
use Rattle.std.proofs.Math.Bool.{Bool, cond}
use Rattle.wire.specs.Header.{source_port_of, destination_port_of}
use Rattle.keys.specs.declared.entry.Entry.{Entry}
use Rattle.keys.specs.Table.{Found}
use Rattle.keys.specs.Entry.{is_family_of, width, padded}
use Rattle.tables.specs.Tables.{Tables, no_index, recv_entry}
use Rattle.rules.specs.declared.Outcome.{Outcome}
use Rattle.rules.specs.declared.Outcome.TheVariants.{Good}
use Rattle.rules.specs.declared.Verdict.TheVariants.{Accept}
use Rattle.rules.specs.declared.Connection.{Connection}
use Rattle.rules.specs.declared.State.{State}
use Rattle.rules.specs.declared.Judged.{Judged}
use Rattle.rules.specs.Segment.{key_id_of}
use Rattle.rules.specs.Connection.{Arrival, remote_address, arrival_pair_of, is_open_of, is_md5_of, ao_way, md5_way, extension_of_lem}
use Rattle.rules.specs.Connection.{next_key_of, opened, with_accepted_of}
use Rattle.rules.specs.Calls.{check, check_syn_of, verdict_of_lem, index_of, judged_by, judged, judged_syn, opened_by_lem, opened_passively}
use Rattle.rules.specs.Calls.{syn_is_md5}
use Rattle.rules.specs.Ends.{Typed, FacingUnder, OtherEnd, rechecked, with_ports, Delivered, SignedAt, Holds}
use Rattle.rules.specs.Demand2.{SignedRight, SentComes, SentFaces, FacesUnder, rewritten, RewrittenComes, FacesBack, OpenSegment, SynAck}
use Rattle.rules.specs.Demand2.{BareSyn, BareSynOpens, OpenedTogether}
use Rattle.rules.proofs.PortLaws.{Ports, ports_of_lem, written, read_again, Small, own-ports}
use Rattle.rules.proofs.ChecksumLaws.{rechecked-self, checked-is, checked-ports, checked-right}
use Rattle.rules.proofs.DeliveryLaws.{address-length, signs, wrote_right, wrote-long, wrote-ports}
use Rattle.rules.proofs.AcceptedLaws.{open-accepted, syn-ack-accepted, syn-found, syn-way, syn-accepted}

-- the family of addresses is told by their size
family-by : (f n : ℕ) → is_family_of f ≡ true → n ≡ width f → cond (eqb n 4) 4 6 ≡ f
unfolding width is_family_of
family-by f n a h = go (eqb f 4) (eqb f 6) refl refl
  where
    go : (u w : Bool) → eqb f 4 ≡ u → eqb f 6 ≡ w → cond (eqb n 4) 4 6 ≡ f
    go true w p r = rw (h, p) (sym (eqb-true f 4 p))
    go false true p r = rw (h, p) (sym (eqb-true f 6 r))
    go false false p r = let z : ◌≡◌ {A = ℕ} 0 1 = cc (rw (p, r) at a) in absurd (omega arith)

abbrev source_of : Ports → ℕ
source_of u = u.b0 * 2 ^ 8 + u.b1

abbrev destination_of : Ports → ℕ
destination_of u = u.b2 * 2 ^ 8 + u.b3

pub low-extension : (n : ℕ) → n < 2 ^ 32 → n / 2 ^ 32 ≡ 0
low-extension n h = omega arith

-- what the call returns where its tests come to Good, by the receiver's stage, on the TCP-AO way
judged-open : (t : Tables) (p : State) (a : Arrival) (x r : ℕ) → is_open_of p.conn ≡ true → is_md5_of p.conn ≡ false
    → check t p.conn p.seen a ≡ Good x r
    → judged t a p ≡ record {
      verdict = Accept (extension_of_lem x);
      index = no_index;
      state = with_accepted_of x (next_key_of t p.conn.pair r p.send_id) p;
    }
unfolding judged
judged-open t p a x r opens way e = ap (judged_by t p) e ∙ rw (opens, way)

judged-opening : (t : Tables) (p : State) (a : Arrival) (x r : ℕ) → is_open_of p.conn ≡ false → is_md5_of p.conn ≡ false
    → check t p.conn p.seen a ≡ Good x r
    → judged t a p ≡ record {
      verdict = Accept (extension_of_lem x);
      index = no_index;
      state = opened p.conn.way p.conn.pair p.conn.isn x (next_key_of t p.conn.pair r p.send_id) p.ask_id;
    }
unfolding judged
judged-opening t p a x r opening way e = ap (judged_by t p) e ∙ rw (opening, way)

pub signed-right : SignedRight
signed-right q e x b typed g = wrote_right q e x b g typed

-- the ports that signing leaves
left-ports : (q : State) (e : Entry) (x : ℕ) (b : List ℕ) (g : SignedAt q e x b)
    → (source_port_of b ≡ q.conn.pair.local_port) × (destination_port_of b ≡ q.conn.pair.remote_port)
left-ports q e x b g =
    let w = wrote-ports q e x b g in
    (ap source_of w ∙ (signs q e x b g).source-port, ap destination_of w ∙ (signs q e x b g).destination-port)

pub sent-comes : SentComes
sent-comes q e x b typed g p facing =
    record {
      source = sym facing.remote;
      destination = sym facing.local;
      source-port = from;
      destination-port = to;
      high = get_or b 16 0;
      low = get_or b 17 0;
      segment =
          sym (rechecked-self b (omega (arith, wrote-long q e x b g)))
          ∙ ap (rechecked (get_or b 16 0) (get_or b 17 0)) (sym (own-ports b (omega (arith, wrote-long q e x b g)) small))
          ∙ (λ j. rechecked (get_or b 16 0) (get_or b 17 0) (with_ports (from j) (to j) b));
      right = signed-right q e x b typed g;
    }
  where
    from : source_port_of b ≡ p.remote_port
    from = (left-ports q e x b g).0 ∙ sym facing.remote-port

    to : destination_port_of b ≡ p.local_port
    to = (left-ports q e x b g).1 ∙ sym facing.local-port

    small : Small (ports_of_lem b)
    small = subst⁻¹ Small (wrote-ports q e x b g) (g.octets 0, g.octets 1, g.octets 2, g.octets 3)

-- what was rewritten comes under the pair that it was rewritten to
pub rewritten-comes : RewrittenComes
rewritten-comes q e x b g p typed local remote =
    record {
      source = refl;
      destination = refl;
      source-port = ap source_of ports ∙ read_again p.conn.pair.remote_port remote;
      destination-port = ap destination_of ports ∙ read_again p.conn.pair.local_port local;
      high = get_or checked 16 0;
      low = get_or checked 17 0;
      segment = checked-is _ _ moved long;
      right =
          checked-right _ _ moved long
          (address-length p.conn.pair.family p.conn.pair.remote typed.remote
          ∙ sym (address-length p.conn.pair.family p.conn.pair.local typed.local));
    }
  where
    moved : List ℕ
    moved = with_ports p.conn.pair.remote_port p.conn.pair.local_port b

    checked : List ℕ
    checked = (rewritten p.conn.pair b).segment

    long : 18 ≤ length moved
    long = omega (arith, length-drop 4 b, wrote-long q e x b g)

    ports : ports_of_lem checked ≡ written p.conn.pair.remote_port p.conn.pair.local_port
    ports = checked-ports _ _ moved long

pub faces-under : FacesUnder
faces-under s p q f =
    record {
      family = f.family;
      local = λ h. f.local;
      remote = λ h. f.remote;
      local-port = λ h. f.local-port;
      remote-port = λ h. f.remote-port;
    }

pub faces-back : FacesBack
faces-back p q ours theirs m f =
    record {
      family = sym f.family;
      local = λ h. sym (f.remote (sym m.remote-hidden ∙ h));
      remote = λ h. sym (f.local (sym m.local_hidden ∙ h));
      local-port = λ h. sym (f.remote-port (sym m.remote-hidden ∙ h));
      remote-port = λ h. sym (f.local-port (sym m.local_hidden ∙ h));
    }

-- one pair, from both ends
pub sent-faces : SentFaces
sent-faces q e x b typed g =
    record {
      family = family;
      local = whole q.conn.pair.remote typed.remote;
      remote = whole q.conn.pair.local typed.local;
      local-port = (left-ports q e x b g).1;
      remote-port = (left-ports q e x b g).0;
    }
  where
    family : cond (eqb (length (remote_address q.conn.pair)) 4) 4 6 ≡ q.conn.pair.family
    family =
        family-by q.conn.pair.family _ (signs q e x b g).allowed
        (address-length q.conn.pair.family q.conn.pair.remote typed.remote)

    whole : (a : List ℕ) → length a ≡ 16
        → take (width (cond (eqb (length (remote_address q.conn.pair)) 4) 4 6)) (padded (take (width q.conn.pair.family) a))
        ≡ take (width q.conn.pair.family) a
    whole a h =
        ap (λ (n : ℕ). take (width n) (padded (take (width q.conn.pair.family) a))) family
        ∙ take_at (take (width q.conn.pair.family) a) _ (width q.conn.pair.family) (address-length q.conn.pair.family a h)

pub open-segment : OpenSegment
open-segment q e x b a t p tq tp allowed there here other g v h near =
    judged-open t p a x q.ask_id other.here here
    (open-accepted q tq there e x b g p.conn a v other.pair t h.valid h.place h.ours h.among h.mirror here allowed
    tp.local tp.remote other p.seen near)

pub syn-ack : SynAck
syn-ack q e x b a t p tq tp allowed way-there way-here there here facing isn g its-syn v h =
    judged-opening t p a q.conn.isn q.ask_id here way-here
    (syn-ack-accepted q tq way-there e x b g p.conn a v facing t h.valid h.place h.ours h.among h.mirror way-here allowed
    tp.local tp.remote there here isn its-syn p.seen)
    ∙ (λ j. record {
      verdict = Accept (low-extension q.conn.isn tq.isn j);
      index = no_index;
      state =
          opened p.conn.way p.conn.pair p.conn.isn q.conn.isn (next_key_of t p.conn.pair q.ask_id p.send_id)
          p.ask_id;
    })

-- The bare SYN of an opening end.
module _ (q : State) (e : Entry) (x : ℕ) (b : List ℕ) (a : Arrival) (t : Tables) (typed : Typed q) (way : is_md5_of q.conn ≡ false)
    (opening : is_open_of q.conn ≡ false) (facing : FacingUnder e.secret (arrival_pair_of a) q.conn.pair) (g : SignedAt q e x b)
    (v : Delivered (arrival_pair_of a) b a) (h : Holds t (arrival_pair_of a) q.conn.pair e) (strict : Bool) where
  syn-good : check_syn_of t a strict ≡ Good q.conn.isn q.ask_id
  syn-good =
      syn-accepted q typed way opening e x b g a v facing t h.valid strict h.place h.ours h.among h.mirror

  syn-entry : (recv_entry t (arrival_pair_of a) (key_id_of a.segment)).entry ≡ h.ours
  syn-entry =
      ap (λ (f : Found). f.entry)
      (syn-found q typed way opening e x b g a v facing t h.valid strict h.place h.ours h.among h.mirror)

  its-way : syn_is_md5 t (arrival_pair_of a) ≡ false
  its-way = syn-way q typed way opening e x b g a v facing t h.valid strict h.place h.ours h.among h.mirror

  syn-judged : judged_syn t a strict ≡ record { verdict = Accept 0; index = no_index }
  unfolding judged_syn
  syn-judged =
      ap (λ (o : Outcome). record { verdict = verdict_of_lem o; index = index_of o }) syn-good
      ∙ ap (λ (n : ℕ). record { verdict = Accept n; index = no_index }) (low-extension q.conn.isn typed.isn)

  syn-opens : (isn : ℕ)
      → opened_passively t a isn strict ≡ record {
        verdict = Accept 0;
        index = no_index;
        state =
            opened ao_way (arrival_pair_of a) isn q.conn.isn (next_key_of t (arrival_pair_of a) q.ask_id h.ours.ids.send) h.ours.ids.recv;
      }
  unfolding opened_passively
  syn-opens isn =
      (λ j. record {
        verdict = verdict_of_lem (syn-good j);
        index = index_of (syn-good j);
        state = opened_by_lem t (arrival_pair_of a) isn (syn-entry j) (syn-good j);
      })
      ∙ (λ j. record {
        verdict = Accept (low-extension q.conn.isn typed.isn j);
        index = no_index;
        state = opens (its-way j);
      })
    where
      opens : Bool → State
      opens md5 =
          cond md5 (opened md5_way (arrival_pair_of a) isn q.conn.isn 0 0)
          (opened ao_way (arrival_pair_of a) isn q.conn.isn (next_key_of t (arrival_pair_of a) q.ask_id h.ours.ids.send) h.ours.ids.recv)

pub bare-syn : BareSyn
bare-syn = syn-judged

pub bare-syn-opens : BareSynOpens
bare-syn-opens = syn-opens

-- The three steps of an opening.
pub opened-together : OpenedTogether
opened-together active e x b a t typed way opening facing g v h strict isn passive f y c r u now tp tn at-passive at-now back k its-syn w j = (
  subst⁻¹ (λ (z : Connection). OtherEnd f.secret z passive.conn) opens
      (record { here = refl; there = there; pair = back; isn = isns; peer = refl }),
  subst⁻¹ (λ (z : Connection). OtherEnd e.secret passive.conn z) opens
      (record { here = there; there = refl; pair = forth; isn = refl; peer = sym isns }),
)
  where
    conn : passive.conn ≡ record { stage = 1; way = 0; pair = arrival_pair_of a; isn = isn; peer_isn = active.conn.isn }
    conn = at-passive ∙ ap (λ (r : Judged). r.state.conn) (syn-opens active e x b a t typed way opening facing g v h strict isn)

    there : is_open_of passive.conn ≡ true
    there = ap is_open_of conn

    isns : now.conn.isn ≡ passive.conn.peer_isn
    isns = ap (λ (l : Connection). l.isn) at-now ∙ ap (λ (l : Connection). l.peer_isn) (sym conn)

    forth : FacingUnder e.secret passive.conn.pair now.conn.pair
    forth = subst₂ (λ (l m : Connection). FacingUnder e.secret l.pair m.pair) (sym conn) (sym at-now) facing

    opens : (judged u r now).state.conn
        ≡ record { stage = 1; way = now.conn.way; pair = now.conn.pair; isn = now.conn.isn; peer_isn = passive.conn.isn }
    opens =
        ap (λ (z : Judged). z.state.conn)
        (syn-ack passive f y c r u now tp tn (ap (λ (l : Connection). is_family_of l.pair.family) at-now ∙ (signs active e x b g).allowed)
        (ap is_md5_of conn) (ap is_md5_of at-now ∙ way) there (ap is_open_of at-now ∙ opening) back isns k its-syn w j)
