-- Demand 2 on the MD5 way, proved: the statements of Demand2Md5.antt.
use Rattle.std.specs.Prelude.{ℕ, ◌^◌, ◌<◌, ◌≡◌, Bool, true, false, List}
use Rattle.std.proofs.Math.Path.{ap, subst⁻¹}
use Rattle.std.proofs.Common.{sym, ◌∙◌, subst₂, arith}
use Rattle.wire.specs.Header.{sequence}
use Rattle.keys.specs.declared.entry.Pair.{Pair}
use Rattle.keys.specs.declared.entry.Entry.{Entry}
use Rattle.keys.specs.Table.{Found}
use Rattle.keys.specs.Entry.{key_of}
use Rattle.tables.specs.Tables.{Tables, no_index, recv_entry, md5_entry}
use Rattle.tables.specs.Search.{hit}
use Rattle.tables.proofs.SearchLaws.{md5-found}
use Rattle.rules.specs.declared.Outcome.{Outcome}
use Rattle.rules.specs.declared.Outcome.TheVariants.{Good}
use Rattle.rules.specs.declared.Verdict.TheVariants.{Accept}
use Rattle.rules.specs.declared.Connection.{Connection}
use Rattle.rules.specs.declared.State.{State}
use Rattle.rules.specs.declared.Judged.{Judged}
use Rattle.rules.specs.Segment.{key_id_of}
use Rattle.rules.specs.Connection.{Arrival, arrival_pair_of, is_open_of, is_md5_of, md5_way, opened, with_counted_of}
use Rattle.rules.specs.Calls.{check, check_syn_of, verdict_of_lem, index_of, judged_by, judged, judged_syn, opened_by_lem, opened_passively}
use Rattle.rules.specs.Ends.{Typed, Facing, Delivered, SignedAt, HoldsMd5}
use Rattle.rules.specs.Demand2Md5.{OpenSegmentMd5, SynAckMd5, BareSynMd5, BareSynOpensMd5, OtherEndMd5, OpenedTogetherMd5}
use Rattle.rules.proofs.DeliveryLaws.{comes}
use Rattle.rules.proofs.Demand2Laws.{low-extension}
use Rattle.rules.proofs.Md5AcceptedLaws.{open-accepted, syn-ack-accepted, syn-accepted}
use Rattle.rules.proofs.AcceptanceLaws.{sequence-below}

-- what the call returns where its tests come to Good, by the receiver's stage
judged-open : (t : Tables) (p : State) (a : Arrival) (n : ℕ) → is_md5_of p.conn ≡ true → is_open_of p.conn ≡ true → n < 2 ^ 32
    → check t p.conn p.seen a ≡ Good n 0 → judged t a p ≡ record { verdict = Accept 0; index = no_index; state = with_counted_of p }
unfolding judged
judged-open t p a n way opens low e =
    ap (judged_by t p) e ∙ rw (opens, way) (λ j. record { verdict = Accept (low-extension n low j); index = no_index; state = with_counted_of p })

judged-opening : (t : Tables) (p : State) (a : Arrival) (n : ℕ) → is_md5_of p.conn ≡ true → is_open_of p.conn ≡ false → n < 2 ^ 32
    → check t p.conn p.seen a ≡ Good n 0
    → judged t a p ≡ record {
      verdict = Accept 0;
      index = no_index;
      state = opened p.conn.way p.conn.pair p.conn.isn n p.send_id p.ask_id;
    }
unfolding judged
judged-opening t p a n way opening low e =
    ap (judged_by t p) e
    ∙ rw (opening, way)
    (λ j. record {
      verdict = Accept (low-extension n low j);
      index = no_index;
      state = opened p.conn.way p.conn.pair p.conn.isn n p.send_id p.ask_id;
    })

-- The entry that mirrors the sender's is the one that is found.
module _ (t : Tables) (p r : Pair) (e : Entry) (h : HoldsMd5 t p r e) where
  found : md5_entry t p ≡ hit h.place h.ours
  found = md5-found t p h.place h.ours h.valid h.among h.mirror.here

  there : (md5_entry t p).there ≡ true
  there = ap (λ (f : Found). f.there) found

  key : key_of (md5_entry t p).entry.secret ≡ key_of e.secret
  key = ap (λ (f : Found). key_of f.entry.secret) found ∙ h.mirror.key

pub open-segment-md5 : OpenSegmentMd5
open-segment-md5 q e x b a t p typed way here opened opens facing g v h =
    judged-open t p a (sequence a.segment) here opens low
    (open-accepted q e x b g way typed p.conn here a v facing t h.valid (there t _ _ e h) (key t _ _ e h) opened opens p.seen)
  where
    low : sequence a.segment < 2 ^ 32
    low = omega (arith, (comes q e x b g p.conn.pair a v).number, sequence-below g.unsigned g.octets)

pub syn-ack-md5 : SynAckMd5
syn-ack-md5 q e x b a t p typed way here opened opening facing g its-syn v h =
    judged-opening t p a q.conn.isn here opening typed.isn
    (syn-ack-accepted q e x b g way typed p.conn here a v facing t h.valid (there t _ _ e h) (key t _ _ e h) opened opening its-syn
    p.seen)

-- The bare SYN of an opening end.
module _ (q : State) (e : Entry) (x : ℕ) (b : List ℕ) (a : Arrival) (t : Tables) (typed : Typed q) (way : is_md5_of q.conn ≡ true)
    (opening : is_open_of q.conn ≡ false) (facing : Facing (arrival_pair_of a) q.conn.pair) (g : SignedAt q e x b)
    (v : Delivered (arrival_pair_of a) b a) (h : HoldsMd5 t (arrival_pair_of a) q.conn.pair e) (strict : Bool) where
  syn-good : check_syn_of t a strict ≡ Good q.conn.isn 0
  syn-good = syn-accepted q e x b g way typed opening a v facing t h.valid (there t _ _ e h) (key t _ _ e h) strict

  syn-judged : judged_syn t a strict ≡ record { verdict = Accept 0; index = no_index }
  unfolding judged_syn
  syn-judged =
      ap (λ (o : Outcome). record { verdict = verdict_of_lem o; index = index_of o }) syn-good
      ∙ ap (λ (n : ℕ). record { verdict = Accept n; index = no_index }) (low-extension q.conn.isn typed.isn)

  syn-opens : (isn : ℕ)
      → opened_passively t a isn strict
      ≡ record { verdict = Accept 0; index = no_index; state = opened md5_way (arrival_pair_of a) isn q.conn.isn 0 0 }
  unfolding opened_passively
  syn-opens isn =
      ap (λ (o : Outcome). record { verdict = verdict_of_lem o; index = index_of o; state = opened_by_lem t (arrival_pair_of a) isn unused o }) syn-good
      ∙ rw (there t _ _ e h)
      (λ j. record {
        verdict = Accept (low-extension q.conn.isn typed.isn j);
        index = no_index;
        state = opened md5_way (arrival_pair_of a) isn q.conn.isn 0 0;
      })
    where
      -- what the key table has for such a SYN
      unused : Entry
      unused = (recv_entry t (arrival_pair_of a) (key_id_of a.segment)).entry

pub bare-syn-md5 : BareSynMd5
bare-syn-md5 = syn-judged

pub bare-syn-opens-md5 : BareSynOpensMd5
bare-syn-opens-md5 = syn-opens

faces-back : (p r : Pair) → Facing p r → Facing r p
faces-back p r f =
    record {
      family = sym f.family;
      local = sym f.remote;
      remote = sym f.local;
      local-port = sym f.remote-port;
      remote-port = sym f.local-port;
    }

-- The three steps of an opening.
pub opened-together-md5 : OpenedTogetherMd5
opened-together-md5 active e x b a t typed way opening facing g v h strict isn passive f y c r u now tp at-passive at-now k its-syn w j =
    (ends, ends-back)
  where
    conn : passive.conn ≡ record { stage = 1; way = md5_way; pair = arrival_pair_of a; isn = isn; peer_isn = active.conn.isn }
    conn = at-passive ∙ ap (λ (r : Judged). r.state.conn) (syn-opens active e x b a t typed way opening facing g v h strict isn)

    way_now : is_md5_of now.conn ≡ true
    way_now = ap is_md5_of at-now ∙ way

    back : Facing now.conn.pair passive.conn.pair
    back =
        subst₂ (λ (l m : Connection). Facing l.pair m.pair) (sym at-now) (sym conn)
        (faces-back (arrival_pair_of a) active.conn.pair facing)

    isns : now.conn.isn ≡ passive.conn.peer_isn
    isns = ap (λ (l : Connection). l.isn) at-now ∙ ap (λ (l : Connection). l.peer_isn) (sym conn)

    opens : (judged u r now).state.conn
        ≡ record { stage = 1; way = now.conn.way; pair = now.conn.pair; isn = now.conn.isn; peer_isn = passive.conn.isn }
    opens =
        ap (λ (z : Judged). z.state.conn)
        (syn-ack-md5 passive f y c r u now tp (ap is_md5_of conn) way_now (ap is_open_of conn) (ap is_open_of at-now ∙ opening) back k its-syn w j)

    ends : OtherEndMd5 (judged u r now).state passive
    ends =
        record {
          here = ap is_open_of opens;
          there = ap is_open_of conn;
          way-here = ap is_md5_of opens ∙ way_now;
          way-there = ap is_md5_of conn;
          pair = subst⁻¹ (λ (z : Connection). Facing z.pair passive.conn.pair) opens back;
          isn = ap (λ (z : Connection). z.isn) opens ∙ isns;
          peer = ap (λ (z : Connection). z.peer_isn) opens;
        }

    ends-back : OtherEndMd5 passive (judged u r now).state
    ends-back =
        record {
          here = ends.there;
          there = ends.here;
          way-here = ends.way-there;
          way-there = ends.way-here;
          pair = faces-back _ _ ends.pair;
          isn = sym ends.peer;
          peer = sym ends.isn;
        }
