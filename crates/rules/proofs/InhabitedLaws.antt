-- The statements of Inhabited.antt, proved: what is given there holds by computing, with the MAC and the digest shut.
use Rattle.std.specs.Prelude.{ℕ, zero, suc, ◌+◌, ◌<◌, ◌≤◌, ◌≡◌, Bool, true, false, ◌&&◌, List, [], ◌∷◌, length, drop, replicate, ltb, Some}
use Rattle.std.specs.Prelude.{Ok}
use Rattle.std.proofs.Math.Path.{refl, ap, sym, subst⁻¹}
use Rattle.std.proofs.Common.{◌∙◌, arith, ltb-true}
use Rattle.std.proofs.Math.ListN.{take}
use Rattle.keys.proofs.MatchLaws.{and-true}
use Rattle.std.proofs.Math.Seq.{take_at}
use Rattle.octets.specs.Each.{Each, Octets}
use Rattle.wire.specs.Header.{sequence, syn}
use Rattle.wire.specs.Prefix.{agree, clear_to}
use Rattle.wire.specs.Options.{options_of, read_from}
use Rattle.keys.specs.declared.entry.Entry.{Entry}
use Rattle.keys.specs.declared.entry.Pair.{Pair}
use Rattle.keys.specs.Algorithm.{mac_bytes_of}
use Rattle.keys.specs.Entry.{known_kind_of, family_of_lem, extra, is_family_of, body, width, side_of, selector_of_lem, ids_of}
use Rattle.keys.specs.Entry.{mac_length_of, secret_of_lem, entry_of, item, items, entries_of}
use Rattle.keys.specs.Places as Places
use Rattle.keys.specs.Match.{holds, matches, meet, overlap, share, clash}
use Rattle.keys.specs.Mirror.{Mirror}
use Rattle.keys.specs.Table.{any_of, number_of, clashing, loaded_from, loaded, nobody, found, answers, meets_any_of}
use Rattle.tables.specs.Tables.{Tables, besides, admitted, any_entry}
use Rattle.tables.specs.Valid.{ValidTables}
use Rattle.tables.proofs.ValidLaws.{valid-bytes}
use Rattle.rules.specs.declared.Outcome.{Outcome}
use Rattle.rules.specs.declared.Outcome.TheVariants.{Good}
use Rattle.rules.specs.Signing as S
use Rattle.rules.specs.declared.State.{State}
use Rattle.rules.specs.declared.Judged.{Judged}
use Rattle.rules.specs.Position.{position}
use Rattle.checksum.specs.Checksum.{ones_sum, checksummed}
use Rattle.rules.specs.Checksum.{segment_sum_of, with_checksum_of}
use Rattle.rules.specs.Mac.{pseudo_header}
use Rattle.rules.specs.Segment.{inserted, with_option}
use Rattle.rules.specs.Connection.{arrival_pair_of, place_on_lem, opened}
use Rattle.rules.specs.Calls.{outgoing, added_on_lem, check_sign, authenticated, digested, signed_segment, written, signed_by, output_by}
use Rattle.rules.specs.Calls.{signed, output, opened_passively}
use Rattle.rules.specs.Lent.{Lent, tables}
use Rattle.rules.specs.Ends.{Typed, Facing, Delivered, Holds, Md5Mirror, HoldsMd5, SignedAt, OtherEnd}
use Rattle.rules.proofs.InsertedLaws.{Fresh}
use Rattle.rules.proofs.DeliveryLaws.{signed-long}
use Rattle.rules.specs.Demand3.{Within, Given}
use Rattle.rules.proofs.OrderLaws.{demand3}
use Rattle.rules.proofs.Demand2Laws.{sent-comes, sent-faces, faces-under, rewritten-comes, bare-syn}
use Rattle.rules.specs.Demand2.{sent}
use Rattle.rules.proofs.Demand2Md5Laws.{open-segment-md5, bare-syn-md5, bare-syn-opens-md5, opened-together-md5}
use Rattle.rules.specs.Inhabited.{entry4, entry5, our_bytes, our_table, their_table, their_entry, their_short, their_hidden, our_pair}
use Rattle.rules.specs.Inhabited.{their_pair, hidden_pair, from_them, our_state, theirs, segment, hidden_segment, hidden_bytes}
use Rattle.rules.specs.Inhabited.{signed_bytes, short_bytes, Arrivals, all, Demand3NotEmpty, opener, syn_segment, syn_bytes}
use Rattle.rules.specs.Inhabited.{BareSynNotEmpty, md5_entry4, md5_table, md5_passive, syn_ack_segment, syn_ack_bytes, OpenedMd5NotEmpty}
use Rattle.rules.specs.Inhabited.{md5_theirs, open_bytes_md5, OpenMd5NotEmpty, md5_opener, syn_bytes_md5, BareSynMd5NotEmpty, unknown_syn}
use Rattle.rules.specs.Inhabited.{no_table, UnknownKeyNotEmpty, our_prepared, PreparedNotEmpty}
use Rattle.rules.specs.Prepared.{PreparedFrom}
use Rattle.rules.proofs.PreparedLaws.{prepared-means}
use Rattle.rules.specs.Passes.{UnknownKey}
use Rattle.rules.proofs.PassLaws.{matched-dropped, setting-decides}

-- Of both tables.

valid : ValidTables our_table
unfolding agree clear_to mac_bytes_of known_kind_of family_of_lem extra body width side_of selector_of_lem mac_length_of ids_of secret_of_lem entry_of item items entries_of
    holds matches meet overlap share clash number_of clashing loaded_from loaded found nobody answers any_of meets_any_of besides admitted
valid = valid-bytes our_bytes.keys our_bytes.md5 3 refl

entries-are : our_table.keys ≡ entry_of (entry4 1 61 84) ∷ (entry_of (entry5 71 94) ∷ (entry_of (entry4 5 51 74) ∷ []))
unfolding known_kind_of family_of_lem extra body width side_of selector_of_lem mac_length_of ids_of secret_of_lem entry_of item items entries_of
entries-are = refl

among : Places.At our_table.keys 0 (entry_of (entry4 1 61 84))
among = subst⁻¹ (λ (l : List Entry). Places.At l 0 (entry_of (entry4 1 61 84))) entries-are Places.here

among-short : Places.At our_table.keys 1 (entry_of (entry5 71 94))
among-short = subst⁻¹ (λ (l : List Entry). Places.At l 1 (entry_of (entry5 71 94))) entries-are (Places.there Places.here)

among-hidden : Places.At our_table.keys 2 (entry_of (entry4 5 51 74))
among-hidden =
    subst⁻¹ (λ (l : List Entry). Places.At l 2 (entry_of (entry4 5 51 74))) entries-are (Places.there (Places.there Places.here))

mirrored : Mirror our_pair their_pair (entry_of (entry4 1 61 84)) their_entry
unfolding agree family_of_lem extra width side_of selector_of_lem mac_length_of ids_of secret_of_lem entry_of holds matches
mirrored =
    record {
      here = refl;
      there = refl;
      sent = refl;
      received = refl;
      flags = refl;
      local_hidden = refl;
      remote-hidden = refl;
      algorithm = refl;
      mac = refl;
      key = refl;
    }

mirrored-short : Mirror our_pair their_pair (entry_of (entry5 71 94)) their_short
unfolding agree family_of_lem extra width side_of selector_of_lem mac_length_of ids_of secret_of_lem entry_of holds matches
mirrored-short =
    record {
      here = refl;
      there = refl;
      sent = refl;
      received = refl;
      flags = refl;
      local_hidden = refl;
      remote-hidden = refl;
      algorithm = refl;
      mac = refl;
      key = refl;
    }

mirrored-hidden : Mirror our_pair hidden_pair (entry_of (entry4 5 51 74)) their_hidden
unfolding agree family_of_lem extra width side_of selector_of_lem mac_length_of ids_of secret_of_lem entry_of holds matches
mirrored-hidden =
    record {
      here = refl;
      there = refl;
      sent = refl;
      received = refl;
      flags = refl;
      local_hidden = refl;
      remote-hidden = refl;
      algorithm = refl;
      mac = refl;
      key = refl;
    }

-- bytes one by one
octets : (s : List ℕ) → Each (λ (b : ℕ). b < 256) s → Octets s
octets [] b i = omega arith
octets (x ∷ s) b zero = b.0
octets (x ∷ s) b (suc i) = octets s b.1 i

-- A segment that the other end signs into sixty bytes.

abbrev out : List ℕ
out = replicate 60 0

-- what computing says of the call, by the tables b, under the entry e
record Signs (b : Lent) (e : Entry) (q : State) (s : List ℕ) (x : ℕ) : Type 0 where
  good : check_sign (tables b) s 60 q ≡ Good x q.ask_id
  under : (outgoing (tables b) q).entry ≡ e
  short : e.secret.mac_bytes ≤ 16
  fresh : Fresh s
  octets : Octets s
  place : place_on_lem q.conn q.sent (sequence s) ≡ Some x

module _ (b : Lent) (e : Entry) (q : State) (s : List ℕ) (x : ℕ) (g : Signs b e q s x) where
  abbrev bytes : List ℕ
  bytes = signed_segment e q x s

  long : length bytes ≡ length s + added_on_lem q.conn e
  long = signed-long e q x s (λ way. g.short) g.fresh

  wrote : bytes ≡ take (length bytes) (output (tables b) s out q)
  unfolding output
  wrote =
      sym (ap (λ (o : Outcome). take (length bytes) (output_by q s out (outgoing (tables b) q).entry o)) g.good
      ∙ ap (λ (e : Entry). take (length bytes) (written (signed_segment e q x s) out)) g.under
      ∙ take_at bytes (drop (length bytes) out) (length bytes) refl)

  -- and of which segment it is
  signing_of : (k : SignedAt q e x bytes) × (k.unsigned ≡ s)
  unfolding signed
  signing_of = (
    record {
      lent = b;
      unsigned = s;
      out = out;
      octets = g.octets;
      answer =
          ap (λ (o : Outcome). (signed_by q s (outgoing (tables b) q).entry o).answer) g.good
          ∙ ap (λ (e : Entry). S.Signed (length s + added_on_lem q.conn e)) g.under
          ∙ ap S.Signed (sym long);
      wrote = wrote;
      under = g.under;
      position = g.place;
    },
    refl,
  )

  signing : SignedAt q e x bytes
  signing = signing_of.0

signs : Signs their_table their_entry (theirs their_pair 84 61) segment 4294967312
unfolding check_sign position options_of read_from agree clear_to mac_bytes_of known_kind_of family_of_lem extra is_family_of body width side_of selector_of_lem
    mac_length_of ids_of secret_of_lem entry_of item items entries_of holds matches meet overlap share clash number_of clashing loaded_from loaded found nobody
    answers any_of meets_any_of besides admitted
signs =
    record {
      good = refl;
      under = refl;
      short = omega arith;
      fresh = record { long = omega arith; low = omega arith; inside = omega arith; formed = refl; no-ao = refl; no-md5 = refl };
      octets = octets segment (omega arith);
      place = refl;
    }

signs-short : Signs their_table their_short (theirs their_pair 94 71) segment 4294967312
unfolding check_sign position options_of read_from agree clear_to mac_bytes_of known_kind_of family_of_lem extra is_family_of body width side_of selector_of_lem
    mac_length_of ids_of secret_of_lem entry_of item items entries_of holds matches meet overlap share clash number_of clashing loaded_from loaded found nobody
    answers any_of meets_any_of besides admitted
signs-short =
    record {
      good = refl;
      under = refl;
      short = omega arith;
      fresh = signs.fresh;
      octets = signs.octets;
      place = refl;
    }

signs-hidden : Signs their_table their_hidden (theirs hidden_pair 74 51) hidden_segment 4294967312
unfolding check_sign position options_of read_from agree clear_to mac_bytes_of known_kind_of family_of_lem extra is_family_of body width side_of selector_of_lem
    mac_length_of ids_of secret_of_lem entry_of item items entries_of holds matches meet overlap share clash number_of clashing loaded_from loaded found nobody
    answers any_of meets_any_of besides admitted
signs-hidden =
    record {
      good = refl;
      under = refl;
      short = omega arith;
      fresh = record { long = omega arith; low = omega arith; inside = omega arith; formed = refl; no-ao = refl; no-md5 = refl };
      octets = octets hidden_segment (omega arith);
      place = refl;
    }

signs-syn : Signs their_table their_entry opener syn_segment 4294967280
unfolding check_sign position options_of read_from agree clear_to mac_bytes_of known_kind_of family_of_lem extra is_family_of body width side_of selector_of_lem
    mac_length_of ids_of secret_of_lem entry_of item items entries_of holds matches meet overlap share clash number_of clashing loaded_from loaded found nobody
    answers any_of meets_any_of besides admitted
signs-syn =
    record {
      good = refl;
      under = refl;
      short = omega arith;
      fresh = record { long = omega arith; low = omega arith; inside = omega arith; formed = refl; no-ao = refl; no-md5 = refl };
      octets = octets syn_segment (omega arith);
      place = refl;
    }

-- Demand 3.

typed-ours : Typed our_state
typed-ours =
    record { sent = omega arith; seen = omega arith; isn = omega arith; peer = omega arith; local = refl; remote = refl; counts = refl }

typed-theirs : (send_id recv_id : ℕ) → Typed (theirs their_pair send_id recv_id)
typed-theirs send_id recv_id =
    record { sent = omega arith; seen = omega arith; isn = omega arith; peer = omega arith; local = refl; remote = refl; counts = refl }

typed-hidden : Typed (theirs hidden_pair 74 51)
typed-hidden =
    record { sent = omega arith; seen = omega arith; isn = omega arith; peer = omega arith; local = refl; remote = refl; counts = refl }

facing : Facing our_pair their_pair
unfolding width
facing = record { family = refl; local = refl; remote = refl; local-port = refl; remote-port = refl }

other-end : (e : Entry) (send_id recv_id : ℕ) → OtherEnd e.secret our_state.conn (theirs their_pair send_id recv_id).conn
other-end e send_id recv_id =
    record { here = refl; there = refl; pair = faces-under e.secret our_pair their_pair facing; isn = refl; peer = refl }

-- the remote side is hidden, and differs
other-hidden : OtherEnd their_hidden.secret our_state.conn (theirs hidden_pair 74 51).conn
unfolding width secret_of_lem entry_of
other-hidden =
    record {
      here = refl;
      there = refl;
      pair =
          record {
            family = refl;
            local = λ h. refl;
            remote = λ h. let z : ◌≡◌ {A = ℕ} 0 1 = cc in absurd (omega arith);
            local-port = λ h. refl;
            remote-port = λ h. let z : ◌≡◌ {A = ℕ} 0 1 = cc in absurd (omega arith);
          };
      isn = refl;
      peer = refl;
    }

-- what the other end wrote comes to us as it was written
came : (e : Entry) (send_id recv_id : ℕ) (g : Signs their_table e (theirs their_pair send_id recv_id) segment 4294967312)
    → Delivered our_pair (bytes their_table e (theirs their_pair send_id recv_id) segment 4294967312 g)
    (from_them (bytes their_table e (theirs their_pair send_id recv_id) segment 4294967312 g))
unfolding width
came e send_id recv_id g =
    let q = theirs their_pair send_id recv_id in
    sent-comes q e 4294967312 (bytes their_table e q segment 4294967312 g) (typed-theirs send_id recv_id)
    (signing their_table e q segment 4294967312 g) our_pair facing

arrivals : Arrivals
unfolding options_of read_from width
arrivals =
    record {
      true-arrival =
          record {
            peer = theirs their_pair 84 61;
            typed = typed-theirs 84 61;
            other = other-end their_entry 84 61;
            ours = entry_of (entry4 1 61 84);
            theirs = their_entry;
            place = 0;
            among = among;
            mirror = mirrored;
            bytes = signed_bytes;
            signed = signing their_table their_entry (theirs their_pair 84 61) segment 4294967312 signs;
            delivered = came their_entry 84 61 signs;
            asks = refl;
          };
      short-arrival =
          record {
            peer = theirs their_pair 94 71;
            typed = typed-theirs 94 71;
            other = other-end their_short 94 71;
            ours = entry_of (entry5 71 94);
            theirs = their_short;
            place = 1;
            among = among-short;
            mirror = mirrored-short;
            bytes = short_bytes;
            signed = signing their_table their_short (theirs their_pair 94 71) segment 4294967312 signs-short;
            delivered = came their_short 94 71 signs-short;
            asks = refl;
          };
      hidden-arrival =
          record {
            peer = theirs hidden_pair 74 51;
            typed = typed-hidden;
            ours = entry_of (entry4 5 51 74);
            theirs = their_hidden;
            place = 2;
            among = among-hidden;
            mirror = mirrored-hidden;
            other = other-hidden;
            bytes = hidden_bytes;
            signed = signing their_table their_hidden (theirs hidden_pair 74 51) hidden_segment 4294967312 signs-hidden;
            delivered =
                rewritten-comes (theirs hidden_pair 74 51) their_hidden 4294967312 hidden_bytes
                (signing their_table their_hidden (theirs hidden_pair 74 51) hidden_segment 4294967312 signs-hidden) our_state typed-ours (omega arith)
                (omega arith);
            asks = refl;
          };
      -- the same segment without TCP-AO verifies under no key
      other-arrival = λ v. omega (arith, v.one);
    }

pub demand3-not-empty : Demand3NotEmpty
unfolding is_family_of
demand3-not-empty = record { arrivals = arrivals; given = given; demand = demand3 our_table our_state (all arrivals) given }
  where
    near : Within 4294967280 4294967312
    near = (omega arith, omega arith)

    same : Within 4294967312 4294967312
    same = (omega arith, omega arith)

    given : Given our_table our_state (all arrivals)
    given =
        record {
          valid = valid;
          typed = typed-ours;
          allowed = refl;
          is_open = refl;
          way = refl;
          close = (
            (near, (near, (near, tt))),
            ((same, (same, tt)), ((same, tt), (tt, tt))),
          );
        }

-- Demand 2.

typed-opener : Typed opener
typed-opener =
    record { sent = omega arith; seen = omega arith; isn = omega arith; peer = omega arith; local = refl; remote = refl; counts = refl }

signing-syn : SignedAt opener their_entry 4294967280 syn_bytes
signing-syn = signing their_table their_entry opener syn_segment 4294967280 signs-syn

syn-facing : Facing (arrival_pair_of (from_them syn_bytes)) their_pair
unfolding width
syn-facing = sent-faces opener their_entry 4294967280 syn_bytes typed-opener signing-syn

delivered : Delivered (arrival_pair_of (from_them syn_bytes)) syn_bytes (from_them syn_bytes)
unfolding width
delivered =
    sent-comes opener their_entry 4294967280 syn_bytes typed-opener signing-syn (arrival_pair_of (from_them syn_bytes)) syn-facing

held : Holds our_table (arrival_pair_of (from_them syn_bytes)) their_pair their_entry
unfolding signed_segment authenticated with_option inserted with_checksum_of checksummed
held = record { valid = valid; ours = entry_of (entry4 1 61 84); place = 0; among = among; mirror = mirrored }

pub bare-syn-not-empty : BareSynNotEmpty
unfolding width
bare-syn-not-empty =
    record {
      typed = typed-opener;
      opening = refl;
      signed = signing-syn;
      facing = faces-under their_entry.secret (arrival_pair_of (from_them syn_bytes)) their_pair syn-facing;
      delivered = delivered;
      holds = held;
      accepted =
          bare-syn opener their_entry 4294967280 syn_bytes (from_them syn_bytes) our_table typed-opener refl refl
          (faces-under their_entry.secret (arrival_pair_of (from_them syn_bytes)) their_pair syn-facing) signing-syn delivered held true;
    }

-- The same by MD5.

signs-md5 : Signs md5_table (entry_of md5_entry4) md5_opener syn_segment 4294967280
unfolding check_sign position options_of read_from agree clear_to mac_bytes_of known_kind_of family_of_lem extra is_family_of body width side_of selector_of_lem
    mac_length_of ids_of secret_of_lem entry_of item items entries_of holds matches meet overlap share clash number_of clashing loaded_from loaded found nobody
    answers any_of meets_any_of besides admitted
signs-md5 =
    record { good = refl; under = refl; short = omega arith; fresh = signs-syn.fresh; octets = signs-syn.octets; place = refl }

typed-md5 : Typed md5_opener
typed-md5 =
    record { sent = omega arith; seen = omega arith; isn = omega arith; peer = omega arith; local = refl; remote = refl; counts = refl }

signing-md5 : SignedAt md5_opener (entry_of md5_entry4) 4294967280 syn_bytes_md5
signing-md5 = signing md5_table (entry_of md5_entry4) md5_opener syn_segment 4294967280 signs-md5

md5-facing : Facing (arrival_pair_of (from_them syn_bytes_md5)) their_pair
unfolding width
md5-facing = sent-faces md5_opener (entry_of md5_entry4) 4294967280 syn_bytes_md5 typed-md5 signing-md5

delivered-md5 : Delivered (arrival_pair_of (from_them syn_bytes_md5)) syn_bytes_md5 (from_them syn_bytes_md5)
unfolding width
delivered-md5 =
    sent-comes md5_opener (entry_of md5_entry4) 4294967280 syn_bytes_md5 typed-md5 signing-md5 (arrival_pair_of (from_them syn_bytes_md5)) md5-facing

valid-md5 : ValidTables (tables md5_table)
unfolding agree clear_to mac_bytes_of known_kind_of family_of_lem extra body width side_of selector_of_lem mac_length_of ids_of secret_of_lem entry_of item items entries_of
    holds matches meet overlap share clash number_of clashing loaded_from loaded found nobody answers any_of meets_any_of besides admitted
valid-md5 = valid-bytes md5_table.keys md5_table.md5 0 refl

md5s-are : (tables md5_table).md5s ≡ entry_of md5_entry4 ∷ []
unfolding known_kind_of family_of_lem extra body width side_of selector_of_lem mac_length_of ids_of secret_of_lem entry_of item items entries_of
md5s-are = refl

-- it matches the pair as each end holds it
md5-mirrored : Md5Mirror our_pair their_pair (entry_of md5_entry4) (entry_of md5_entry4)
unfolding agree family_of_lem extra width side_of selector_of_lem mac_length_of ids_of secret_of_lem entry_of holds matches
md5-mirrored = record { here = refl; there = refl; key = refl }

-- the one MD5 entry, for any pairs that it matches
held-for : (p q : Pair) → Md5Mirror p q (entry_of md5_entry4) (entry_of md5_entry4) → HoldsMd5 (tables md5_table) p q (entry_of md5_entry4)
held-for p q m =
    record {
      valid = valid-md5;
      ours = entry_of md5_entry4;
      place = 0;
      among = subst⁻¹ (λ (l : List Entry). Places.At l 0 (entry_of md5_entry4)) md5s-are Places.here;
      mirror = m;
    }

held-md5 : HoldsMd5 (tables md5_table) (arrival_pair_of (from_them syn_bytes_md5)) their_pair (entry_of md5_entry4)
unfolding signed_segment digested with_option inserted with_checksum_of checksummed
held-md5 = held-for (arrival_pair_of (from_them syn_bytes_md5)) their_pair md5-mirrored

pub bare-syn-md5-not-empty : BareSynMd5NotEmpty
unfolding width
bare-syn-md5-not-empty =
    record {
      typed = typed-md5;
      way = refl;
      opening = refl;
      signed = signing-md5;
      facing = md5-facing;
      delivered = delivered-md5;
      holds = held-md5;
      accepted =
          bare-syn-md5 md5_opener (entry_of md5_entry4) 4294967280 syn_bytes_md5 (from_them syn_bytes_md5) (tables md5_table) typed-md5 refl refl
          md5-facing signing-md5 delivered-md5 held-md5 true;
    }

-- The SYN+ACK by MD5, and with it all that the three steps of an opening ask.

signs-syn-ack : Signs md5_table (entry_of md5_entry4) md5_passive syn_ack_segment 100
unfolding check_sign position options_of read_from agree clear_to mac_bytes_of known_kind_of family_of_lem extra is_family_of body width side_of selector_of_lem
    mac_length_of ids_of secret_of_lem entry_of item items entries_of holds matches meet overlap share clash number_of clashing loaded_from loaded found nobody
    answers any_of meets_any_of besides admitted
signs-syn-ack =
    record {
      good = refl;
      under = refl;
      short = omega arith;
      fresh = record { long = omega arith; low = omega arith; inside = omega arith; formed = refl; no-ao = refl; no-md5 = refl };
      octets = octets syn_ack_segment (omega arith);
      place = refl;
    }

typed-passive : Typed md5_passive
typed-passive =
    record { sent = omega arith; seen = omega arith; isn = omega arith; peer = omega arith; local = refl; remote = refl; counts = refl }

pair_is : arrival_pair_of (from_them syn_bytes_md5) ≡ our_pair
unfolding signed_segment digested with_option inserted with_checksum_of checksummed
pair_is = refl

passive-conn : md5_passive.conn ≡ (opened_passively (tables md5_table) (from_them syn_bytes_md5) 100 true).state.conn
passive-conn =
    sym
    (ap (λ (j : Judged). j.state.conn)
    (bare-syn-opens-md5 md5_opener (entry_of md5_entry4) 4294967280 syn_bytes_md5 (from_them syn_bytes_md5) (tables md5_table) typed-md5 refl refl
    md5-facing signing-md5 delivered-md5 held-md5 true 100)
    ∙ ap (λ (p : Pair). (opened 1 p 100 4294967280 0 0).conn) pair_is)

facing-them : Facing their_pair our_pair
unfolding width
facing-them = record { family = refl; local = refl; remote = refl; local-port = refl; remote-port = refl }

signing-syn-ack : (k : SignedAt md5_passive (entry_of md5_entry4) 100 syn_ack_bytes) × (k.unsigned ≡ syn_ack_segment)
signing-syn-ack = signing_of md5_table (entry_of md5_entry4) md5_passive syn_ack_segment 100 signs-syn-ack

delivered-syn-ack : Delivered their_pair syn_ack_bytes (sent md5_passive syn_ack_bytes)
delivered-syn-ack =
    sent-comes md5_passive (entry_of md5_entry4) 100 syn_ack_bytes typed-passive signing-syn-ack.0 their_pair facing-them

md5-mirrored-back : Md5Mirror their_pair our_pair (entry_of md5_entry4) (entry_of md5_entry4)
md5-mirrored-back = record { here = md5-mirrored.there; there = md5-mirrored.here; key = refl }

pub opened-md5-not-empty : OpenedMd5NotEmpty
opened-md5-not-empty =
    record {
      conn = passive-conn;
      typed = typed-passive;
      signed = signing-syn-ack.0;
      its-syn = ap syn signing-syn-ack.1;
      facing = facing-them;
      delivered = delivered-syn-ack;
      holds = held-for their_pair our_pair md5-mirrored-back;
      together =
          (opened-together-md5 md5_opener (entry_of md5_entry4) 4294967280 syn_bytes_md5 (from_them syn_bytes_md5) (tables md5_table) typed-md5 refl refl
          md5-facing signing-md5 delivered-md5 held-md5 true 100 md5_passive (entry_of md5_entry4) 100 syn_ack_bytes (sent md5_passive syn_ack_bytes)
          (tables md5_table) md5_opener typed-passive passive-conn refl signing-syn-ack.0 (ap syn signing-syn-ack.1) delivered-syn-ack
          (held-for their_pair our_pair md5-mirrored-back)).0;
    }

-- A segment of the open connection.

signs-open : Signs md5_table (entry_of md5_entry4) md5_theirs segment 16
unfolding check_sign position options_of read_from agree clear_to mac_bytes_of known_kind_of family_of_lem extra is_family_of body width side_of selector_of_lem
    mac_length_of ids_of secret_of_lem entry_of item items entries_of holds matches meet overlap share clash number_of clashing loaded_from loaded found nobody
    answers any_of meets_any_of besides admitted
signs-open = record { good = refl; under = refl; short = omega arith; fresh = signs.fresh; octets = signs.octets; place = refl }

typed-open : Typed md5_theirs
typed-open =
    record { sent = omega arith; seen = omega arith; isn = omega arith; peer = omega arith; local = refl; remote = refl; counts = refl }

signing-open : SignedAt md5_theirs (entry_of md5_entry4) 16 open_bytes_md5
signing-open = signing md5_table (entry_of md5_entry4) md5_theirs segment 16 signs-open

delivered-open : Delivered our_pair open_bytes_md5 (from_them open_bytes_md5)
unfolding width
delivered-open = sent-comes md5_theirs (entry_of md5_entry4) 16 open_bytes_md5 typed-open signing-open our_pair facing

pub open-md5-not-empty : OpenMd5NotEmpty
open-md5-not-empty =
    record {
      far-there = λ w. let z = w.0 in omega arith;
      far-here = λ w. let z = w.0 in omega arith;
      typed = typed-open;
      facing = facing;
      signed = signing-open;
      delivered = delivered-open;
      holds = held-for our_pair their_pair md5-mirrored;
      accepted =
          open-segment-md5 md5_theirs (entry_of md5_entry4) 16 open_bytes_md5 (from_them open_bytes_md5) (tables md5_table) md5_passive typed-open refl
          refl refl refl facing signing-open delivered-open (held-for our_pair their_pair md5-mirrored);
    }

-- An unknown KeyID.

with-entry : UnknownKey our_table unknown_syn
unfolding segment_sum_of ones_sum pseudo_header options_of read_from agree clear_to mac_bytes_of known_kind_of family_of_lem extra body width side_of selector_of_lem
    mac_length_of ids_of secret_of_lem entry_of item items entries_of holds matches meet overlap share clash number_of clashing loaded_from loaded found
    answers nobody any_of meets_any_of besides admitted
with-entry =
    record {
      addresses = refl;
      table = refl;
      size = refl;
      sum = refl;
      options = refl;
      one = refl;
      alone = refl;
      bare = refl;
      way = refl;
      unknown = refl;
    }

matching : any_entry our_table (arrival_pair_of unknown_syn) ≡ true
unfolding agree known_kind_of family_of_lem extra body width side_of selector_of_lem ids_of secret_of_lem entry_of item items entries_of holds matches answers any_of
matching = refl

without : UnknownKey no_table unknown_syn
unfolding segment_sum_of ones_sum pseudo_header options_of read_from width items entries_of loaded_from loaded found nobody besides admitted
without =
    record {
      addresses = refl;
      table = refl;
      size = refl;
      sum = refl;
      options = refl;
      one = refl;
      alone = refl;
      bare = refl;
      way = refl;
      unknown = refl;
    }

unmatching : any_entry no_table (arrival_pair_of unknown_syn) ≡ false
unfolding items entries_of any_of
unmatching = refl

pub unknown-key-not-empty : UnknownKeyNotEmpty
unknown-key-not-empty =
    record {
      with-entry = with-entry;
      matches = matching;
      dropped = matched-dropped.judged our_table unknown_syn false with-entry matching;
      without = without;
      none = unmatching;
      passed = setting-decides.judged no_table unknown_syn false without unmatching;
    }

-- Our tables, prepared.

abbrev below : List ℕ → Bool
below [] = true
below (x ∷ s) = ltb x 256 && below s

octets-by : (s : List ℕ) → below s ≡ true → Octets s
octets-by [] e i = omega arith
octets-by (x ∷ s) e zero = ltb-true x 256 (and-true (ltb x 256) (below s) e).0
octets-by (x ∷ s) e (suc i) = octets-by s (and-true (ltb x 256) (below s) e).1 i

three : (tables our_bytes).answer ≡ Ok 3
unfolding agree clear_to mac_bytes_of known_kind_of family_of_lem extra body width side_of selector_of_lem mac_length_of ids_of secret_of_lem entry_of item items entries_of
    holds matches meet overlap share clash number_of clashing loaded_from loaded found nobody answers any_of meets_any_of besides admitted
three = refl

prepared-from : PreparedFrom our_bytes our_prepared
prepared-from =
    record {
      bytes-form = refl;
      keys-octets = octets-by our_bytes.keys refl;
      md5-octets = octets-by our_bytes.md5 refl;
      count = 3;
      valid = three;
      prepared-form = λ e. omega arith;
      written = refl;
      alone = refl;
    }

pub prepared-not-empty : PreparedNotEmpty
prepared-not-empty =
    record {
      from = prepared-from;
      taken = ap (λ (t : Tables). t.answer) (prepared-means our_bytes our_prepared prepared-from) ∙ three;
    }
