-- Demand 2, of the definitions: what one end signs by TCP-AO, the other end accepts. First what the three ways that it can go share.
use Rattle.std.specs.Prelude.{ℕ, ◌+◌, ◌^◌, ◌<◌, ◌≡◌, refl, true, false, not, List, ltb, eqb, Some}
use Rattle.std.proofs.Common.{ap, sym, ◌∙◌, arith, eq-eqb, eqb-true}
use Rattle.std.proofs.lemmas.Bool.{not-false}
use Rattle.octets.specs.Each.{Octets}
use Rattle.wire.proofs.BytesLaws.{same-of-eq}
use Rattle.wire.specs.Header.{sequence, syn}
use Rattle.wire.specs.declared.options.Occurrence.{Occurrence}
use Rattle.keys.specs.declared.entry.Pair.{Pair}
use Rattle.keys.specs.declared.entry.Entry.{Entry}
use Rattle.keys.specs.Table.{Found}
use Rattle.keys.specs.Mirror.{Mirror}
use Rattle.tables.specs.Tables.{Tables}
use Rattle.tables.specs.Valid.{ValidTables}
use Rattle.tables.specs.Search.{hit}
use Rattle.rules.specs.declared.Outcome.{Outcome}
use Rattle.rules.specs.declared.State.{State}
use Rattle.octets.specs.TestLaws.{NoneApplies}
use Rattle.rules.specs.Mac.{Flow, leaving_hidden_of, arriving_hidden_of, segment_mac}
use Rattle.rules.proofs.MacLaws.{Agree, Alike}
use Rattle.rules.specs.Segment.{ao}
use Rattle.rules.specs.Connection.{Arrival, is_md5_of, leaving, value, extension_of_lem}
use Rattle.rules.specs.Calls.{key_tests, mac_tests, is_refused, mac_differs, form_tests, length_tests, table_tests}
use Rattle.rules.specs.Ends.{SignedAt, Delivered}
use Rattle.rules.proofs.RoundTripLaws.{Reads}
use Rattle.rules.proofs.DeliveryLaws.{signs, mac, length-its-mac, reads, same-mac, sizes}

-- bytes make a number below 2 ^ 32
pub sequence-below : (s : List ℕ) → Octets s → sequence s < 2 ^ 32
sequence-below s b = omega (arith, b 4, b 5, b 6, b 7)

pub agree_of : (p q : Pair) (ours theirs : Entry) → Mirror p q ours theirs → Agree ours.secret theirs.secret
agree_of p q ours theirs m = record { flags = m.flags; algorithm = m.algorithm; mac = m.mac; key = m.key }

-- a signed SYN: "(bare or with ACK) whose position is .. our ISN"
pub syn-at : (q : State) (e : Entry) (x : ℕ) (b : List ℕ) (g : SignedAt q e x b) → syn g.unsigned ≡ true → x ≡ q.conn.isn
syn-at q e x b g its-syn = ap value (sym g.position) ∙ eqb-true _ _ (not-false _ (rw its-syn at (signs q e x b g).number))

-- mirrored entries hide the same sides of what goes from one end to the other
pub hidden-of : (p q : Pair) (ours theirs : Entry) → Mirror p q ours theirs → arriving_hidden_of ours.secret ≡ leaving_hidden_of theirs.secret
hidden-of p q ours theirs m = λ i. record { source = m.remote-hidden i; destination = m.local_hidden i }

module _ (q : State) (e : Entry) (x : ℕ) (b : List ℕ) (g : SignedAt q e x b) (p : Pair) (a : Arrival)
    (v : Delivered p b a) where
  abbrev came : List ℕ
  came = a.segment

  -- 20
  pub none-20 : NoneApplies (length_tests 20 came)
  none-20 = let z = sizes q e x b g p a v in (z.0, (z.1, (z.2, (z.3, tt))))

module _ (q : State) (e : Entry) (x : ℕ) (b : List ℕ) (g : SignedAt q e x b) (way : is_md5_of q.conn ≡ false) (p : Pair) (a : Arrival)
    (v : Delivered p b a) where
  abbrev read : Reads a.segment q.send_id q.ask_id (mac q e x b g way)
  read = (reads q e x b g way p a v).reads

  -- 21 and 22
  pub none-21 : NoneApplies (form_tests a.segment)
  none-21 = (
    read.formed,
    (
      ap (λ (o : Occurrence). ltb 1 o.count) read.one,
      (rw read.one (ap (λ (n : ℕ). ltb 0 n) read.no-md5), (rw read.no-md5, tt)),
    ),
  )

  -- 25 to 29, under the entry that mirrors the sender's, for a flow like the one that it signed and a place with its extension
  module _ (missing unknown : Outcome) (i : ℕ) (ours : Entry) (f : Flow) (y : ℕ) (found : Found) (mirror : Mirror p q.conn.pair ours e)
      (held : found ≡ hit i ours) (alike : Alike (leaving_hidden_of e.secret) f (leaving q.conn)) (source : p.remote_port ≡ f.source_port)
      (destination : p.local_port ≡ f.destination_port) (ext : extension_of_lem y ≡ extension_of_lem x) where
    abbrev agree : Agree ours.secret e.secret
    agree = agree_of p q.conn.pair ours e mirror

    right-length : not (eqb (ao a.segment).len (4 + found.entry.secret.mac_bytes)) ≡ false
    right-length =
        (λ j. not (eqb (read.one j).len (4 + (held j).entry.secret.mac_bytes)))
        ∙ ap not (eq-eqb _ _ (ap (λ (n : ℕ). 4 + n) (length-its-mac q e x b g way ∙ sym agree.mac)))

    right-mac : mac_differs found.entry f (Some y) a.segment ≡ false
    right-mac =
        ap not
        (same-of-eq _ _
        (read.mac
        ∙ sym
        ((λ j. segment_mac (held j).entry.secret (arriving_hidden_of (held j).entry.secret) f (ext j) (20 + (read.one j).at) a.segment)
        ∙ same-mac q e x b g way p a v ours.secret (arriving_hidden_of ours.secret) f agree (hidden-of p q.conn.pair ours e mirror) alike
        source destination)))

    pub keyed : NoneApplies (key_tests missing unknown found (Some y) a.segment) × NoneApplies (mac_tests found.entry f (Some y) a.segment)
    keyed = (
      (ap (λ (o : Occurrence). eqb o.count 0) read.one, (ap (λ (o : Found). not o.there) held, (right-length, (refl, tt)))),
      (right-mac, tt),
    )

-- tables that are valid
pub none-10 : (t : Tables) → ValidTables t → NoneApplies (table_tests t)
none-10 t v = (ap is_refused v.taken.1, tt)
