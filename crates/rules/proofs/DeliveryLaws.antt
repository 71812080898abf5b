-- What the signing call wrote, as it arrives, on either way; then, on the TCP-AO way, what the receiver reads in it, and that its MAC is the
-- one it carries.
use Prim.Native.Nat.{ℕ, ◌+◌, ◌≤◌}
use Rattle.std.specs.Prelude.{◌≡◌, Bool, cond, drop, replicate, ltb}
use Rattle.std.proofs.Math.Path.{refl, ap, ap₂, sym, subst⁻¹}
use Rattle.std.proofs.Common.{◌∙◌, subst, arith, length-take-le, le-ltb}
use Rattle.std.proofs.Math.Bool.{true, false}
use mathlib.Core.List.{List}
use Rattle.std.proofs.Math.ListN.{length, take}
use Rattle.std.proofs.Math.Seq.{take_at}
use Rattle.wire.specs.Header.{data_offset_of, header_end_of}
use Rattle.keys.specs.declared.entry.Pair.{Pair}
use Rattle.keys.specs.declared.entry.Entry.{Entry}
use Rattle.keys.specs.declared.entry.Secret.{Secret}
use Rattle.keys.specs.Table.{Found}
use Rattle.keys.specs.Entry.{width, key_of}
use Rattle.keys.proofs.EntryLaws.{width-le}
use Rattle.tables.specs.Tables.{Tables, send_entry, md5_entry}
use Rattle.rules.specs.declared.Outcome.{Outcome}
use Rattle.rules.specs.declared.State.{State}
use Rattle.rules.specs.declared.Hidden.{Hidden}
use Rattle.rules.specs.Mac.{Flow, leaving_hidden_of, blanked, applied, traffic_key_of, message, segment_mac}
use Rattle.rules.proofs.MacLaws.{length-mac, Agree, mac-agree, Alike, blanked-alike}
use Rattle.rules.specs.Digest.{segment_digest}
use Rattle.rules.specs.Segment.{with_option, option_of, option_bytes, md5_option, digested_with, signed_with, Whole}
use Rattle.rules.specs.Checksum.{sums_right, with_checksum_of}
use Rattle.rules.proofs.ChecksumLaws.{length-checked, checked-again-under, checked-ports, checked-right}
use Rattle.rules.proofs.PortLaws.{ports_of_lem, written as ports_written}
use Rattle.rules.specs.Connection.{Arrival, local_address, remote_address, is_md5_of, leaving, value, extension_of_lem}
use Rattle.rules.specs.Calls.{outgoing, added_on_lem, authenticated, digested, signed_segment, written, output_by, output}
use Rattle.rules.specs.Lent.{Lent, tables}
use Rattle.rules.specs.Ends.{Typed, SignedAt, rechecked, with_ports, Delivered}
use Rattle.rules.proofs.InsertedLaws.{Fresh, Put, put, put-again, ports-put}
use Rattle.rules.proofs.DigestLaws.{length-digest, length-md5-option}
use Rattle.rules.proofs.RoundTripLaws.{Arrived, arrival, covers, length-option, whole_words}
use Rattle.rules.proofs.SigningLaws.{Signs, signs-good, signed-good}
use Rattle.rules.proofs.LentLaws.{lent_found}

-- the addresses of a pair are of one size
pub address-length : (f : ℕ) (a : List ℕ) → length a ≡ 16 → length (take (width f) a) ≡ width f
address-length f a h = length-take-le (width f) a (omega (arith, width-le f))

-- the entry signed under, by the way
pub outgoing-ao : (t : Tables) (q : State) → is_md5_of q.conn ≡ false → outgoing t q ≡ send_entry t q.conn.pair q.send_id
outgoing-ao t q way = rw way

pub outgoing-md5 : (t : Tables) (q : State) → is_md5_of q.conn ≡ true → outgoing t q ≡ md5_entry t q.conn.pair
outgoing-md5 t q way = rw way

-- What is put into the segment s: TCP-AO with its MAC, or the MD5 option with its digest.
abbrev pub mac_for : Entry → State → ℕ → List ℕ → List ℕ
mac_for e q x s =
    segment_mac e.secret (leaving_hidden_of e.secret) (leaving q.conn) (extension_of_lem x) 20
    (signed_with q.send_id q.ask_id (replicate e.secret.mac_bytes 0) s)

abbrev pub digest_for : Entry → State → List ℕ → List ℕ
digest_for e q s =
    segment_digest (key_of e.secret) (leaving q.conn).source (leaving q.conn).destination (digested_with (replicate 16 0) s)

abbrev pub option_on : Entry → State → ℕ → List ℕ → List ℕ
option_on e q x s =
    cond (is_md5_of q.conn) (md5_option (digest_for e q s)) (option_of q.send_id q.ask_id (mac_for e q x s))

module _ (e : Entry) (q : State) (x : ℕ) (s : List ℕ) where
  pub on-ao : is_md5_of q.conn ≡ false → option_on e q x s ≡ option_of q.send_id q.ask_id (mac_for e q x s)
  on-ao way = rw way

  pub on-md5 : is_md5_of q.conn ≡ true → option_on e q x s ≡ md5_option (digest_for e q s)
  on-md5 way = rw way

  pub signed_is : signed_segment e q x s
      ≡ with_checksum_of (local_address q.conn.pair) (remote_address q.conn.pair) (with_option (option_on e q x s) s)
  unfolding signed_segment authenticated digested
  signed_is = go (is_md5_of q.conn) refl
    where
      go : (b : Bool) → is_md5_of q.conn ≡ b
          → signed_segment e q x s
          ≡ with_checksum_of (local_address q.conn.pair) (remote_address q.conn.pair) (with_option (option_on e q x s) s)
      go true way = rw way
      go false way = rw way

  -- a MAC has at most sixteen bytes
  module _ (short : is_md5_of q.conn ≡ false → e.secret.mac_bytes ≤ 16) where
    pub length-on : length (option_on e q x s) ≡ added_on_lem q.conn e
    length-on = go (is_md5_of q.conn) refl
      where
        go : (b : Bool) → is_md5_of q.conn ≡ b → length (option_on e q x s) ≡ added_on_lem q.conn e
        go true way = rw way (length-md5-option (digest_for e q s) (length-digest (key_of e.secret) _ _ (digested_with (replicate 16 0) s)))
        go false way =
            rw way
            (length-option q.send_id q.ask_id (mac_for e q x s)
            ∙ ap option_bytes (length-mac e.secret (leaving_hidden_of e.secret) (leaving q.conn) (extension_of_lem x) 20 _ (short way)))

    pub whole-on : Whole (length (option_on e q x s))
    whole-on = subst⁻¹ Whole length-on (go (is_md5_of q.conn) refl)
      where
        go : (b : Bool) → is_md5_of q.conn ≡ b → Whole (added_on_lem q.conn e)
        go true way = rw way refl
        go false way = rw way (whole_words e.secret.mac_bytes)

    -- it has as many bytes as the answer says
    pub signed-long : Fresh s → length (signed_segment e q x s) ≡ length s + added_on_lem q.conn e
    signed-long fresh =
        let p = (put s fresh (option_on e q x s) whole-on).its-length in
        let f = fresh.long in
        let l = length-on in
        ap length signed_is ∙ length-checked _ _ (with_option (option_on e q x s) s) (omega arith) ∙ omega arith

-- what lent tables have for the outgoing key
pub short-lent : (b : Lent) (s out : List ℕ) (q : State) → Signs (tables b) s out q → is_md5_of q.conn ≡ false
    → (outgoing (tables b) q).entry.secret.mac_bytes ≤ 16
short-lent b s out q g way =
    let o = outgoing-ao (tables b) q way in
    subst⁻¹ (λ (f : Found). f.entry.secret.mac_bytes ≤ 16) o
    (lent_found b q.conn.pair q.send_id g.taken (sym (ap (λ (f : Found). f.there) o) ∙ g.entry)).mac-high

module _ (q : State) (e : Entry) (x : ℕ) (b : List ℕ) (g : SignedAt q e x b) where
  abbrev s : List ℕ
  s = g.unsigned

  pub signs : Signs (tables g.lent) s g.out q
  signs =
      let o = signed-good (tables g.lent) s g.out q (length b) g.answer in
      (signs-good (tables g.lent) s g.out q o.0 o.1 o.2).0

  pub short : is_md5_of q.conn ≡ false → e.secret.mac_bytes ≤ 16
  short way = subst (λ (f : Entry). f.secret.mac_bytes ≤ 16) g.under (short-lent g.lent s g.out q signs way)

  abbrev pub option : List ℕ
  option = option_on e q x s

  abbrev carried : List ℕ
  carried = with_option option s

  its-put : Put s option (ports_of_lem s) 0 0 carried
  its-put = put s signs.fresh option (whole-on e q x s short)

  enough : 20 ≤ length carried
  enough = let l = its-put.its-length in let f = signs.fresh.long in omega arith

  added_is : added_on_lem q.conn (outgoing (tables g.lent) q).entry ≡ length option
  added_is = ap (added_on_lem q.conn) g.under ∙ sym (length-on e q x s short)

  abbrev checked : List ℕ
  checked = with_checksum_of (local_address q.conn.pair) (remote_address q.conn.pair) carried

  -- the bytes are those of the definition
  pub wrote-is : b ≡ checked
  unfolding output
  wrote-is =
      let o = signed-good (tables g.lent) s g.out q (length b) g.answer in
      let p = signs-good (tables g.lent) s g.out q o.0 o.1 o.2 in
      let v : o.0 ≡ x = sym p.1 ∙ ap value g.position in
      let l : length checked ≡ length b =
      length-checked _ _ carried (omega (arith, enough)) ∙ its-put.its-length ∙ ap (λ (n : ℕ). length s + n) (sym added_is) ∙ o.3 in
      g.wrote
      ∙ ap (λ (z : Outcome). take (length b) (output_by q s g.out (outgoing (tables g.lent) q).entry z)) o.2
      ∙ ap₂ (λ (f : Entry) (y : ℕ). take (length b) (written (signed_segment f q y s) g.out)) g.under v
      ∙ ap (λ (z : List ℕ). take (length b) (written z g.out)) (signed_is e q x s)
      ∙ take_at checked (drop (length checked) g.out) (length b) l

  -- Ticket 5: with the right checksum, between the state's own addresses
  pub wrote_right : Typed q → sums_right (local_address q.conn.pair) (remote_address q.conn.pair) b ≡ true
  wrote_right typed =
      ap (sums_right (local_address q.conn.pair) (remote_address q.conn.pair)) wrote-is
      ∙ checked-right (local_address q.conn.pair) (remote_address q.conn.pair) carried (omega (arith, enough))
      (address-length q.conn.pair.family q.conn.pair.local typed.local
      ∙ sym (address-length q.conn.pair.family q.conn.pair.remote typed.remote))

  pub wrote-long : 20 ≤ length b
  wrote-long =
      subst⁻¹ (λ (l : List ℕ). 20 ≤ length l) wrote-is (subst⁻¹ (λ (n : ℕ). 20 ≤ n) (length-checked _ _ carried (omega (arith, enough))) enough)

  pub wrote-ports : ports_of_lem b ≡ ports_of_lem s
  wrote-ports =
      ap ports_of_lem wrote-is ∙ checked-ports _ _ carried (omega (arith, enough))
      ∙ ports-put s signs.fresh option (whole-on e q x s short)

  -- As it comes to the end that holds the pair p.
  module _ (p : Pair) (a : Arrival) (v : Delivered p b a) where
    abbrev segment : List ℕ
    segment = a.segment

    pub segment-is : segment ≡ rechecked v.high v.low (with_ports p.remote_port p.local_port carried)
    segment-is =
        v.segment
        ∙ ap (λ (l : List ℕ). rechecked v.high v.low (with_ports p.remote_port p.local_port l)) wrote-is
        ∙ checked-again-under _ _ carried (omega (arith, enough)) p.remote_port p.local_port v.high v.low

    pub comes : Put s option (ports_written p.remote_port p.local_port) v.high v.low segment
    comes =
        subst⁻¹ (Put s option (ports_written p.remote_port p.local_port) v.high v.low) segment-is
        (put-again s signs.fresh option (whole-on e q x s short) p.remote_port p.local_port v.high v.low)

    -- nothing of 20
    pub sizes : (ltb (length segment) 20 ≡ false) × (ltb 65535 (length segment) ≡ false) × (ltb (data_offset_of segment) 5 ≡ false)
        × (ltb (length segment) (header_end_of segment) ≡ false)
    sizes =
        let a = comes.its-length in
        let z = comes.its-end in
        let h = signs.header in
        let w = signs.whole in
        let l = signs.fresh.long in
        let o = signs.fresh.low in
        let i = signs.fresh.inside in
        let k = added_is in (
          le-ltb (length segment) 20 (omega arith),
          le-ltb 65535 (length segment) (omega arith),
          le-ltb (data_offset_of segment) 5 (omega arith),
          le-ltb (length segment) (header_end_of segment) (omega arith),
        )

  -- On the TCP-AO way.
  module _ (way : is_md5_of q.conn ≡ false) where
    abbrev pub hides : Hidden
    hides = leaving_hidden_of e.secret

    abbrev pub mac : List ℕ
    mac = mac_for e q x s

    pub length-its-mac : length mac ≡ e.secret.mac_bytes
    length-its-mac = length-mac e.secret hides (leaving q.conn) (extension_of_lem x) 20 _ (short way)

    module _ (p : Pair) (a : Arrival) (v : Delivered p b a) where
      segment-ao : a.segment
          ≡ rechecked v.high v.low (with_ports p.remote_port p.local_port (signed_with q.send_id q.ask_id mac s))
      segment-ao =
          segment-is p a v
          ∙ ap (λ (o : List ℕ). rechecked v.high v.low (with_ports p.remote_port p.local_port (with_option o s)))
          (on-ao e q x s way)

      pub reads : Arrived s a.segment q.send_id q.ask_id mac
      reads =
          subst⁻¹ (λ (z : List ℕ). Arrived s z q.send_id q.ask_id mac) segment-ao
          (arrival s signs.fresh q.send_id q.ask_id mac p.remote_port p.local_port v.high v.low)

      -- the receiver computes the MAC that it carries, if of the flow only what is hidden was rewritten
      pub same-mac : (r : Secret) (h : Hidden) (f : Flow) → Agree r e.secret → h ≡ hides → Alike hides f (leaving q.conn)
          → p.remote_port ≡ f.source_port → p.local_port ≡ f.destination_port
          → segment_mac r h f (extension_of_lem x) 20 a.segment ≡ mac
      unfolding segment_mac
      same-mac r h f agree hidden alike source destination =
          ap (λ (h : Hidden). segment_mac r h f (extension_of_lem x) 20 a.segment) hidden
          ∙ mac-agree r e.secret hides f (extension_of_lem x) 20 a.segment agree
          ∙ ap₂ (λ (g : Flow) (z : List ℕ). taken g (message e.secret hides g (extension_of_lem x) 20 z)) same segment-ao
          ∙ ap (taken (blanked hides (leaving q.conn)))
          (covers s signs.fresh q.send_id q.ask_id mac p.remote_port p.local_port v.high v.low e.secret
          hides (blanked hides (leaving q.conn)) (extension_of_lem x) (sym length-its-mac) g.octets
          (λ k. source ∙ alike.source-port k ∙ sym signs.source-port)
          (λ k. destination ∙ alike.destination-port k ∙ sym signs.destination-port))
        where
          taken : Flow → List ℕ → List ℕ
          taken f m = take e.secret.mac_bytes (applied e.secret.algorithm (traffic_key_of e.secret f) m)

          same : blanked hides f ≡ blanked hides (leaving q.conn)
          same = blanked-alike hides f (leaving q.conn) alike
