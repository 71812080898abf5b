-- The bytes that signing writes are those of the definition, and the MAC that the data end is the segment's, by either way. Document 01,
-- "Signing puts TCP-AO directly after byte 20, .."; document 02, Ticket 9. Assumes nothing.
use Prim.Native.Nat.{ℕ, zero, suc, ◌+◌, ◌-◌, ◌*◌, ◌/◌, ◌≤◌}
use mathlib.Core.Bool.{Bool, true, false, cond}
use mathlib.Core.Path.{◌≡◌, refl, sym, ap, ap₂, subst, ◌∙◌}
use mathlib.Core.List.{List, [], ◌∷◌, ◌++◌, append_assoc}
use native.Mathlib.Omega.{arith}
use native.Mathlib.Nat.{sub-zero}
use lib.ListN.{length, get_or, take, drop, replicate, length-append, length-drop, length-replicate, replicate-append-replicate}
use lib.Seq.{paste, take_at, drop_at, drop-drop, drop-cons, take-length, take_all, length-take-le, get_or-take}
use Rattle.checksum.specs.declared.Sum.{Sum}
use Rattle.checksum.specs.Checksum.{replaced, checksummed}
use Rattle.checksum.specs.Running.{begun, added as added_to}
use Rattle.wire.specs.Header.{header_end_of}
use Rattle.keys.specs.declared.entry.Secret.{Secret}
use Rattle.keys.specs.declared.entry.Entry.{Entry}
use Rattle.keys.specs.Entry.{key_of}
use Rattle.rules.specs.declared.State.{State}
use Rattle.rules.specs.declared.Hidden.{Hidden}
use Rattle.rules.specs.Mac.{Flow, leaving_hidden_of, blanked, pseudo_header, front, segment_mac}
use Rattle.rules.specs.Digest.{segment_digest}
use Rattle.rules.proofs.DigestLaws.{length-digest}
use Rattle.rules.specs.Checksum.{with_checksum_of}
use Rattle.rules.proofs.ChecksumLaws.{pseudo-even}
use Rattle.rules.proofs.MacLaws.{length-mac}
use Rattle.rules.specs.Segment.{inserted, with_option, Whole, padding, option_of, option_bytes, md5_option_bytes, signed_with, digested_with}
use Rattle.rules.specs.Connection.{local_address, remote_address, is_md5_of, leaving, extension_of_lem}
use Rattle.rules.specs.Calls.{authenticated, digested, signed_segment, written}
use Rattle.traffic.specs.Padded.{padded}
use Rattle.traffic.specs.MacContext.{MacView, mac_view, mac_absorb, mac_finished, fronted_by, digested_by}
use Rattle.traffic.specs.TagLaws.{tagged, tag-mac-parts}
use Rattle.traffic.specs.DigestLaws.{digest-parts}
use Rattle.traffic.specs.declared.context.MacContext.{MacContext}
use Rattle.checks.specs.Begin.{mac_length_of}
use Rattle.tcpao.specs.SignedBytes.{Form, ao_form, md5_form, form_of, option_with, added_by, fixed_bytes, head_bytes, blank_option, Room, Signable}
use Rattle.tcpao.specs.SignBegin.{blank_header_of, ao_front, md5_front, front_of_lem, mac_place_of, Ready, Starts, Fed, Writable, with_mac}
use Rattle.tcpao.specs.SignBegin.{checked_header, ended, finished}
use Rattle.tcpao.specs.declared.sign_begun.SignBegun.{SignBegun}
use Rattle.tcpao.specs.declared.sign_begun.Carrier.{Carrier}
use Rattle.tcpao.specs.declared.sign_begun.Carrier.TheVariants.{Ao, Md5}
use Rattle.tcpao.proofs.CheckedLaws.{checked-is}

-- The head.

-- bytes that are read one by one
abbrev pub reads : ℕ → ℕ → List ℕ → List ℕ
reads zero i s = []
reads (suc n) i s = get_or s i 0 ∷ reads n (suc i) s

pub reads-is : (n i : ℕ) (s : List ℕ) → i + n ≤ length s → reads n i s ≡ take n (drop i s)
reads-is zero i s h = refl
reads-is (suc n) i s h =
    ap (λ (l : List ℕ). get_or s i 0 ∷ l) (reads-is n (suc i) s (omega arith))
    ∙ sym (ap (λ (l : List ℕ). take (suc n) l) (drop-cons s i 0 (omega arith)))

-- a header with an option inserted is its twenty bytes, the option and the old options
module _ (opt h : List ℕ) (low : 20 ≤ length h) where
  header_is : inserted opt h ≡ fixed_bytes (length opt / 4) h ++ (opt ++ drop 20 h)
  unfolding inserted fixed_bytes
  header_is =
      λ i. sym (reads-is 12 0 h (omega arith)) i
      ++ ((get_or h 12 0 + 16 * (length opt / 4)) ∷ sym (reads-is 3 13 h (omega arith)) i)
      ++ (0 ∷ 0 ∷ sym (reads-is 2 18 h (omega arith)) i) ++ opt ++ drop 20 h

  length_inserted : length (inserted opt h) ≡ length h + length opt
  unfolding fixed_bytes
  length_inserted = let e = ap length header_is in omega (arith, e, length-append opt (drop 20 h), length-drop 20 h)

  -- its checksum is zero
  unchecked : replaced 16 (0 ∷ 0 ∷ []) (inserted opt h) ≡ inserted opt h
  unfolding fixed_bytes
  unchecked = ap (replaced 16 (0 ∷ 0 ∷ [])) header_is ∙ sym header_is

  -- and it ends where it says, whatever stands behind it
  inserted-end : (d : List ℕ) → Whole (length opt) → header_end_of h ≡ length h → header_end_of (inserted opt h ++ d) ≡ length (inserted opt h)
  unfolding fixed_bytes
  inserted-end d w e = ap (λ (l : List ℕ). header_end_of (l ++ d)) header_is ∙ omega (arith, w, e, length_inserted)

-- Parts laid one behind another.

behind : (p x o : List ℕ) (n : ℕ) → length p ≡ n → paste (p ++ o) n x (length x) ≡ p ++ x ++ drop (length x) o
behind p x o n e =
    ap (λ (l : List ℕ). l ++ take (length x) x ++ drop (n + length x) (p ++ o)) (take_at p o n e)
    ∙ ap (λ (l : List ℕ). p ++ l ++ drop (n + length x) (p ++ o)) (take-length x)
    ∙ ap (λ (l : List ℕ). p ++ x ++ l) (sym (drop-drop (length x) n (p ++ o)) ∙ ap (λ (l : List ℕ). drop (length x) l) (drop_at p o n e))

-- the output: the header, then the data
pub laid_out : (h d o a : List ℕ) {c : List ℕ} → a ≡ paste o 0 h (length h) → c ≡ paste a (length h) d (length d) → c ≡ written (h ++ d) o
laid_out h d o a ea ec =
    let p : a ≡ h ++ drop (length h) o = ea ∙ behind [] h o 0 refl in
    ec ∙ ap (λ (l : List ℕ). paste l (length h) d (length d)) p ∙ behind h d (drop (length h) o) (length h) refl
    ∙ ap (λ (l : List ℕ). h ++ d ++ l) (drop-drop (length d) (length h) o ∙ ap (λ (n : ℕ). drop n o) (sym (length-append h d)))

-- another MAC in the place of one as long
module _ (pre z m post h pad : List ℕ) (low : 20 ≤ length h) (same : length z ≡ length m) where
  abbrev words : List ℕ → ℕ
  words y = length (pre ++ (y ++ post)) / 4

  abbrev after : List ℕ
  after = post ++ (drop 20 h ++ pad)

  apart : (y : List ℕ) → inserted (pre ++ (y ++ post)) h ++ pad ≡ fixed_bytes (words y) h ++ pre ++ (y ++ after)
  apart y =
      let f = fixed_bytes (words y) h in
      let o = pre ++ (y ++ post) in
      ap (λ (l : List ℕ). l ++ pad) (header_is o h low)
      ∙ append_assoc f (o ++ drop 20 h) pad
      ∙ ap (λ (l : List ℕ). f ++ l)
      (append_assoc o (drop 20 h) pad ∙ append_assoc pre (y ++ post) (drop 20 h ++ pad)
      ∙ ap (λ (l : List ℕ). pre ++ l) (append_assoc y post (drop 20 h ++ pad)))
      ∙ sym (append_assoc f pre (y ++ after))

  as_long : words z ≡ words m
  as_long =
      ap (λ (n : ℕ). n / 4)
      (length-append pre (z ++ post) ∙ ap (λ (n : ℕ). length pre + n) (length-append z post ∙ ap (λ (n : ℕ). n + length post) same ∙ sym (length-append m post))
      ∙ sym (length-append pre (m ++ post)))

  front_long : length (fixed_bytes (words m) h ++ pre) ≡ 20 + length pre
  unfolding fixed_bytes
  front_long = length-append (fixed_bytes (words m) h) pre

  put : paste (inserted (pre ++ (z ++ post)) h ++ pad) (20 + length pre) m (length m) ≡ inserted (pre ++ (m ++ post)) h ++ pad
  put =
      let f = fixed_bytes (words m) h ++ pre in
      ap (λ (l : List ℕ). paste l (20 + length pre) m (length m)) (apart z ∙ ap (λ (n : ℕ). fixed_bytes n h ++ pre ++ (z ++ after)) as_long)
      ∙ behind f m (z ++ after) (20 + length pre) front_long
      ∙ ap (λ (l : List ℕ). f ++ m ++ l) (drop_at z after (length m) same) ∙ append_assoc f m after ∙ sym (apart m)

-- Parts laid into zeros.

abbrev zeros : ℕ → List ℕ
zeros n = replicate n 0

drop-zeros : (n m : ℕ) → drop n (zeros m) ≡ zeros (m - n)
drop-zeros zero m = ap zeros (sym (sub-zero m))
drop-zeros (suc n) zero = ap zeros (let e : 0 ≡ 0 - suc n = omega arith in e)
drop-zeros (suc n) (suc m) = drop-zeros n m ∙ ap zeros (let e : m - n ≡ suc m - suc n = omega arith in e)

-- x, at the place i of an array of `room` bytes, k zeros behind what was laid before
laid : (p x : List ℕ) (k i room : ℕ) {a b : List ℕ} → i ≡ length p + k → i + length x ≤ room → a ≡ padded room p → b ≡ paste a i x (length x)
    → b ≡ padded room (p ++ (zeros k ++ x))
laid p x k i room ei most ea eb =
    let z : length (zeros k) ≡ k = length-replicate k 0 in
    let o = room - length p - k in
    let m : room - length p ≡ k + o = omega arith in
    let split : padded room p ≡ p ++ zeros k ++ zeros o =
    ap (λ (n : ℕ). p ++ zeros n) m ∙ ap (λ (l : List ℕ). p ++ l) (sym (replicate-append-replicate k o 0))
    ∙ sym (append_assoc p (zeros k) (zeros o)) in
    let j : length (p ++ (zeros k ++ x)) ≡ length p + (k + length x) =
    length-append p (zeros k ++ x) ∙ omega (arith, length-append (zeros k) x) in
    let v : o - length x ≡ room - length (p ++ (zeros k ++ x)) = omega arith in
    eb ∙ ap (λ (l : List ℕ). paste l i x (length x)) (ea ∙ split)
    ∙ behind (p ++ zeros k) x (zeros o) i (omega (arith, length-append p (zeros k)))
    ∙ ap₂ (λ (l y : List ℕ). l ++ y) (append_assoc p (zeros k) x) (drop-zeros (length x) o ∙ ap zeros v)

-- the first of three bytes of kind 1
pub ones-are : (n : ℕ) → n ≤ 3 → take n (replicate {A = ℕ} 3 1) ≡ replicate n 1
ones-are zero h = refl
ones-are (suc zero) h = refl
ones-are (suc (suc zero)) h = refl
ones-are (suc (suc (suc zero))) h = refl
ones-are (suc (suc (suc (suc n)))) h = absurd (omega arith)

-- the signed header with zeros for the MAC, as its three parts are laid into zeros
module _ (g a c ones : List ℕ) (kind len third fourth added : ℕ) (has : Room g added len) where
  abbrev rest : List ℕ
  rest = drop 20 g

  abbrev pads : List ℕ
  pads = replicate (added - len) 1

  abbrev laid-head : List ℕ
  laid-head = head_bytes (added / 4) kind len third fourth g

  abbrev with-padding : List ℕ
  with-padding = laid-head ++ (zeros (len - 4) ++ pads)

  length-pads : length pads ≡ added - len
  length-pads = length-replicate (added - len) 1

  length-gap : length (zeros (len - 4)) ≡ len - 4
  length-gap = length-replicate (len - 4) 0

  length-with-padding : length with-padding ≡ 20 + added
  unfolding head_bytes fixed_bytes
  length-with-padding = omega (arith, has.least, has.fits, length-append (zeros (len - 4)) pads, length-pads, length-gap)

  length-blank : length (blank_option kind len third fourth added) ≡ added
  length-blank = omega (arith, has.least, has.fits, length-append (zeros (len - 4)) pads, length-pads, length-gap)

  whole : inserted (blank_option kind len third fourth added) g ≡ with-padding ++ rest
  unfolding head_bytes fixed_bytes
  whole =
      header_is (blank_option kind len third fourth added) g has.low
      ∙ ap (λ (n : ℕ). fixed_bytes (n / 4) g ++ (blank_option kind len third fourth added ++ rest)) length-blank

  pub blank-is : {h b : List ℕ} → h ≡ laid-head → a ≡ paste (zeros 60) 0 h (length h)
      → ones ≡ pads → c ≡ paste a (20 + len) ones (length ones)
      → b ≡ paste c (20 + added) (take (length g - 20) rest) (length (take (length g - 20) rest))
      → b ≡ padded 60 (inserted (blank_option kind len third fourth added) g)
  unfolding head_bytes fixed_bytes
  blank-is eh ea eo ec eb =
      let lr : length rest ≡ length g - 20 = length-drop 20 g in
      let all : take (length g - 20) rest ≡ rest = take_all (length g - 20) rest (omega arith) in
      let w = has.least in
      let s = has.fits in
      let l = has.long in
      let o = has.low in
      let first : a ≡ padded 60 laid-head =
      laid [] laid-head 0 0 60 refl (omega arith) refl (ea ∙ ap (λ (x : List ℕ). paste (zeros 60) 0 x (length x)) eh) in
      let second : c ≡ padded 60 with-padding =
      laid laid-head pads (len - 4) (20 + len) 60 (omega arith) (omega (arith, length-pads)) first
      (ec ∙ ap (λ (x : List ℕ). paste a (20 + len) x (length x)) eo) in
      laid with-padding rest 0 (20 + added) 60 (omega (arith, length-with-padding)) (omega (arith, lr)) second
      (eb ∙ ap (λ (x : List ℕ). paste c (20 + added) x (length x)) all)
      ∙ ap (padded 60) (sym whole)

-- with the checksum between the state's own addresses
abbrev summed : State → List ℕ → List ℕ
summed q b = with_checksum_of (local_address q.conn.pair) (remote_address q.conn.pair) b

-- Signing, of a segment that the tests left, by an option of any form.
module _ (f : Form) (q : State) (s : List ℕ) (can : Signable s f) where
  abbrev old : List ℕ
  old = take (header_end_of s) s

  abbrev d : List ℕ
  d = drop (header_end_of s) s

  abbrev blank : List ℕ
  blank = blank_header_of f s

  long : length old ≡ header_end_of s
  long = length-take-le (header_end_of s) s can.inside

  enough : 20 ≤ length old
  enough = omega (arith, long, can.low)

  option-long : (m : List ℕ) → length m ≡ f.bytes → length (option_with f m) ≡ added_by f
  option-long m e =
      omega (
        arith,
        length-append f.head (m ++ replicate f.ones 1),
        length-append m (replicate f.ones 1),
        e,
        length-replicate {A = ℕ} f.ones 1,
      )

  header-long : (m : List ℕ) → length m ≡ f.bytes → length (inserted (option_with f m) old) ≡ header_end_of s + added_by f
  header-long m e = length_inserted (option_with f m) old enough ∙ ap₂ (λ (i j : ℕ). i + j) long (option-long m e)

  blank-long : length blank ≡ header_end_of s + added_by f
  blank-long = header-long (zeros f.bytes) (length-replicate f.bytes 0)

  -- the pseudo-header of a segment of i bytes that leaves
  abbrev pseudo : ℕ → List ℕ
  pseudo i = pseudo_header (local_address q.conn.pair) (remote_address q.conn.pair) i

  -- what the code asks of the parts of the blank header
  pub cut : {end : ℕ} → end ≡ header_end_of s → end ≡ length (take end s)
  cut {end = end} h = sym (length-take-le end s (omega (arith, h, can.inside)))

  pub has_room : {end added len : ℕ} → end ≡ header_end_of s → added ≡ added_by f → 4 ≤ len → len ≤ added → added ≤ len + 3
      → Room (take end s) added len
  has_room {end = end} h is least fits near =
      let l = cut h in
      let w = can.whole in
      let m = can.header in
      let o = can.low in
      let b : get_or (take end s) 12 0 ≡ get_or s 12 0 = get_or-take end s 12 0 (omega arith) in
      record {
        low = omega arith;
        long = omega arith;
        words = omega arith;
        least = least;
        fits = fits;
        near = near;
        whole = subst Whole (sym is) w;
      }

  -- it is the front of the array that holds it
  pub front-is : {end added : ℕ} {h : List ℕ} → end ≡ header_end_of s → added ≡ added_by f → h ≡ padded 60 blank → take (end + added) h ≡ blank
  front-is {end = end} {added = added} ends adds heads =
      ap (take (end + added)) heads ∙ take_at blank (zeros (60 - length blank)) (end + added) (omega (arith, blank-long, ends, adds))

  pub starts_is : (x : ℕ) (v : MacView) (way : Carrier) {added n : ℕ} {h : List ℕ} (m : MacContext) (u : Sum) → mac_place_of way ≡ 20 + length f.head
      → n ≡ f.bytes → added ≡ added_by f → h ≡ padded 60 blank → mac_view m ≡ v → u ≡ added_to begun (pseudo (length s + added))
      → Starts x f v q s
      (record { position = x; carrier = way; added = added; header = h; mac = m; mac_bytes = n; sum = u })
  starts_is x v way m u stands counts adds heads macs sums =
      record {
        position = refl;
        ready =
            record {
              place = stands;
              bytes = counts;
              added = adds;
              header = heads;
              mac = macs;
              sum = sums ∙ (λ i. added_to begun (pseudo (length s + adds i)));
            };
      }

  -- the segment with zeros, as header and data
  blank-ends : header_end_of (blank ++ d) ≡ length blank
  blank-ends =
      let o : get_or old 12 0 ≡ get_or s 12 0 = get_or-take (header_end_of s) s 12 0 (omega (arith, can.low)) in
      let l = option-long (zeros f.bytes) (length-replicate f.bytes 0) in
      inserted-end (option_with f (zeros f.bytes)) old enough d (subst Whole (sym l) can.whole) (omega (arith, o, long))

  blank-all : length s + added_by f ≡ length blank + length d
  blank-all = omega (arith, blank-long, length-drop (header_end_of s) s, can.inside)

  -- what begin, data and end come to: the MAC that the data end stands where its zeros stood
  module _ (b : SignBegun) (v : MacView) (ready : Ready f v q s b) where
    pub writable : (out : List ℕ) → length s + added_by f ≤ length out → Writable b s out
    writable out room =
        record {
          inside = can.inside;
          header = omega (arith, ready.added, can.header);
          room = omega (arith, ready.added, room);
        }

    module _ (mac : List ℕ) (sized : length mac ≡ f.bytes) (is : take f.bytes (mac_finished (mac_absorb v d)) ≡ mac) where
      abbrev new : List ℕ
      new = inserted (option_with f mac) old

      ends-mac : take (mac_length_of b.mac_bytes) (mac_finished (mac_absorb (mac_view b.mac) d)) ≡ mac
      ends-mac =
          let same : mac_length_of b.mac_bytes ≡ f.bytes = omega (arith, ready.bytes, can.short) in
          (λ i. take (same i) (mac_finished (mac_absorb (ready.mac i) d))) ∙ is

      with-mac : with_mac b (mac_absorb (mac_view b.mac) d) ≡ new ++ zeros (60 - length blank)
      with-mac =
          (λ i. paste (ready.header i) (ready.place i) (ends-mac i) (length (ends-mac i)))
          ∙ put f.head (zeros f.bytes) mac (replicate f.ones 1) old (zeros (60 - length blank)) enough
          (length-replicate f.bytes 0 ∙ sym sized)

      all-long : length (new ++ d) ≡ length s + added_by f
      all-long = omega (arith, length-append new d, header-long mac sized, length-drop (header_end_of s) s, can.inside)

      module _ (alike : length (local_address q.conn.pair) ≡ length (remote_address q.conn.pair)) where
        checked : finished b s ≡ summed q (new ++ d)
        unfolding with_checksum_of
        checked =
            let l = header-long mac sized in
            let cut : header_end_of s + b.added ≡ length new = ap (λ (i : ℕ). header_end_of s + i) ready.added ∙ sym l in
            (λ i. take (cut i) (checked_header (with-mac i) (added_to (ready.sum i) d)) ++ d)
            ∙ checked-is (pseudo (length s + added_by f)) new d (pseudo-even _ _ (length s + added_by f) alike) (omega (arith, l, can.whole))
            (omega (arith, l, can.low)) (unchecked (option_with f mac) old enough) (60 - length blank) refl
            ∙ ap (λ (i : ℕ). checksummed 16 (pseudo i) (new ++ d)) (sym all-long)

-- TCP-AO.

ao-option : (e : Secret) (q : State) (m : List ℕ) → length m ≡ e.mac_bytes → option_with (ao_form e q) m ≡ option_of q.send_id q.ask_id m
ao-option e q m l = λ i. (29 ∷ (4 + sym l i) ∷ q.send_id ∷ q.ask_id ∷ (m ++ replicate (padding (sym l i)) 1))

-- as the code lays it out
pub ao-blank : (e : Secret) (q : State) {added : ℕ} → added ≡ option_bytes e.mac_bytes
    → blank_option 29 (4 + e.mac_bytes) q.send_id q.ask_id added ≡ option_with (ao_form e q) (zeros e.mac_bytes)
ao-blank e q {added} is =
    let n = e.mac_bytes in
    let a : 4 + n - 4 ≡ n = omega arith in
    let b : added - (4 + n) ≡ padding n = omega (arith, is) in
    λ i. (29 ∷ (4 + n) ∷ q.send_id ∷ q.ask_id ∷ (zeros (a i) ++ replicate (b i) 1))

module _ (x : ℕ) (e : Secret) (q : State) (s : List ℕ) (can : Signable s (ao_form e q)) where
  abbrev n : ℕ
  n = e.mac_bytes

  abbrev flow : Flow
  flow = leaving q.conn

  abbrev hides : Hidden
  hides = leaving_hidden_of e

  abbrev ao-segment : List ℕ
  ao-segment = signed_with q.send_id q.ask_id (zeros n) s

  abbrev mac : List ℕ
  mac = segment_mac e hides flow (extension_of_lem x) 20 ao-segment

  length-of-mac : length mac ≡ n
  length-of-mac = length-mac e hides flow (extension_of_lem x) 20 ao-segment can.short

  ao-tag : take n (mac_finished (mac_absorb (ao_front x e q s) (drop (header_end_of s) s))) ≡ mac
  unfolding with_option
  ao-tag =
      let f = ao_form e q in
      let b = blank_header_of f s in
      let d = drop (header_end_of s) s in
      ap (take n)
      (tagged e (blanked hides flow) (front e hides (blanked hides flow) (extension_of_lem x) 20 (length s + added_by f) b) d refl refl refl)
      ∙ tag-mac-parts e hides flow (extension_of_lem x) 20 (length s + added_by f) b d (blank-ends f q s can) (blank-all f q s can) can.short
      ∙ ap (λ (o : List ℕ). segment_mac e hides flow (extension_of_lem x) 20 (inserted o (take (header_end_of s) s) ++ d))
      (ao-option e q (zeros n) (length-replicate n 0))

  ao-finished : (b : SignBegun) → Ready (ao_form e q) (ao_front x e q s) q s b
      → length (local_address q.conn.pair) ≡ length (remote_address q.conn.pair) → (entry : Entry) → entry.secret ≡ e
      → finished b s ≡ summed q (authenticated entry q x s)
  unfolding authenticated with_option
  ao-finished b ready alike entry under =
      let k = q.send_id in
      let r = q.ask_id in
      checked (ao_form e q) q s can b (ao_front x e q s) ready mac length-of-mac ao-tag alike
      ∙ ap (λ (o : List ℕ). summed q (inserted o (take (header_end_of s) s) ++ drop (header_end_of s) s))
      (ao-option e q mac length-of-mac)
      ∙ ap (λ (v : Secret). summed q (signed_with k r (segment_mac v (leaving_hidden_of v) flow (extension_of_lem x) 20 (signed_with k r (zeros v.mac_bytes) s)) s))
      (sym under)

  pub ao-starts : {old : List ℕ} {added ext len : ℕ} → len ≡ length s → (f : Flow) (v : Hidden) (m : MacContext) {h : List ℕ} (u : Sum) → old ≡ take (header_end_of s) s
      → added ≡ option_bytes n → f ≡ flow → ext ≡ extension_of_lem x → v ≡ hides
      → h ≡ padded 60 (inserted (blank_option 29 (4 + n) q.send_id q.ask_id added) old)
      → mac_view m ≡ fronted_by e v f ext 20 (len + added) (take (length old + added) h)
      → u ≡ added_to begun (pseudo_header (local_address q.conn.pair) (remote_address q.conn.pair) (len + added))
      → Starts x (ao_form e q) (ao_front x e q s) q s
      (record { position = x; carrier = Ao; added = added; header = h; mac = m; mac_bytes = n; sum = u })
  ao-starts {added = added} lens f v m u olds adds flows exts hid heads macs sums =
      let ends = ap length olds ∙ length-take-le (header_end_of s) s can.inside in
      let hb = heads ∙ (λ i. padded 60 (inserted (ao-blank e q adds i) (olds i))) in
      let t = front-is (ao_form e q) q s can ends adds hb in
      starts_is (ao_form e q) q s can x (ao_front x e q s) Ao m u refl refl adds hb
      (macs ∙ (λ i. fronted_by e (hid i) (flows i) (exts i) 20 (lens i + adds i) (t i)))
      (sums ∙ (λ i. added_to begun (pseudo_header (local_address q.conn.pair) (remote_address q.conn.pair) (lens i + added))))

-- MD5.

module _ (e : Secret) (q : State) (s : List ℕ) (can : Signable s md5_form) where
  abbrev digest : List ℕ
  digest =
      segment_digest (key_of e) (leaving q.conn).source (leaving q.conn).destination (digested_with (zeros 16) s)

  md5-tag : take 16 (mac_finished (mac_absorb (md5_front e q s) (drop (header_end_of s) s))) ≡ digest
  unfolding with_option
  md5-tag =
      digest-parts e (leaving q.conn) (length s + added_by md5_form) (blank_header_of md5_form s) (drop (header_end_of s) s)
      (blank-ends md5_form q s can) (blank-all md5_form q s can) refl refl refl

  md5-finished : (b : SignBegun) → Ready md5_form (md5_front e q s) q s b
      → length (local_address q.conn.pair) ≡ length (remote_address q.conn.pair) → (entry : Entry) → entry.secret ≡ e
      → finished b s ≡ summed q (digested entry q s)
  unfolding digested with_option
  md5-finished b ready alike entry under =
      checked md5_form q s can b (md5_front e q s) ready digest (length-digest _ _ _ _) md5-tag alike
      ∙ ap (λ (v : Secret). summed q (digested_with (segment_digest (key_of v) (leaving q.conn).source (leaving q.conn).destination (digested_with (zeros 16) s)) s))
      (sym under)

  pub md5-starts : (x : ℕ) {old : List ℕ} {added len : ℕ} → len ≡ length s → (f : Flow) (m : MacContext) {h : List ℕ} (u : Sum) → old ≡ take (header_end_of s) s
      → added ≡ md5_option_bytes → f ≡ leaving q.conn
      → h ≡ padded 60 (inserted (blank_option 19 18 0 0 added) old)
      → mac_view m ≡ digested_by e f (len + added) (take (length old + added) h)
      → u ≡ added_to begun (pseudo_header (local_address q.conn.pair) (remote_address q.conn.pair) (len + added))
      → Starts x md5_form (md5_front e q s) q s
      (record { position = x; carrier = Md5; added = added; header = h; mac = m; mac_bytes = 16; sum = u })
  md5-starts x {added = added} lens f m u olds adds flows heads macs sums =
      let ends = ap length olds ∙ length-take-le (header_end_of s) s can.inside in
      let hb = heads ∙ (λ i. padded 60 (inserted (blank_option 19 18 0 0 (adds i)) (olds i))) in
      let t = front-is md5_form q s can ends adds hb in
      starts_is md5_form q s can x (md5_front e q s) Md5 m u refl refl adds hb
      (macs ∙ (λ i. digested_by e (flows i) (lens i + adds i) (t i)))
      (sums ∙ (λ i. added_to begun (pseudo_header (local_address q.conn.pair) (remote_address q.conn.pair) (lens i + added))))

-- By the way of the connection.
module _ (x : ℕ) (e : Secret) (q : State) (s : List ℕ) (can : Signable s (form_of e q)) (b : SignBegun)
    (ready : Ready (form_of e q) (front_of_lem x e q s) q s b) (alike : length (local_address q.conn.pair) ≡ length (remote_address q.conn.pair)) where
  abbrev By : Bool → Type 0
  By way = Ready (cond way md5_form (ao_form e q)) (cond way (md5_front e q s) (ao_front x e q s)) q s b

  pub finished-is : (entry : Entry) → entry.secret ≡ e → finished b s ≡ signed_segment entry q x s
  unfolding signed_segment
  finished-is entry under = go (is_md5_of q.conn) refl
    where
      go : (way : Bool) → is_md5_of q.conn ≡ way → finished b s ≡ signed_segment entry q x s
      go true p =
          md5-finished e q s (subst (λ (w : Bool). Signable s (cond w md5_form (ao_form e q))) p can) b (subst By p ready) alike entry under
          ∙ ap (λ (w : Bool). summed q (cond w (digested entry q s) (authenticated entry q x s))) (sym p)
      go false p =
          ao-finished x e q s (subst (λ (w : Bool). Signable s (cond w md5_form (ao_form e q))) p can) b (subst By p ready) alike entry under
          ∙ ap (λ (w : Bool). summed q (cond w (digested entry q s) (authenticated entry q x s))) (sym p)

-- data, then the end
pub fed-ends : (b c : SignBegun) {d y : List ℕ} → Fed b d c → d ≡ y → {h : List ℕ} → h ≡ ended c (mac_view c.mac) c.sum
    → h ≡ ended b (mac_absorb (mac_view b.mac) y) (added_to b.sum y)
fed-ends b c f e q =
    let v = f.mac ∙ ap (mac_absorb (mac_view b.mac)) e in
    let u = f.sum ∙ ap (added_to b.sum) e in
    let place = ap mac_place_of f.carrier in
    let cut : mac_length_of c.mac_bytes ≡ mac_length_of b.mac_bytes = ap mac_length_of f.bytes in
    q
    ∙ (λ i. checked_header (paste (f.header i) (place i) (take (cut i) (mac_finished (v i))) (length (take (cut i) (mac_finished (v i))))) (u i))

-- the header with its MAC and checksum and the data, as they are written
pub written_is : (b c : SignBegun) (s out : List ℕ) {end : ℕ} {h o : List ℕ} → end ≡ header_end_of s
    → Fed b (take (length s - end) (drop end s)) c
    → h ≡ ended c (mac_view c.mac) c.sum → o ≡ written (take (end + b.added) h ++ take (length s - end) (drop end s)) out
    → o ≡ written (finished b s) out
written_is b c s out {end = end} e f eh eo =
    let d : take (length s - end) (drop end s) ≡ drop (header_end_of s) s =
    take_all (length s - end) (drop end s) (omega (arith, length-drop end s)) ∙ ap (λ (i : ℕ). drop i s) e in
    let g = fed-ends b c f d eh in
    eo ∙ (λ i. written (take (e i + b.added) (g i) ++ d i) out)
