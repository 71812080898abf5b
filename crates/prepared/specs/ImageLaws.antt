-- How long a prepared table is, and that what is written from valid bytes is read back as the same entries.
use Prim.Native.Nat.{ℕ, suc, zero, ◌+◌, ◌*◌, ◌-◌, ◌/◌, ◌%◌, ◌^◌, ◌≤◌, ◌<◌}
use Rattle.std.specs.Prelude.{Bool, true, false, ◌≡◌, get_or, take, replicate}
use Rattle.std.proofs.Math.Path.{refl, sym, ap}
use Rattle.std.proofs.Common.{◌∙◌, subst, length-take, take_all, take_at, take-suc, drop-drop, get_or-drop}
use mathlib.Core.List.{List, [], ◌∷◌, ◌++◌, append_assoc, append-nil}
use native.Mathlib.Omega.{arith}
use borrow.Author.Tests.{eq-eqb, le-leb}
use Rattle.std.proofs.Math.ListN.{length, drop, length-append, length-drop}
use Rattle.std.proofs.lemmas.List.{length-replicate}
use Rattle.std.proofs.Math.Seq.{drop_at, drop-append-le}
use Rattle.octets.specs.Each.{Each, Octets}
use Rattle.octets.specs.Octets.{be16}
use Rattle.wire.specs.Prefix.{clear_past_of}
use Rattle.keys.specs.Clash.{Formed}
use Rattle.keys.specs.Entry.{body, width, family_of_lem, side_of, selector_of_lem, entry_of, item, sound, items, entries_of, entries}
use Rattle.keys.proofs.EntryLaws.{Shape, width-le, entries-shape, entries-fields}
use Rattle.keys.proofs.FormedLaws.{proper-of, key-proper, md5-proper, md5-digests}
use Rattle.keys.proofs.LoadLaws.{valid-formed}
use Rattle.keys.proofs.MatchLaws.{Fields}
use Rattle.keys.specs.Table.{loaded}
use Rattle.keys.specs.declared.entry.Entry.{Entry}
use Rattle.keys.specs.declared.table.TableKind.{TableKind}
use Rattle.keys.specs.declared.table.TableKind.TheVariants.{Keys, Md5}
use Rattle.std.specs.Prelude.{Ok}
use Rattle.prepared.specs.Prepared.{max_entries, key_count_of, md5_count, total, prepared_bytes, fits, clean_family, clean}
use Rattle.prepared.specs.Prepared.{front_ids, raw_selector, raw_secret, raw_entry, stored_entry}
use Rattle.prepared.specs.Prepared.{octet_sum_of, mark_of, address_of, send_at, recv_at, bits_at, mark_at, slot_at, front_at_lem, back_at}
use Rattle.prepared.specs.Prepared.{stored_at, stored_from, key_part, md5_part, send_part, recv_part, bits_part, mark_part}
use Rattle.prepared.specs.Prepared.{stored_address_of, ports_part, slot, back, joined, columns, image}
use Rattle.prepared.specs.Form.{Digest16, PreparedRead, FormBytes}
use Rattle.prepared.specs.CleanLaws.{ProperIn, proper-in, family-same, clean-same}
use Rattle.prepared.specs.HoldLaws.{width_low, address_same}

-- lists of entries

each_map : (P Q : Entry → Type 0) → ((e : Entry) → P e → Q e) → (l : List Entry) → Each P l → Each Q l
each_map P Q f [] p = tt
each_map P Q f (e ∷ l) p = (f e p.0, each_map P Q f l p.1)

each_all : (P : Entry → Type 0) → ((e : Entry) → P e) → (l : List Entry) → Each P l
each_all P f [] = tt
each_all P f (e ∷ l) = (f e, each_all P f l)

each_append : (P : Entry → Type 0) (k m : List Entry) → Each P k → Each P m → Each P (k ++ m)
each_append P [] m p q = q
each_append P (e ∷ k) m p q = (p.0, each_append P k m p.1 q)

each-drop : (P : Entry → Type 0) (i : ℕ) (l : List Entry) → Each P l → Each P (drop i l)
each-drop P zero l p = p
each-drop P (suc i) [] p = tt
each-drop P (suc i) (e ∷ l) p = each-drop P i l p.1

drop-step : (i : ℕ) (l r : List Entry) (e : Entry) → drop i l ≡ e ∷ r → drop (i + 1) l ≡ r
drop-step i l r e q = sym (drop-drop 1 i l) ∙ ap (drop 1) q

-- the sizes of an entry's parts

pub record Sized (e : Entry) : Type 0 where
  pub local : length e.selector.local.address ≡ 16
  pub remote : length e.selector.remote.address ≡ 16
  pub key : length e.secret.key ≡ 80

stored-fifteen : (f : ℕ) (a : List ℕ) → length a ≡ 16 → length (stored_address_of f a) ≡ 15
stored-fifteen f a h =
    let w = width-le f in
    let v = width_low f in
    let l = length-take (width f - 1) a in
    let c : length {A = ℕ} (replicate (16 - width f) 0) ≡ 16 - width f = length-replicate (16 - width f) 0 in
    let d = length-append (take (width f - 1) a) (replicate (16 - width f) 0) in
    omega arith

pub slot-length : (e : Entry) → Sized e → length (slot e) ≡ 24
unfolding slot ports_part
slot-length e w =
    let f = e.selector.family in
    let a = e.selector.remote.address in
    let h = stored-fifteen f a w.remote in
    let l = length-append (stored_address_of f a) (ports_part e) in
    omega arith

pub back-length : (e : Entry) → Sized e → length (back e) ≡ 101
unfolding back
back-length e w =
    let h = w.local in
    let k = w.key in
    let l = length-append e.selector.local.address e.secret.key in
    omega arith

-- every entry that bytes mean has them, of any bytes

side-sixteen : (w ports at : ℕ) (s : List ℕ) → w ≤ 16 → length (side_of w ports at s).address ≡ 16
unfolding side_of
side-sixteen w ports at s h =
    let a = take w (drop at s) in
    let l = length-take w (drop at s) in
    let p = length-append a (replicate (16 - length a) 0) in
    let c : length {A = ℕ} (replicate (16 - length a) 0) ≡ 16 - length a = length-replicate (16 - length a) 0 in
    omega arith

abbrev Sixteen : Entry → Type 0
Sixteen e = (length e.selector.local.address ≡ 16) × (length e.selector.remote.address ≡ 16)

entry-sixteen : (s : List ℕ) → Sixteen (entry_of s)
unfolding entry_of selector_of_lem
entry-sixteen s =
    let w = width (family_of_lem (get_or s 0 0)) in
    let h = width-le (family_of_lem (get_or s 0 0)) in
    (side-sixteen w 5 13 s h, side-sixteen w 9 (14 + w) s h)

items-sixteen : (n : ℕ) (t : List ℕ) → Each Sixteen (entries_of (items n t))
unfolding items entries_of item
items-sixteen n [] = tt
items-sixteen (suc n) (b ∷ t) = items-sixteen n t
items-sixteen zero (b ∷ t) = go (sound (item (b ∷ t))) refl (items-sixteen (body b) t)
  where
    go : (c : Bool) → sound (item (b ∷ t)) ≡ c → Each Sixteen (entries_of (items (body b) t)) → Each Sixteen (entries_of (items 0 (b ∷ t)))
    go true e ih = rw e (entry-sixteen (b ∷ t), ih)
    go false e ih = rw e tt

each-sized : (l : List Entry) → Each Sixteen l → Each Shape l → Each Sized l
each-sized [] a s = tt
each-sized (e ∷ l) a s = (record { local = a.0.0; remote = a.0.1; key = s.0.key }, each-sized l a.1 s.1)

pub entries-sized : (t : List ℕ) → Each Sized (entries t)
entries-sized t = each-sized (entries t) (items-sixteen 0 t) (entries-shape t)

-- the parts of all entries

-- one part more
mul-suc : (k n : ℕ) → k + k * n ≡ k * suc n
mul-suc k n = omega arith

module _ (f : Entry → List ℕ) (k : ℕ) where
  abbrev Part : Entry → Type 0
  Part e = length (f e) ≡ k

  pub joined_length : (l : List Entry) → Each Part l → length (joined f l) ≡ k * length l
  unfolding joined
  joined_length [] p = omega arith
  joined_length (e ∷ l) p =
      let a = length-append (f e) (joined f l) in
      let b = p.0 in
      let c = joined_length l p.1 in
      let d : k + k * length l ≡ k * suc (length l) = mul-suc k (length l) in
      omega arith

  -- entry i's part, and what stands behind it
  joined-drop : (i : ℕ) (l : List Entry) → Each Part l → i ≤ length l → drop (k * i) (joined f l) ≡ joined f (drop i l)
  unfolding joined
  joined-drop zero l p h = ap (λ (n : ℕ). drop n (joined f l)) (let e : k * 0 ≡ 0 = omega arith in e)
  joined-drop (suc i) [] p h = absurd (omega arith)
  joined-drop (suc i) (e ∷ l) p h =
      ap (λ (n : ℕ). drop n (f e ++ joined f l)) (sym (mul-suc k i))
      ∙ sym (drop-drop (k * i) k (f e ++ joined f l))
      ∙ ap (drop (k * i)) (drop_at (f e) (joined f l) k p.0)
      ∙ joined-drop i l p.1 (omega arith)

-- one entry, written and read

-- its own front, as it is put together
unfoldable front : Entry → List ℕ
front e =
    (e.ids.send ∷ e.ids.recv ∷ e.selector.remote.bits ∷ e.selector.family ∷ [])
    ++ (e.selector.remote.address ++ ports_part e)

-- what is asked of it
pub record Whole (kind : TableKind) (e : Entry) : Type 0 where
  pub proper : ProperIn kind e
  pub fields : Fields e.selector
  pub sized : Sized e

get-bytes : (x : ℕ) → x < 65536 → be16 (x / 2 ^ 8 % 256) (x % 256) ≡ x
get-bytes x h = omega arith

module _ (e : Entry) (w : Sized e) where
  port-byte : (j : ℕ) → get_or (e.selector.remote.address ++ ports_part e) (16 + j) 0 ≡ get_or (ports_part e) j 0
  port-byte j =
      let a = e.selector.remote.address in
      sym (get_or-drop 16 (a ++ ports_part e) j 0) ∙ ap (λ (s : List ℕ). get_or s j 0) (drop_at a (ports_part e) 16 w.remote)

raw_same : (e : Entry) → Sized e → Fields e.selector → raw_entry (front e) (back e) ≡ e
unfolding raw_entry raw_selector raw_secret front_ids front ports_part back
raw_same e w f =
    let s = e.selector in
    let a = s.local.address in
    let k = e.secret.key in
    let p = port-byte e w in
    let h = w.key in
    let n : length k ≤ 80 = omega arith in
    λ i. record {
      selector =
          record {
            family = s.family;
            local =
                record {
                  low = ((λ j. be16 (p 4 j) (p 5 j)) ∙ get-bytes s.local.low f.local.low) i;
                  high = ((λ j. be16 (p 6 j) (p 7 j)) ∙ get-bytes s.local.high f.local.high) i;
                  bits = s.local.bits;
                  address = take_at a k 16 w.local i;
                };
            remote =
                record {
                  low = ((λ j. be16 (p 0 j) (p 1 j)) ∙ get-bytes s.remote.low f.remote.low) i;
                  high = ((λ j. be16 (p 2 j) (p 3 j)) ∙ get-bytes s.remote.high f.remote.high) i;
                  bits = s.remote.bits;
                  address = take_at s.remote.address (ports_part e) 16 w.remote i;
                };
          };
      ids = e.ids;
      secret =
          record {
            flags = e.secret.flags;
            algorithm = e.secret.algorithm;
            mac_bytes = e.secret.mac_bytes;
            key_len = e.secret.key_len;
            key = (ap (take 80) (drop_at a k 16 w.local) ∙ take_all 80 k n) i;
          };
    }

stored_same : (kind : TableKind) (e : Entry) → Whole kind e → stored_entry kind (front e) (back e) ≡ e
stored_same kind e w = ap (clean kind) (raw_same e w.sized w.fields) ∙ clean-same kind e w.proper

-- the address comes back from its mark and the bytes before its last

sum-append : (a b : List ℕ) → octet_sum_of (a ++ b) ≡ octet_sum_of a + octet_sum_of b
sum-append [] b = omega arith
sum-append (x ∷ a) b = let h = sum-append a b in omega arith

last-back : (s x : ℕ) → x < 256 → ((s + x) % 256 + (256 - s % 256)) % 256 ≡ x
last-back s x h = omega arith

address-back : (f n : ℕ) (a : List ℕ) → n ≤ 8 * width f → length a ≡ 16 → Octets a → clear_past_of n a ≡ true
    → address_of f (mark_of f a) (stored_address_of f a) ≡ a
unfolding address_of
address-back f n a h l o c =
    let w = width f in
    let v = width f - 1 in
    let low = width_low f in
    let high = width-le f in
    let p = take v a in
    let x = get_or a v 0 in
    let zs : List ℕ = replicate (16 - w) 0 in
    let lv = length-take v a in
    let lw = length-take w a in
    let one : take v (stored_address_of f a) ≡ p = take_at p zs v (omega arith) in
    let t : take w a ≡ p ++ (x ∷ []) =
    ap (λ (k : ℕ). take k a) (let z : w ≡ suc v = omega arith in z) ∙ take-suc a v 0 (omega arith) in
    let r : octet_sum_of p + (x + 0) ≡ octet_sum_of p + x = omega arith in
    let s : octet_sum_of (take w a) ≡ octet_sum_of p + x = ap octet_sum_of t ∙ sum-append p (x ∷ []) ∙ r in
    let y : (mark_of f a + (256 - octet_sum_of (take v (stored_address_of f a)) % 256)) % 256 ≡ x =
    (λ j. (s j % 256 + (256 - octet_sum_of (one j) % 256)) % 256) ∙ last-back (octet_sum_of p) x (o v) in
    let m : w ≡ length (take w a) = omega arith in
    (λ j. one j ++ (y j ∷ zs))
    ∙ sym (append_assoc p (x ∷ []) zs)
    ∙ (λ j. sym t j ++ replicate (16 - m j) 0)
    ∙ address_same w n a high h l o c

-- a front from what its columns and its slot have
abbrev made : ℕ → ℕ → ℕ → ℕ → List ℕ → List ℕ
made send recv bits mark s =
    (send ∷ recv ∷ bits ∷ get_or s 0 0 ∷ [])
    ++ (address_of (clean_family (get_or s 0 0)) mark (take 15 (drop 1 s)) ++ take 8 (drop 16 s))

ports-eight : (e : Entry) → length (ports_part e) ≤ 8
unfolding ports_part
ports-eight e = omega arith

made-front : (kind : TableKind) (e : Entry) → Whole kind e
    → made e.ids.send e.ids.recv e.selector.remote.bits (mark_of e.selector.family e.selector.remote.address) (slot e)
    ≡ front e
unfolding slot front
made-front kind e w =
    let p = proper-in kind e w.proper in
    let s = e.selector in
    let f = s.family in
    let a = s.remote.address in
    let l = stored-fifteen f a w.sized.remote in
    let c = family-same f p.family in
    let q : take 15 (stored_address_of f a ++ ports_part e) ≡ stored_address_of f a = take_at (stored_address_of f a) (ports_part e) 15 l in
    let t : take 8 (drop 15 (stored_address_of f a ++ ports_part e)) ≡ ports_part e =
    ap (take 8) (drop_at (stored_address_of f a) (ports_part e) 15 l) ∙ take_all 8 (ports_part e) (ports-eight e) in
    let r = address-back f s.remote.bits a p.remote-bits w.sized.remote w.fields.remote.octets p.remote-clear in
    let z : address_of (clean_family f) (mark_of f a) (take 15 (stored_address_of f a ++ ports_part e)) ≡ a =
    (λ j. address_of (c j) (mark_of f a) (q j)) ∙ r in
    λ j. (e.ids.send ∷ e.ids.recv ∷ s.remote.bits ∷ f ∷ []) ++ (z j ++ t j)

-- the parts of all entries, standing at a place of s

module _ (f : Entry → List ℕ) (k : ℕ) (l : List Entry) (p : Each (λ e. length (f e) ≡ k) l) where
  module _ (s rest : List ℕ) (at : ℕ) (d : drop at s ≡ joined f l ++ rest) where
    past : drop (at + k * length l) s ≡ rest
    past =
        sym (drop-drop (k * length l) at s)
        ∙ ap (drop (k * length l)) d
        ∙ drop_at (joined f l) rest (k * length l) (joined_length f k l p)

    -- entry i's part, and what stands behind it
    part-from : (i : ℕ) (e : Entry) (r : List Entry) → i < length l → k * i ≤ k * length l → drop i l ≡ e ∷ r
        → drop (at + k * i) s ≡ f e ++ (joined f r ++ rest)
    unfolding joined
    part-from i e r h b q =
        let n = joined_length f k l p in
        sym (drop-drop (k * i) at s)
        ∙ ap (drop (k * i)) d
        ∙ drop-append-le (k * i) (joined f l) rest (omega arith)
        ∙ ap (λ (x : List ℕ). x ++ rest) (joined-drop f k i l p (omega arith) ∙ ap (joined f) q)
        ∙ append_assoc (f e) (joined f r) rest

    part_at : (i : ℕ) (e : Entry) (r : List Entry) → i < length l → k * i ≤ k * length l → drop i l ≡ e ∷ r
        → take k (drop (at + k * i) s) ≡ f e
    part_at i e r h b q =
        let n = (subst (λ (x : List Entry). Each (λ e. length (f e) ≡ k) x) q (each-drop (λ e. length (f e) ≡ k) i l p)).0 in
        ap (take k) (part-from i e r h b q) ∙ take_at (f e) (joined f r ++ rest) k n

-- a column's byte
column-at : (f : Entry → ℕ) (l : List Entry) (s rest : List ℕ) (at : ℕ) → drop at s ≡ joined (λ e. f e ∷ []) l ++ rest
    → (i : ℕ) (e : Entry) (r : List Entry) → i < length l → drop i l ≡ e ∷ r → get_or s (at + i) 0 ≡ f e
column-at f l s rest at d i e r h q =
    let ones = each_all (λ e. length (f e ∷ []) ≡ 1) (λ e. refl) l in
    ap (λ (j : ℕ). get_or s j 0) (let z : at + i ≡ at + 1 * i + 0 = omega arith in z)
    ∙ sym (get_or-drop (at + 1 * i) s 0 0)
    ∙ ap (λ (x : List ℕ). get_or x 0 0) (part-from (λ e. f e ∷ []) 1 l ones s rest at d i e r h (omega arith) q)

-- the image of two lists of entries

module _ (k m : List Entry) (wk : Each Sized k) (wm : Each Sized m) where
  abbrev all : List Entry
  all = k ++ m

  sized : Each Sized all
  sized = each_append Sized k m wk wm

  slots : Each (λ e. length (slot e) ≡ 24) all
  slots = each_map Sized (λ e. length (slot e) ≡ 24) slot-length all sized

  backs : Each (λ e. length (back e) ≡ 101) all
  backs = each_map Sized (λ e. length (back e) ≡ 101) back-length all sized

  sends : Each (λ e. length (send_part e) ≡ 1) all
  sends = each_all (λ e. length (send_part e) ≡ 1) (λ e. refl) all

  recvs : Each (λ e. length (recv_part e) ≡ 1) all
  recvs = each_all (λ e. length (recv_part e) ≡ 1) (λ e. refl) all

  bits : Each (λ e. length (bits_part e) ≡ 1) all
  bits = each_all (λ e. length (bits_part e) ≡ 1) (λ e. refl) all

  marks : Each (λ e. length (mark_part e) ≡ 1) all
  marks = each_all (λ e. length (mark_part e) ≡ 1) (λ e. refl) all

  columns-length : length (columns all) ≡ 4 * length all
  unfolding columns
  columns-length =
      let a = joined_length send_part 1 all sends in
      let b = joined_length recv_part 1 all recvs in
      let c = joined_length bits_part 1 all bits in
      let d = joined_length mark_part 1 all marks in
      let e = length-append (joined send_part all) (joined recv_part all ++ (joined bits_part all ++ joined mark_part all)) in
      let f = length-append (joined recv_part all) (joined bits_part all ++ joined mark_part all) in
      let g = length-append (joined bits_part all) (joined mark_part all) in
      omega arith

  both-length : length (image k m) ≡ prepared_bytes (length k + length m)
  unfolding image
  both-length =
      let a = columns-length in
      let b = joined_length slot 24 all slots in
      let c = joined_length back 101 all backs in
      let d = length-append (columns all) (joined slot all ++ joined back all) in
      let e = length-append (joined slot all) (joined back all) in
      let f = length-append k m in
      omega arith

  key-count : length k < 65536 → key_count_of (image k m) ≡ length k
  unfolding image
  key-count h = get-bytes (length k) h

  md5-count : length m < 65536 → md5_count (image k m) ≡ length m
  unfolding image
  md5-count h = get-bytes (length m) h

  -- what stands from each part on

  abbrev from_backs : List ℕ
  from_backs = joined back all ++ []

  abbrev from_slots : List ℕ
  from_slots = joined slot all ++ from_backs

  abbrev from_marks : List ℕ
  from_marks = joined mark_part all ++ from_slots

  abbrev from_bits : List ℕ
  from_bits = joined bits_part all ++ from_marks

  abbrev from_recvs : List ℕ
  from_recvs = joined recv_part all ++ from_bits

  sends-from : drop 4 (image k m) ≡ joined send_part all ++ from_recvs
  unfolding image columns
  sends-from =
      let s = joined send_part all in
      let r = joined recv_part all in
      let b = joined bits_part all in
      let c = joined mark_part all in
      let t = joined slot all ++ joined back all in
      append_assoc s (r ++ (b ++ c)) t
      ∙ ap (λ (x : List ℕ). s ++ x) (append_assoc r (b ++ c) t ∙ ap (λ (x : List ℕ). r ++ x) (append_assoc b c t))
      ∙ ap (λ (x : List ℕ). s ++ (r ++ (b ++ (c ++ (joined slot all ++ x))))) (sym (append-nil (joined back all)))

  recvs-from : drop (4 + length all) (image k m) ≡ from_recvs
  recvs-from =
      ap (λ (j : ℕ). drop j (image k m)) (let z : 4 + length all ≡ 4 + 1 * length all = omega arith in z)
      ∙ past send_part 1 all sends (image k m) from_recvs 4 sends-from

  bits-from : drop (4 + 2 * length all) (image k m) ≡ from_bits
  bits-from =
      ap (λ (j : ℕ). drop j (image k m)) (let z : 4 + 2 * length all ≡ 4 + length all + 1 * length all = omega arith in z)
      ∙ past recv_part 1 all recvs (image k m) from_bits (4 + length all) recvs-from

  marks-from : drop (4 + 3 * length all) (image k m) ≡ from_marks
  marks-from =
      ap (λ (j : ℕ). drop j (image k m)) (let z : 4 + 3 * length all ≡ 4 + 2 * length all + 1 * length all = omega arith in z)
      ∙ past bits_part 1 all bits (image k m) from_marks (4 + 2 * length all) bits-from

  slots-from : drop (4 + 4 * length all) (image k m) ≡ from_slots
  slots-from =
      ap (λ (j : ℕ). drop j (image k m)) (let z : 4 + 4 * length all ≡ 4 + 3 * length all + 1 * length all = omega arith in z)
      ∙ past mark_part 1 all marks (image k m) from_slots (4 + 3 * length all) marks-from

  backs-from : drop (4 + 28 * length all) (image k m) ≡ from_backs
  backs-from =
      ap (λ (j : ℕ). drop j (image k m)) (let z : 4 + 28 * length all ≡ 4 + 4 * length all + 24 * length all = omega arith in z)
      ∙ past slot 24 all slots (image k m) from_backs (4 + 4 * length all) slots-from

  -- the parts of entry i
  module _ (i : ℕ) (e : Entry) (r : List Entry) (h : i < length all) (q : drop i all ≡ e ∷ r) where
    send-of : send_at (image k m) (length all) i ≡ e.ids.send
    send-of = column-at (λ e. e.ids.send) all (image k m) from_recvs 4 sends-from i e r h q

    recv-of : recv_at (image k m) (length all) i ≡ e.ids.recv
    recv-of = column-at (λ e. e.ids.recv) all (image k m) from_bits (4 + length all) recvs-from i e r h q

    bits_of : bits_at (image k m) (length all) i ≡ e.selector.remote.bits
    bits_of = column-at (λ e. e.selector.remote.bits) all (image k m) from_marks (4 + 2 * length all) bits-from i e r h q

    mark-of : mark_at (image k m) (length all) i ≡ mark_of e.selector.family e.selector.remote.address
    mark-of =
        column-at (λ e. mark_of e.selector.family e.selector.remote.address) all (image k m) from_slots (4 + 3 * length all)
        marks-from i e r h q

    slot_of : slot_at (image k m) (length all) i ≡ slot e
    slot_of = part_at slot 24 all slots (image k m) from_backs (4 + 4 * length all) slots-from i e r h (omega arith) q

    back-of : back_at (image k m) (length all) i ≡ back e
    back-of = part_at back 101 all backs (image k m) [] (4 + 28 * length all) backs-from i e r h (omega arith) q

    front_of : (kind : TableKind) → Whole kind e → front_at_lem (image k m) (length all) i ≡ front e
    unfolding front_at_lem
    front_of kind w = (λ j. made (send-of j) (recv-of j) (bits_of j) (mark-of j) (slot_of j)) ∙ made-front kind e w

  -- the entries r from entry i on, where every one is read back
  stored-run : (kind : TableKind) (r s : List Entry) (i : ℕ) → drop i all ≡ r ++ s → Each (Whole kind) r
      → stored_from kind (image k m) (length all) i (length r) ≡ r
  unfolding stored_from stored_at
  stored-run kind [] s i q w = refl
  stored-run kind (e ∷ r) s i q w =
      let a = length-drop i all in
      let b = ap length q in
      let h : i < length all = omega arith in
      let f = front_of i e (r ++ s) h q kind w.0 in
      let g = back-of i e (r ++ s) h q in
      let one : stored_entry kind (front_at_lem (image k m) (length all) i) (back_at (image k m) (length all) i) ≡ e =
      (λ j. stored_entry kind (f j) (g j)) ∙ stored_same kind e w.0 in
      λ j. one j ∷ stored-run kind r s (i + 1) (drop-step i all (r ++ s) e q) w.1 j

pub image-length : (k m : List ℕ) → length (image (entries k) (entries m)) ≡ prepared_bytes (length (entries k) + length (entries m))
image-length k m = both-length (entries k) (entries m) (entries-sized k) (entries-sized m)

-- the entries of valid bytes

abbrev FieldsOf : Entry → Type 0
FieldsOf e = Fields e.selector

each-keys : (l : List Entry) → Each Shape l → Each (Formed Keys) l → Each FieldsOf l → Each Sized l → Each (Whole Keys) l
each-keys [] s f o z = tt
each-keys (e ∷ l) s f o z = (
  record { proper = (proper-of Keys e s.0 f.0, key-proper e f.0); fields = o.0; sized = z.0 },
  each-keys l s.1 f.1 o.1 z.1,
)

each-md5s : (l : List Entry) → Each Shape l → Each (Formed Md5) l → Each Digest16 l → Each FieldsOf l → Each Sized l → Each (Whole Md5) l
each-md5s [] s f d o z = tt
each-md5s (e ∷ l) s f d o z = (
  record { proper = (proper-of Md5 e s.0 f.0, (md5-proper e f.0, d.0)); fields = o.0; sized = z.0 },
  each-md5s l s.1 f.1 d.1 o.1 z.1,
)

keys-whole : (t : List ℕ) (n : ℕ) → Octets t → loaded Keys max_entries t ≡ Ok n → Each (Whole Keys) (entries t)
keys-whole t n o v =
    each-keys (entries t) (entries-shape t) (valid-formed Keys max_entries n t v).0.formed (entries-fields t o) (entries-sized t)

md5s-whole : (t : List ℕ) (n : ℕ) → Octets t → loaded Md5 max_entries t ≡ Ok n → Each (Whole Md5) (entries t)
md5s-whole t n o v =
    each-md5s (entries t) (entries-shape t) (valid-formed Md5 max_entries n t v).0.formed (md5-digests max_entries n t v)
    (entries-fields t o) (entries-sized t)

-- the image of entries that valid bytes could hold

module _ (k m : List Entry) (zk : Each Sized k) (zm : Each Sized m) (hk : length k ≤ max_entries) (hm : length m ≤ max_entries) where
  counts : (key_count_of (image k m) ≡ length k) × (md5_count (image k m) ≡ length m)
  counts = (key-count k m zk zm (omega arith), md5-count k m zk zm (omega arith))

  totals : total (image k m) ≡ length (k ++ m)
  totals = (λ i. counts.0 i + counts.1 i) ∙ sym (length-append k m)

  image-fits : fits (image k m) ≡ true
  unfolding fits
  image-fits =
      rw (counts.0, counts.1, le-leb (length k) max_entries hk, le-leb (length m) max_entries hm) (eq-eqb _ _ (both-length k m zk zm))

  keys-back : Each (Whole Keys) k → key_part (image k m) ≡ k
  unfolding key_part
  keys-back w =
      rw image-fits
      ((λ i. stored_from Keys (image k m) (totals i) 0 (counts.0 i))
      ∙ stored-run k m zk zm Keys k m 0 refl w)

  md5s-back : Each (Whole Md5) m → md5_part (image k m) ≡ m
  unfolding md5_part
  md5s-back w =
      let q : drop (length k) (k ++ m) ≡ m ++ [] = drop_at k m (length k) refl ∙ sym (append-nil m) in
      rw image-fits
      ((λ i. stored_from Md5 (image k m) (totals i) (counts.0 i) (counts.1 i))
      ∙ stored-run k m zk zm Md5 m [] (length k) q w)

pub prepared-read : PreparedRead
prepared-read k m i j ok om vk vm =
    let zk = entries-sized k in
    let zm = entries-sized m in
    let hk = (valid-formed Keys max_entries i k vk).0.few in
    let hm = (valid-formed Md5 max_entries j m vm).0.few in
    record {
      fitting = image-fits (entries k) (entries m) zk zm hk hm;
      count = (counts (entries k) (entries m) zk zm hk hm).0;
      keys = keys-back (entries k) (entries m) zk zm hk hm (keys-whole k i ok vk);
      md5s = md5s-back (entries k) (entries m) zk zm hk hm (md5s-whole m j om vm);
    }

-- the bytes as numerals

pub form-bytes : FormBytes
unfolding image columns joined slot ports_part back width
form-bytes = refl
