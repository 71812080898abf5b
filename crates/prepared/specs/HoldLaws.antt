-- Of every stored entry there are valid bytes that hold it: its own bytes, written out as document 01 has them and read back.
use Rattle.std.specs.Prelude.{ℕ, suc, zero, ◌+◌, ◌*◌, ◌-◌, ◌/◌, ◌%◌, ◌^◌, ◌≤◌, ◌<◌, min, Bool, true, false, not, ◌&&◌, ◌≡◌, refl, drop, replicate, eqb}
use Rattle.std.proofs.Math.Bool.{cond}
use Rattle.std.proofs.Math.Path.{sym, ap}
use Rattle.std.proofs.Common.{◌∙◌, subst, inl, inr, take-append-drop, length-take, length-drop, take_all, take_at, drop_at, drop-drop, get_or-drop}
use mathlib.Core.List.{List, [], ◌∷◌, ◌++◌}
use native.Mathlib.Omega.{arith}
use Rattle.std.proofs.Math.ListN.{length, get_or, take, length-append}
use Rattle.std.proofs.lemmas.List.{length-replicate, get_or_at}
use Rattle.std.proofs.Math.Pow.{split}
use borrow.Author.Tests.{le-leb}
use Rattle.octets.specs.Each.{Each, Octets}
use Rattle.octets.specs.Octets.{be16, bytes16}
use Rattle.wire.specs.Prefix.{clear_past_of}
use Rattle.wire.specs.PrefixLaws.{clear-bit}
use Rattle.keys.specs.Algorithm.{mac_bytes_of}
use Rattle.keys.specs.Clash.{Family, Formed, Listed, Sound}
use Rattle.keys.specs.Entry.{known_kind_of, extra, family_of_lem, size, width, padded, side_of, selector_of_lem, ids_of, sides_end_of}
use Rattle.keys.specs.Entry.{mac_length_of, secret_of_lem, entry_of, item, items, entries_of, entries}
use Rattle.keys.proofs.EntryLaws.{width-le, body_is, items_at, items-end}
use Rattle.keys.proofs.EntryLaws.{take-octets, drop-octets, zeros-octets, append-octets, cons-octets}
use Rattle.keys.proofs.FaultLaws.{listed-sound}
use Rattle.keys.proofs.FormedLaws.{Proper}
use Rattle.keys.proofs.LoadLaws.{formed-valid}
use Rattle.keys.proofs.MatchLaws.{SideFields, Fields}
use Rattle.keys.proofs.PlaceLaws.{each_at, Apart}
use Rattle.keys.specs.Table.{loaded}
use Rattle.keys.specs.declared.entry.Side.{Side}
use Rattle.keys.specs.declared.entry.Secret.{Secret}
use Rattle.keys.specs.declared.entry.Entry.{Entry}
use Rattle.keys.specs.declared.table.TableKind.{TableKind}
use Rattle.keys.specs.declared.table.TableKind.TheVariants.{Keys, Md5}
use Rattle.std.specs.Prelude.{Ok}
use Rattle.prepared.specs.Prepared.{max_entries, prepared_bytes, clear, cut, within, clean_family, clean_side, clean_selector, clean_ids}
use Rattle.prepared.specs.Prepared.{clean, front_ids, raw_selector, raw_secret, raw_entry, octet_sum_of, address_of, send_at, recv_at, bits_at}
use Rattle.prepared.specs.Prepared.{mark_at, slot_at, front_at_lem, back_at, stored_at}
use Rattle.prepared.specs.Form.{HeldBy, KeysHeld, Md5sHeld}
use Rattle.prepared.specs.ClearLaws.{clear-length}
use Rattle.prepared.specs.CleanLaws.{ProperIn, proper-in, low-zero, byte-bit, algorithm-low, proper-formed, secret-key, family-is}
use Rattle.prepared.specs.ReadLaws.{Stored, stored-in, keys-each, md5s-each}

-- bytes

four-octets : (a b c d : ℕ) (r : List ℕ) → a < 256 → b < 256 → c < 256 → d < 256 → Octets r → Octets (a ∷ b ∷ c ∷ d ∷ r)
four-octets a b c d r ha hb hc hd o =
    cons-octets a (b ∷ c ∷ d ∷ r) ha (cons-octets b (c ∷ d ∷ r) hb (cons-octets c (d ∷ r) hc (cons-octets d r hd o)))

two-octets : (x : ℕ) → Octets (bytes16 x)
two-octets x = cons-octets (x / 2 ^ 8 % 256) (x % 256 ∷ []) (omega arith) (cons-octets (x % 256) [] (omega arith) (λ i. omega arith))

kept-le : (x k : ℕ) → x < 256 → x / 2 ^ k * 2 ^ k < 256
kept-le x k h = let w = split x k in omega arith

clear-octets : (n : ℕ) (s : List ℕ) → Octets s → Octets (clear n s)
unfolding clear
clear-octets n [] h i = h i
clear-octets n (x ∷ s) h zero = kept-le x (8 - min n 8) (h 0)
clear-octets n (x ∷ s) h (suc i) = clear-octets (n - 8) s (λ j. h (suc j)) i

-- that every number of an entry fits its bytes

record InBytes (e : Entry) : Type 0 where
  selector : Fields e.selector
  send : e.ids.send < 256
  recv : e.ids.recv < 256
  key : Octets e.secret.key

side-bytes : (f : ℕ) (s : Side) → SideFields s → SideFields (clean_side f s)
unfolding clean_side
side-bytes f s p =
    let l = p.low in
    let h = p.high in
    record {
      low = omega arith;
      high = omega arith;
      sixteen = clear-length _ s.address ∙ p.sixteen;
      octets = clear-octets _ s.address p.octets;
    }

-- the same of what is stored, whatever its family
record RawBytes (e : Entry) : Type 0 where
  local : SideFields e.selector.local
  remote : SideFields e.selector.remote
  send : e.ids.send < 256
  recv : e.ids.recv < 256
  key : Octets e.secret.key

ids-bytes : (kind : TableKind) (e : Entry) → RawBytes e → ((clean_ids kind e.ids).send < 256) × ((clean_ids kind e.ids).recv < 256)
unfolding clean_ids
ids-bytes Keys e p = (p.send, p.recv)
ids-bytes Md5 e p = (omega arith, omega arith)

clean-bytes : (kind : TableKind) (e : Entry) → RawBytes e → InBytes (clean kind e)
unfolding clean clean_selector
clean-bytes kind e p =
    let i = ids-bytes kind e p in
    let n = within 1 80 e.secret.key_len in
    let k = e.secret.key in
    let o : Octets (cut n k) = append-octets (take n k) (replicate (80 - n) 0) (take-octets n k p.key) (zeros-octets (80 - n)) in
    record {
      selector =
          record {
            family = family-is e.selector.family;
            local = side-bytes _ e.selector.local p.local;
            remote = side-bytes _ e.selector.remote p.remote;
          };
      send = i.0;
      recv = i.1;
      key = subst Octets (sym (secret-key kind e).1) o;
    }

two-lt : (s : List ℕ) (at : ℕ) → Octets s → be16 (get_or s at 0) (get_or s (at + 1) 0) < 65536
two-lt s at o = let x = o at in let y = o (at + 1) in omega arith

part_length : (k at : ℕ) (s : List ℕ) → at + k ≤ length s → length (take k (drop at s)) ≡ k
part_length k at s h = let a = length-drop at s in let b = length-take k (drop at s) in omega arith

part-octets : (k at : ℕ) (s : List ℕ) → Octets s → Octets (take k (drop at s))
part-octets k at s o = take-octets k (drop at s) (drop-octets at s o)

-- the front that is put together: so long, and bytes

pub width_low : (f : ℕ) → 1 ≤ width f
unfolding width
width_low f = go (eqb f 4) refl
  where
    go : (b : Bool) → eqb f 4 ≡ b → 1 ≤ cond (eqb f 4) 4 16
    go true e = rw e (omega arith)
    go false e = rw e (omega arith)

-- its last byte
abbrev last_of : ℕ → ℕ → List ℕ → ℕ
last_of f mark a = (mark + (256 - octet_sum_of (take (width f - 1) a) % 256)) % 256

address-length : (f mark : ℕ) (a : List ℕ) → length a ≡ 15 → length (address_of f mark a) ≡ 16
unfolding address_of
address-length f mark a h =
    let w = width-le f in
    let v = width_low f in
    let l = length-take (width f - 1) a in
    let c : length {A = ℕ} (replicate (16 - width f) 0) ≡ 16 - width f = length-replicate (16 - width f) 0 in
    let d = length-append (take (width f - 1) a) (last_of f mark a ∷ replicate (16 - width f) 0) in
    omega arith

address-octets : (f mark : ℕ) (a : List ℕ) → Octets a → Octets (address_of f mark a)
unfolding address_of
address-octets f mark a o =
    let z : List ℕ = replicate (16 - width f) 0 in
    append-octets (take (width f - 1) a) (last_of f mark a ∷ z) (take-octets (width f - 1) a o)
    (cons-octets (last_of f mark a) z (omega arith) (zeros-octets (16 - width f)))

module _ (b : List ℕ) (n i : ℕ) where
  abbrev remote_at_lem : List ℕ
  remote_at_lem = address_of (clean_family (get_or (slot_at b n i) 0 0)) (mark_at b n i) (take 15 (drop 1 (slot_at b n i)))

  pub front_length : prepared_bytes n ≤ length b → i < n → length (front_at_lem b n i) ≡ 28
  unfolding front_at_lem
  front_length h k =
      let s = slot_at b n i in
      let l : length s ≡ 24 = part_length 24 (4 + 4 * n + 24 * i) b (omega arith) in
      let f = clean_family (get_or s 0 0) in
      let a : length remote_at_lem ≡ 16 = address-length f (mark_at b n i) (take 15 (drop 1 s)) (part_length 15 1 s (omega arith)) in
      let p : length (take 8 (drop 16 s)) ≡ 8 = part_length 8 16 s (omega arith) in
      let d = length-append remote_at_lem (take 8 (drop 16 s)) in
      omega arith

  pub front-octets : Octets b → Octets (front_at_lem b n i)
  unfolding front_at_lem
  front-octets o =
      let s = slot_at b n i in
      let q : Octets s = part-octets 24 (4 + 4 * n + 24 * i) b o in
      let f = clean_family (get_or s 0 0) in
      let ports = take 8 (drop 16 s) in
      let rest : Octets (remote_at_lem ++ ports) =
      append-octets remote_at_lem ports (address-octets f (mark_at b n i) (take 15 (drop 1 s)) (part-octets 15 1 s q)) (part-octets 8 16 s q) in
      four-octets (send_at b n i) (recv_at b n i) (bits_at b n i) (get_or s 0 0) (remote_at_lem ++ ports) (o (4 + i)) (o (4 + n + i))
      (o (4 + 2 * n + i)) (q 0) rest

stored_bytes : (kind : TableKind) (b : List ℕ) (n i : ℕ) → Octets b → prepared_bytes n ≤ length b → i < n → InBytes (stored_at kind b n i)
unfolding stored_at raw_entry raw_selector raw_secret front_ids
stored_bytes kind b n i o h k =
    let f = front_at_lem b n i in
    let r = back_at b n i in
    let of : Octets f = front-octets b n i o in
    let or : Octets r = part-octets 101 (4 + 28 * n + 101 * i) b o in
    let lf : length f ≡ 28 = front_length b n i h k in
    let lr : length r ≡ 101 = part_length 101 (4 + 28 * n + 101 * i) b (omega arith) in
    clean-bytes kind (raw_entry f r)
    (record {
      local =
          record {
            low = two-lt f 24 of;
            high = two-lt f 26 of;
            sixteen = part_length 16 5 r (omega arith);
            octets = part-octets 16 5 r or;
          };
      remote =
          record {
            low = two-lt f 20 of;
            high = two-lt f 22 of;
            sixteen = part_length 16 4 f (omega arith);
            octets = part-octets 16 4 f of;
          };
      send = of 0;
      recv = of 1;
      key = part-octets 80 21 r or;
    })

-- an address in the bytes of its family

byte-zero : (n : ℕ) (a : List ℕ) (j : ℕ) → Octets a → n ≤ 8 * j → clear_past_of n a ≡ true → get_or a j 0 ≡ 0
byte-zero n a j o h c =
    let z : get_or a j 0 % 2 ^ 8 ≡ 0 = low-zero (get_or a j 0) 8 (λ t l. byte-bit a j t l (clear-bit n a c (8 * j + (7 - t)) (omega arith))) in
    let x = o j in
    omega arith

zeros-all : (s : List ℕ) → ((j : ℕ) → get_or s j 0 ≡ 0) → s ≡ replicate (length s) 0
zeros-all [] f = refl
zeros-all (x ∷ s) f = λ i. f 0 i ∷ zeros-all s (λ j. f (suc j)) i

-- the bytes behind them are zero
pub address_same : (w n : ℕ) (a : List ℕ) → w ≤ 16 → n ≤ 8 * w → length a ≡ 16 → Octets a → clear_past_of n a ≡ true → padded (take w a) ≡ a
address_same w n a h k l o c =
    let p = length-take w a in
    let q = length-drop w a in
    let m : 16 - length (take w a) ≡ length (drop w a) = omega arith in
    let z = zeros-all (drop w a) (λ j. get_or-drop w a j 0 ∙ byte-zero n a (w + j) o (omega arith) c) in
    ap (λ (i : ℕ). take w a ++ replicate i 0) m ∙ ap (λ (s : List ℕ). take w a ++ s) (sym z) ∙ take-append-drop w a

-- an entry's own bytes

-- a key entry is written as kind 5 or 7, which have the MAC's length, an MD5 entry as 4 or 6
abbrev kind_of : TableKind → ℕ → ℕ
kind_of Keys f = f + 1
kind_of Md5 f = f

abbrev extra_of_lem : TableKind → ℕ
extra_of_lem Keys = 1
extra_of_lem Md5 = 0

abbrev head_bytes : ℕ → Entry → List ℕ
head_bytes c e =
    (c ∷ e.secret.flags ∷ e.secret.algorithm ∷ e.ids.send ∷ e.ids.recv ∷ [])
    ++ (bytes16 e.selector.local.low
    ++ (bytes16 e.selector.local.high
    ++ (bytes16 e.selector.remote.low ++ bytes16 e.selector.remote.high)))

-- a side's address of w bytes and prefix length, before r
abbrev side_bytes : ℕ → Side → List ℕ → List ℕ
side_bytes w s r = take w s.address ++ (s.bits ∷ r)

abbrev secret_bytes : TableKind → Secret → List ℕ
secret_bytes Keys s = s.mac_bytes ∷ s.key_len ∷ s.key
secret_bytes Md5 s = s.key_len ∷ s.key

abbrev laid : ℕ → Entry → ℕ → List ℕ → List ℕ
laid c e w r = head_bytes c e ++ side_bytes w e.selector.local (side_bytes w e.selector.remote r)

abbrev entry_bytes : TableKind → Entry → List ℕ
entry_bytes kind e = laid (kind_of kind e.selector.family) e (width e.selector.family) (secret_bytes kind e.secret)

-- the kind's byte

kind-family : (kind : TableKind) (f : ℕ) → Family f → family_of_lem (kind_of kind f) ≡ f
unfolding family_of_lem extra
kind-family Keys f (inl e) = rw e
kind-family Keys f (inr e) = rw e
kind-family Md5 f (inl e) = rw e
kind-family Md5 f (inr e) = rw e

kind-extra : (kind : TableKind) (f : ℕ) → Family f → extra (kind_of kind f) ≡ extra_of_lem kind
unfolding extra
kind-extra Keys f (inl e) = rw e
kind-extra Keys f (inr e) = rw e
kind-extra Md5 f (inl e) = rw e
kind-extra Md5 f (inr e) = rw e

kind-known : (kind : TableKind) (f : ℕ) → Family f → known_kind_of (kind_of kind f) ≡ true
unfolding known_kind_of
kind-known Keys f (inl e) = rw e
kind-known Keys f (inr e) = rw e
kind-known Md5 f (inl e) = rw e
kind-known Md5 f (inr e) = rw e

-- where each field stands

-- as many bytes of a side's address as the family has
abbrev HasWidth : ℕ → Side → Type 0
HasWidth w s = length (take w s.address) ≡ w

module _ (c : ℕ) (e : Entry) (w : ℕ) (r : List ℕ) (ll : HasWidth w e.selector.local) (lr : HasWidth w e.selector.remote) where
  abbrev s : List ℕ
  s = laid c e w r

  abbrev la : List ℕ
  la = take w e.selector.local.address

  abbrev ra : List ℕ
  ra = take w e.selector.remote.address

  local-address : take w (drop 13 s) ≡ la
  local-address = take_at la _ w ll

  local-bits : get_or s (13 + w) 0 ≡ e.selector.local.bits
  local-bits = sym (get_or-drop 13 s w 0) ∙ get_or_at la _ _ 0 w ll

  remote-from : drop (14 + w) s ≡ side_bytes w e.selector.remote r
  remote-from =
      ap (λ (n : ℕ). drop n s) (let z : 14 + w ≡ 13 + (w + 1) = omega arith in z)
      ∙ sym (drop-drop (w + 1) 13 s)
      ∙ sym (drop-drop 1 w (drop 13 s))
      ∙ ap (drop 1) (drop_at la _ w ll)

  remote-address : take w (drop (14 + w) s) ≡ ra
  remote-address = ap (take w) remote-from ∙ take_at ra _ w lr

  remote-bits : get_or s (14 + w + w) 0 ≡ e.selector.remote.bits
  remote-bits = sym (get_or-drop (14 + w) s w 0) ∙ ap (λ (x : List ℕ). get_or x w 0) remote-from ∙ get_or_at ra _ _ 0 w lr

  rest_from : drop (15 + 2 * w) s ≡ r
  rest_from =
      ap (λ (n : ℕ). drop n s) (let z : 15 + 2 * w ≡ 14 + w + (w + 1) = omega arith in z)
      ∙ sym (drop-drop (w + 1) (14 + w) s)
      ∙ ap (drop (w + 1)) remote-from
      ∙ sym (drop-drop 1 w (side_bytes w e.selector.remote r))
      ∙ ap (drop 1) (drop_at ra _ w lr)

  rest_at : (j : ℕ) → get_or s (15 + 2 * w + j) 0 ≡ get_or r j 0
  rest_at j = sym (get_or-drop (15 + 2 * w) s j 0) ∙ ap (λ (x : List ℕ). get_or x j 0) rest_from

  rest-drop : (j : ℕ) → drop (15 + 2 * w + j) s ≡ drop j r
  rest-drop j = sym (drop-drop j (15 + 2 * w) s) ∙ ap (drop j) rest_from

  laid-length : length s ≡ 15 + 2 * w + length r
  laid-length =
      let a = length-append la (e.selector.local.bits ∷ side_bytes w e.selector.remote r) in
      let b = length-append ra (e.selector.remote.bits ∷ r) in
      omega arith

-- read back

get-bytes : (x : ℕ) → x < 65536 → be16 (x / 2 ^ 8 % 256) (x % 256) ≡ x
get-bytes x h = omega arith

side-width : (f : ℕ) (s : Side) → SideFields s → HasWidth (width f) s
side-width f s o = let a = length-take (width f) s.address in let b = o.sixteen in let d = width-le f in omega arith

address_read : (f : ℕ) (s : Side) → SideFields s → s.bits ≤ 8 * width f → clear_past_of s.bits s.address ≡ true
    → padded (take (width f) s.address) ≡ s.address
address_read f s o b c = address_same (width f) s.bits s.address (width-le f) b o.sixteen o.octets c

module _ (c : ℕ) (e : Entry) (r : List ℕ) (p : Proper e) (o : InBytes e) where
  abbrev w : ℕ
  w = width e.selector.family

  abbrev t : List ℕ
  t = laid c e w r

  local-width : HasWidth w e.selector.local
  local-width = side-width e.selector.family e.selector.local o.selector.local

  remote-width : HasWidth w e.selector.remote
  remote-width = side-width e.selector.family e.selector.remote o.selector.remote

  local-read : side_of w 5 13 t ≡ e.selector.local
  unfolding side_of
  local-read =
      let s = e.selector.local in
      let f = o.selector.local in
      let a = address_read e.selector.family s f p.local-bits p.local-clear in
      λ i. record {
        low = get-bytes s.low f.low i;
        high = get-bytes s.high f.high i;
        bits = local-bits c e w r local-width remote-width i;
        address = (ap padded (local-address c e w r local-width remote-width) ∙ a) i;
      }

  remote-read : side_of w 9 (14 + w) t ≡ e.selector.remote
  unfolding side_of
  remote-read =
      let s = e.selector.remote in
      let f = o.selector.remote in
      let a = address_read e.selector.family s f p.remote-bits p.remote-clear in
      λ i. record {
        low = get-bytes s.low f.low i;
        high = get-bytes s.high f.high i;
        bits = remote-bits c e w r local-width remote-width i;
        address = (ap padded (remote-address c e w r local-width remote-width) ∙ a) i;
      }

  selector-read : family_of_lem c ≡ e.selector.family → selector_of_lem c t ≡ e.selector
  unfolding selector_of_lem
  selector-read h =
      λ i. record {
        family = h i;
        local = (ap (λ (g : ℕ). side_of (width g) 5 13 t) h ∙ local-read) i;
        remote = (ap (λ (g : ℕ). side_of (width g) 9 (14 + width g) t) h ∙ remote-read) i;
      }

  read_at : (j : ℕ) → get_or t (15 + 2 * w + j) 0 ≡ get_or r j 0
  read_at = rest_at c e w r local-width remote-width

  read-drop : (j : ℕ) → drop (15 + 2 * w + j) t ≡ drop j r
  read-drop = rest-drop c e w r local-width remote-width

  own-length : length t ≡ 15 + 2 * w + length r
  own-length = laid-length c e w r local-width remote-width

module _ (c : ℕ) (e : Entry) (p : Proper e) (o : InBytes e) (h : family_of_lem c ≡ e.selector.family) where
  key-all : take 80 e.secret.key ≡ e.secret.key
  key-all = take_all 80 e.secret.key (let k = p.key in let n : length e.secret.key ≤ 80 = omega arith in n)

  keys-secret : extra c ≡ 1 → secret_of_lem c (laid c e (width e.selector.family) (secret_bytes Keys e.secret)) ≡ e.secret
  unfolding secret_of_lem mac_length_of
  keys-secret x =
      let s = e.secret in
      let n = 15 + 2 * width e.selector.family in
      let r = secret_bytes Keys s in
      let b = laid c e (width e.selector.family) r in
      let z : n ≡ n + 0 = omega arith in
      let y : n + 1 + 1 ≡ n + 2 = omega arith in
      let m : mac_length_of c b ≡ s.mac_bytes =
      (λ j. cond (eqb (x j) 1) (get_or b (15 + 2 * width (h j)) 0) (mac_bytes_of s.algorithm))
      ∙ ap (λ (k : ℕ). get_or b k 0) z
      ∙ read_at c e r p o 0 in
      let l : get_or b (sides_end_of c + extra c) 0 ≡ s.key_len = (λ j. get_or b (15 + 2 * width (h j) + x j) 0) ∙ read_at c e r p o 1 in
      let k : take 80 (drop (sides_end_of c + extra c + 1) b) ≡ s.key =
      (λ j. take 80 (drop (15 + 2 * width (h j) + x j + 1) b))
      ∙ ap (λ (i : ℕ). take 80 (drop i b)) y
      ∙ ap (take 80) (read-drop c e r p o 2)
      ∙ key-all in
      λ i. record { flags = s.flags; algorithm = s.algorithm; mac_bytes = m i; key_len = l i; key = k i }

  md5-secret : extra c ≡ 0 → e.secret.algorithm ≡ 19 → e.secret.mac_bytes ≡ 16
      → secret_of_lem c (laid c e (width e.selector.family) (secret_bytes Md5 e.secret)) ≡ e.secret
  unfolding secret_of_lem mac_length_of mac_bytes_of
  md5-secret x a d =
      let s = e.secret in
      let n = 15 + 2 * width e.selector.family in
      let r = secret_bytes Md5 s in
      let b = laid c e (width e.selector.family) r in
      let y : n + 0 + 1 ≡ n + 1 = omega arith in
      let m : mac_length_of c b ≡ s.mac_bytes =
      (λ j. cond (eqb (x j) 1) (get_or b (15 + 2 * width (h j)) 0) (mac_bytes_of s.algorithm)) ∙ ap mac_bytes_of a ∙ sym d in
      let l : get_or b (sides_end_of c + extra c) 0 ≡ s.key_len = (λ j. get_or b (15 + 2 * width (h j) + x j) 0) ∙ read_at c e r p o 0 in
      let k : take 80 (drop (sides_end_of c + extra c + 1) b) ≡ s.key =
      (λ j. take 80 (drop (15 + 2 * width (h j) + x j + 1) b))
      ∙ ap (λ (i : ℕ). take 80 (drop i b)) y
      ∙ ap (take 80) (read-drop c e r p o 1)
      ∙ key-all in
      λ i. record { flags = s.flags; algorithm = s.algorithm; mac_bytes = m i; key_len = l i; key = k i }

secret-read : (kind : TableKind) (e : Entry) → ProperIn kind e → InBytes e
    → secret_of_lem (kind_of kind e.selector.family) (entry_bytes kind e) ≡ e.secret
secret-read Keys e p o =
    let f = e.selector.family in
    let q = p.0.family in
    keys-secret (kind_of Keys f) e p.0 o (kind-family Keys f q) (kind-extra Keys f q)
secret-read Md5 e p o =
    let f = e.selector.family in
    let q = p.0.family in
    md5-secret (kind_of Md5 f) e p.0 o (kind-family Md5 f q) (kind-extra Md5 f q) p.1.0.algorithm p.1.1

entry_read : (kind : TableKind) (e : Entry) → ProperIn kind e → InBytes e → entry_of (entry_bytes kind e) ≡ e
unfolding entry_of ids_of
entry_read kind e p o =
    let q = proper-in kind e p in
    let f = e.selector.family in
    let s = selector-read (kind_of kind f) e (secret_bytes kind e.secret) q o (kind-family kind f q.family) in
    λ i. record { selector = s i; ids = e.ids; secret = secret-read kind e p o i }

-- as a table of one entry

item-entry : (s : List ℕ) → (item s).entry ≡ entry_of s
unfolding item
item-entry s = refl

secret-length : (kind : TableKind) (e : Entry) → length e.secret.key ≡ 80 → length (secret_bytes kind e.secret) ≡ 81 + extra_of_lem kind
secret-length Keys e k = omega arith
secret-length Md5 e k = omega arith

kind-listed : (kind : TableKind) (f : ℕ) (s : List ℕ) → Family f → get_or s 0 0 ≡ kind_of kind f → Listed kind (item s)
unfolding item
kind-listed Keys f s h q = ap known_kind_of q ∙ kind-known Keys f h
kind-listed Md5 f s h q =
    (λ i. known_kind_of (q i) && not (eqb (extra (q i)) 1)) ∙ (λ i. kind-known Md5 f h i && not (eqb (kind-extra Md5 f h i) 1))

module _ (kind : TableKind) (e : Entry) (p : ProperIn kind e) (o : InBytes e) where
  abbrev bytes : List ℕ
  bytes = entry_bytes kind e

  abbrev family : ℕ
  family = e.selector.family

  own-size : length bytes ≡ size (kind_of kind family)
  own-size =
      let q = proper-in kind e p in
      let l = own-length (kind_of kind family) e (secret_bytes kind e.secret) q o in
      let b = body_is (kind_of kind family) in
      let g : width (family_of_lem (kind_of kind family)) ≡ width family = ap width (kind-family kind family q.family) in
      let x = kind-extra kind family q.family in
      let r = secret-length kind e q.key in
      omega arith

  own-whole : (item bytes).whole ≡ true
  unfolding item
  own-whole = let s = own-size in le-leb (size (kind_of kind family)) (length bytes) (omega arith)

  own-listed : Listed kind (item bytes)
  own-listed = kind-listed kind family bytes (proper-in kind e p).family refl

  own-items : items 0 bytes ≡ item bytes ∷ []
  own-items =
      let s = own-size in
      let n = 0 + size (kind_of kind family) in
      let z : items 0 (drop n bytes) ≡ [] = items-end bytes n (omega arith) in
      let y = listed-sound kind (item bytes) own-listed own-whole in
      items_at bytes 0 (omega arith) ∙ (λ i. item bytes ∷ cond (y i) (z i) [])

  own-entries : entries bytes ≡ e ∷ []
  unfolding entries_of
  own-entries =
      let y = listed-sound kind (item bytes) own-listed own-whole in
      ap entries_of own-items ∙ (λ i. cond (y i) ((item bytes).entry ∷ []) []) ∙ one
    where
      one : (item bytes).entry ∷ [] ≡ e ∷ []
      one = ap (λ (x : Entry). x ∷ []) (item-entry bytes ∙ entry_read kind e p o)

  own-valid : loaded kind max_entries bytes ≡ Ok 1
  own-valid =
      let q = own-entries in
      let l : length (entries bytes) ≡ 1 = ap length q in
      let s : Sound kind (item bytes ∷ []) = (own-listed, own-whole, tt) in
      let f : Each (Formed kind) (e ∷ []) = (proper-formed kind e p, tt) in
      formed-valid kind max_entries bytes
      (record { sound = subst (Sound kind) (sym own-items) s; few = omega arith; formed = subst (Each (Formed kind)) (sym q) f })
      (subst Apart (sym q) (tt, tt))
      ∙ ap Ok l

-- and each of its numbers is a byte

kind-octet : (kind : TableKind) (f : ℕ) → Family f → kind_of kind f < 256
kind-octet Keys f (inl e) = omega arith
kind-octet Keys f (inr e) = omega arith
kind-octet Md5 f (inl e) = omega arith
kind-octet Md5 f (inr e) = omega arith

listed-octets : (kind : TableKind) (e : Entry) → ProperIn kind e → (e.secret.flags < 256) × (e.secret.algorithm < 256)
listed-octets Keys e p =
    let f = p.1.flags in
    let a = (algorithm-low e.secret.algorithm p.1.algorithm).1 in
    (omega arith, omega arith)
listed-octets Md5 e p = let f = p.1.0.flags in let a = p.1.0.algorithm in (omega arith, omega arith)

secret-octets : (kind : TableKind) (e : Entry) → ProperIn kind e → InBytes e → Octets (secret_bytes kind e.secret)
secret-octets Keys e p o =
    let s = e.secret in
    let m = p.1.mac-high in
    let k = p.0.key-high in
    cons-octets s.mac_bytes (s.key_len ∷ s.key) (omega arith) (cons-octets s.key_len s.key (omega arith) o.key)
secret-octets Md5 e p o =
    let k = p.0.key-high in
    cons-octets e.secret.key_len e.secret.key (omega arith) o.key

side-octets : (w : ℕ) (s : Side) (r : List ℕ) → s.bits < 256 → Octets s.address → Octets r → Octets (side_bytes w s r)
side-octets w s r b a o = append-octets (take w s.address) (s.bits ∷ r) (take-octets w s.address a) (cons-octets s.bits r b o)

ports-octets : (a b c d : ℕ) → Octets (bytes16 a ++ (bytes16 b ++ (bytes16 c ++ bytes16 d)))
ports-octets a b c d =
    append-octets (bytes16 a) (bytes16 b ++ (bytes16 c ++ bytes16 d)) (two-octets a)
    (append-octets (bytes16 b) (bytes16 c ++ bytes16 d) (two-octets b)
    (append-octets (bytes16 c) (bytes16 d) (two-octets c) (two-octets d)))

five-octets : (a b c d x : ℕ) (r : List ℕ) → a < 256 → b < 256 → c < 256 → d < 256 → x < 256 → Octets r
    → Octets (a ∷ b ∷ c ∷ d ∷ x ∷ r)
five-octets a b c d x r ha hb hc hd hx o =
    four-octets a b c d (x ∷ r) ha hb hc hd (cons-octets x r hx o)

own-octets : (kind : TableKind) (e : Entry) → ProperIn kind e → InBytes e → Octets (entry_bytes kind e)
own-octets kind e p o =
    let q = proper-in kind e p in
    let s = e.selector in
    let w = width s.family in
    let r = secret_bytes kind e.secret in
    let l = listed-octets kind e p in
    let b = width-le s.family in
    let x = q.local-bits in
    let y = q.remote-bits in
    let head : Octets (head_bytes (kind_of kind s.family) e) =
    five-octets (kind_of kind s.family) e.secret.flags e.secret.algorithm e.ids.send e.ids.recv
    (bytes16 s.local.low ++ (bytes16 s.local.high ++ (bytes16 s.remote.low ++ bytes16 s.remote.high)))
    (kind-octet kind s.family q.family) l.0 l.1 o.send o.recv
    (ports-octets s.local.low s.local.high s.remote.low s.remote.high) in
    let remote : Octets (side_bytes w s.remote r) =
    side-octets w s.remote r (omega arith) o.selector.remote.octets (secret-octets kind e p o) in
    append-octets (head_bytes (kind_of kind s.family) e) (side_bytes w s.local (side_bytes w s.remote r)) head
    (side-octets w s.local (side_bytes w s.remote r) (omega arith) o.selector.local.octets remote)

-- so of every stored entry

held : (kind : TableKind) (e : Entry) → ProperIn kind e → InBytes e → HeldBy kind e
held kind e p o = (entry_bytes kind e, own-valid kind e p o, own-entries kind e p o, own-octets kind e p o)

stored-held : (kind : TableKind) (b : List ℕ) → Octets b → Stored kind (HeldBy kind) b
stored-held kind b o n i h k = held kind (stored_at kind b n i) (stored-in kind b n i h k) (stored_bytes kind b n i o h k)

pub keys-held : KeysHeld
keys-held b i e o at = each_at (HeldBy Keys) (keys-each (HeldBy Keys) b (stored-held Keys b o)) at

pub md5s-held : Md5sHeld
md5s-held b i e o at = each_at (HeldBy Md5) (md5s-each (HeldBy Md5) b (stored-held Md5 b o)) at
