-- What a scan over the columns may pass by: an entry that answers is a candidate, and what a search finds is the first that answers.
-- The first bits of addresses are compared as numbers: where the first bits of two addresses agree, so do the first bits of the numbers
-- that their bytes make, eight at a time. Where all bits agree, so do the marks.
use Prim.Native.Nat.{ℕ, suc, zero, ◌+◌, ◌*◌, ◌-◌, ◌/◌, ◌%◌, ◌^◌, ◌≤◌, ◌<◌, max, min}
use Rattle.std.specs.Prelude.{Bool, ◌&&◌, ◌||◌, ◌≡◌, drop, ltb}
use Rattle.std.proofs.Math.Bool.{true, false, cond}
use Rattle.std.proofs.Math.Path.{refl, sym, ap}
use Rattle.std.proofs.Common.{◌∙◌, div-add-mod', zero-add, length-drop, shr-shr, length-take-le, get_or-append-add, ext_get_or}
use mathlib.Core.List.{List, [], ◌∷◌, ◌++◌}
use native.Mathlib.Omega.{arith}
use Rattle.std.proofs.Math.Nat.{div-eq_of_lt, div-one}
use Rattle.std.proofs.Math.ListN.{length, get_or, take, replicate, length-append, length-replicate, get_or-append}
use Rattle.std.proofs.Math.Dec.{leb, eqb}
use Rattle.std.proofs.Math.Pow.{field, mod-mod-pow}
use Rattle.std.proofs.Math.Seq.{take-append-add, get_or-take, get_or-drop, take_at}
use borrow.Author.Tests.{eq-eqb, eqb-true, leb-true, leb-false, ltb-false}
use Rattle.octets.specs.Each.{Octets}
use Rattle.octets.specs.Octets.{be16, be32}
use Rattle.wire.specs.Prefix.{bit, agree}
use Rattle.wire.specs.PrefixLaws.{agree-bit}
use Rattle.keys.specs.Entry.{width}
use Rattle.keys.proofs.EntryLaws.{width-le, take-octets, drop-octets, zeros-octets, append-octets, cons-octets}
use Rattle.keys.specs.Match.{fixed, holding, holds, matching, matches}
use Rattle.keys.proofs.MatchLaws.{every_true, and-true}
use Rattle.keys.specs.Table.{nobody, hit as hit_at, found, has_id_of, answers}
use Rattle.keys.specs.declared.entry.Pair.{Pair}
use Rattle.keys.specs.declared.entry.Side.{Side}
use Rattle.keys.specs.declared.table.TableKind.{TableKind}
use Rattle.keys.specs.declared.table.TableKind.TheVariants.{Keys, Md5}
use Rattle.keys.specs.declared.table.By.{By}
use Rattle.keys.specs.declared.table.By.TheVariants.{Any, Send, Recv}
use Rattle.prepared.specs.Prepared.{prepared_bytes, clear, clean_family, clean_side, clean_selector, clean_ids, clean, front_ids, raw_local}
use Rattle.prepared.specs.Prepared.{raw_remote, raw_selector, raw_entry, stored_entry, octet_sum_of, mark_of, address_of, send_at, recv_at}
use Rattle.prepared.specs.Prepared.{bits_at, mark_at, slot_at, front_at_lem, back_at, stored_at, stored_from}
use Rattle.prepared.specs.ClearLaws.{clear-agree}
use Rattle.prepared.specs.Scan.{get64, top, near_bits, near_front_of, last_byte_of, near_last_of, near_rest, near_back_of}
use Rattle.prepared.specs.Scan.{local_bits, near_local_of, alike, port_in_lem, possible, nearby, close}
use Rattle.prepared.specs.Scan.{id_at, candidate, hit, First, Asks}

-- tests

pub both_true : (a b : Bool) → a ≡ true → b ≡ true → (a && b) ≡ true
both_true a b x y = rw x y

-- one bit of a number, by the byte that it lies in
bit_in : (y k : ℕ) → k ≤ 7 → y / 2 ^ k % 2 ≡ y % 256 / 2 ^ k % 2
bit_in y k h =
    let e : 8 ≡ 8 - k + k = omega arith in
    let d : 8 - k ≡ 7 - k + 1 = omega arith in
    sym (mod-mod-pow (y / 2 ^ k) (7 - k) 1)
    ∙ ap (λ (m : ℕ). y / 2 ^ k % 2 ^ m % 2) (sym d)
    ∙ ap (λ (m : ℕ). m % 2) (sym (field y (8 - k) k))
    ∙ ap (λ (m : ℕ). y % 2 ^ m / 2 ^ k % 2) (sym e)

module _ (s : List ℕ) (o : Octets s) where
  byte_of : (q : ℕ) → q < 8 → get64 s 0 / 2 ^ (56 - 8 * q) % 256 ≡ get_or s q 0
  byte_of zero h = omega (arith, o 0, o 1, o 2, o 3, o 4, o 5, o 6, o 7)
  byte_of (suc zero) h = omega (arith, o 0, o 1, o 2, o 3, o 4, o 5, o 6, o 7)
  byte_of (suc (suc zero)) h = omega (arith, o 0, o 1, o 2, o 3, o 4, o 5, o 6, o 7)
  byte_of (suc (suc (suc zero))) h = omega (arith, o 0, o 1, o 2, o 3, o 4, o 5, o 6, o 7)
  byte_of (suc (suc (suc (suc zero)))) h = omega (arith, o 0, o 1, o 2, o 3, o 4, o 5, o 6, o 7)
  byte_of (suc (suc (suc (suc (suc zero))))) h = omega (arith, o 0, o 1, o 2, o 3, o 4, o 5, o 6, o 7)
  byte_of (suc (suc (suc (suc (suc (suc zero)))))) h = omega (arith, o 0, o 1, o 2, o 3, o 4, o 5, o 6, o 7)
  byte_of (suc (suc (suc (suc (suc (suc (suc zero))))))) h = omega (arith, o 0, o 1, o 2, o 3, o 4, o 5, o 6, o 7)
  byte_of (suc (suc (suc (suc (suc (suc (suc (suc q)))))))) h = absurd (omega arith)

  word_lt : get64 s 0 < 2 ^ 64
  word_lt = omega (arith, o 0, o 1, o 2, o 3, o 4, o 5, o 6, o 7)

  word-bit : (i : ℕ) → i < 64 → get64 s 0 / 2 ^ (63 - i) % 2 ≡ bit s i
  word-bit i h =
      let e : 63 - i ≡ 56 - 8 * (i / 8) + (7 - i % 8) = omega arith in
      ap (λ (k : ℕ). get64 s 0 / 2 ^ k % 2) e
      ∙ ap (λ (v : ℕ). v % 2) (sym (shr-shr (get64 s 0) (56 - 8 * (i / 8)) (7 - i % 8)))
      ∙ bit_in (get64 s 0 / 2 ^ (56 - 8 * (i / 8))) (7 - i % 8) (omega arith)
      ∙ ap (λ (v : ℕ). v / 2 ^ (7 - i % 8) % 2) (byte_of (i / 8) (omega arith))

half : (x k : ℕ) → x / 2 ^ k ≡ x / 2 ^ (k + 1) * 2 + x / 2 ^ k % 2
half x k =
    let e = shr-shr x k 1 in
    let d : x / 2 ^ k / 2 * 2 + x / 2 ^ k % 2 ≡ x / 2 ^ k = div-add-mod' (x / 2 ^ k) 2 in
    sym d ∙ ap (λ (v : ℕ). v * 2 + x / 2 ^ k % 2) e

-- the first n bits of two addresses, n no more than 64
top-same : (n : ℕ) (a b : List ℕ) → Octets a → Octets b → n ≤ 64 → ((i : ℕ) → i < n → bit a i ≡ bit b i)
    → get64 a 0 / 2 ^ (64 - n) ≡ get64 b 0 / 2 ^ (64 - n)
top-same zero a b oa ob h f = div-eq_of_lt (word_lt a oa) ∙ sym (div-eq_of_lt (word_lt b ob))
top-same (suc n) a b oa ob h f =
    let e : 64 - suc n ≡ 63 - n = omega arith in
    let d : 63 - n + 1 ≡ 64 - n = omega arith in
    let ih = top-same n a b oa ob (omega arith) (λ i l. f i (omega arith)) in
    let q = word-bit a oa n (omega arith) ∙ f n (omega arith) ∙ sym (word-bit b ob n (omega arith)) in
    ap (λ (k : ℕ). get64 a 0 / 2 ^ k) e
    ∙ half (get64 a 0) (63 - n)
    ∙ (λ i. (ap (λ (k : ℕ). get64 a 0 / 2 ^ k) d ∙ ih ∙ ap (λ (k : ℕ). get64 b 0 / 2 ^ k) (sym d)) i * 2 + q i)
    ∙ sym (half (get64 b 0) (63 - n))
    ∙ ap (λ (k : ℕ). get64 b 0 / 2 ^ k) (sym e)

-- the byte k behind a list of m
behind : (a b : List ℕ) (m k : ℕ) → length a ≡ m → get_or (a ++ b) (m + k) 0 ≡ get_or b k 0
behind a b m k e = ap (λ (v : ℕ). get_or (a ++ b) (v + k) 0) (sym e) ∙ get_or-append-add a b k 0

-- a number, and a bit, behind k bytes
word-drop : (k : ℕ) (s : List ℕ) → get64 (drop k s) 0 ≡ get64 s k
word-drop k s =
    λ i.
    be32 (at 0 k (omega arith) i) (at 1 (k + 1) (omega arith) i) (at 2 (k + 2) (omega arith) i) (at 3 (k + 3) (omega arith) i) * 2 ^ 32
    + be32 (at 4 (k + 4) (omega arith) i) (at 5 (k + 4 + 1) (omega arith) i) (at 6 (k + 4 + 2) (omega arith) i)
    (at 7 (k + 4 + 3) (omega arith) i)
  where
    at : (j m : ℕ) → k + j ≡ m → get_or (drop k s) j 0 ≡ get_or s m 0
    at j m e = get_or-drop k s j 0 ∙ ap (λ (v : ℕ). get_or s v 0) e

bit-drop : (k : ℕ) (s : List ℕ) (i : ℕ) → bit (drop k s) i ≡ bit s (8 * k + i)
bit-drop k s i =
    let q : k + i / 8 ≡ (8 * k + i) / 8 = omega arith in
    let m : i % 8 ≡ (8 * k + i) % 8 = omega arith in
    ap (λ (v : ℕ). v / 2 ^ (7 - i % 8) % 2) (get_or-drop k s (i / 8) 0) ∙ (λ j. get_or s (q j) 0 / 2 ^ (7 - m j) % 2)

-- the first n bits behind k bytes of the one and l of the other
top-behind : (n k l : ℕ) (a b : List ℕ) → Octets a → Octets b → n ≤ 64 → ((i : ℕ) → i < n → bit a (8 * k + i) ≡ bit b (8 * l + i))
    → get64 a k / 2 ^ (64 - n) ≡ get64 b l / 2 ^ (64 - n)
top-behind n k l a b oa ob h f =
    ap (λ (x : ℕ). x / 2 ^ (64 - n)) (sym (word-drop k a))
    ∙ top-same n (drop k a) (drop l b) (drop-octets k a oa) (drop-octets l b ob) h
    (λ i m. bit-drop k a i ∙ f i m ∙ sym (bit-drop l b i))
    ∙ ap (λ (x : ℕ). x / 2 ^ (64 - n)) (word-drop l b)

-- bytes by their bits

high_same : (n x y : ℕ) → x < 256 → y < 256 → n ≤ 8 → ((k : ℕ) → k < n → x / 2 ^ (7 - k) % 2 ≡ y / 2 ^ (7 - k) % 2)
    → x / 2 ^ (8 - n) ≡ y / 2 ^ (8 - n)
high_same zero x y hx hy h f = div-eq_of_lt hx ∙ sym (div-eq_of_lt hy)
high_same (suc n) x y hx hy h f =
    let e : 8 - suc n ≡ 7 - n = omega arith in
    let d : 7 - n + 1 ≡ 8 - n = omega arith in
    let ih = high_same n x y hx hy (omega arith) (λ k l. f k (omega arith)) in
    let q = f n (omega arith) in
    ap (λ (k : ℕ). x / 2 ^ k) e
    ∙ half x (7 - n)
    ∙ (λ i. (ap (λ (k : ℕ). x / 2 ^ k) d ∙ ih ∙ ap (λ (k : ℕ). y / 2 ^ k) (sym d)) i * 2 + q i)
    ∙ sym (half y (7 - n))
    ∙ ap (λ (k : ℕ). y / 2 ^ k) (sym e)

byte-same : (x y : ℕ) → x < 256 → y < 256 → ((k : ℕ) → k < 8 → x / 2 ^ (7 - k) % 2 ≡ y / 2 ^ (7 - k) % 2) → x ≡ y
byte-same x y hx hy f = sym (div-one x) ∙ high_same 8 x y hx hy (omega arith) f ∙ div-one y

bit-of : (s : List ℕ) (j k : ℕ) → k < 8 → get_or s j 0 / 2 ^ (7 - k) % 2 ≡ bit s (8 * j + k)
bit-of s j k h =
    let q : j ≡ (8 * j + k) / 8 = omega arith in
    let m : k ≡ (8 * j + k) % 8 = omega arith in
    λ i. get_or s (q i) 0 / 2 ^ (7 - m i) % 2

module _ (n : ℕ) (a b : List ℕ) (oa : Octets a) (ob : Octets b) (f : (i : ℕ) → i < 8 * n → bit a i ≡ bit b i) where
  bytes_same : (j : ℕ) → j < n → get_or a j 0 ≡ get_or b j 0
  bytes_same j h =
      byte-same (get_or a j 0) (get_or b j 0) (oa j) (ob j)
      (λ k l. bit-of a j k l ∙ f (8 * j + k) (omega arith) ∙ sym (bit-of b j k l))

  heads-same : n ≤ length a → n ≤ length b → take n a ≡ take n b
  heads-same la lb =
      let x = length-take-le n a la in
      let y = length-take-le n b lb in
      ext_get_or 0 (take n a) (take n b) (x ∙ sym y)
      (λ j h.
      let l : j < n = omega arith in
      get_or-take n a j 0 l ∙ bytes_same j l ∙ sym (get_or-take n b j 0 l))

-- An address from its mark.

pub width-least : (g : ℕ) → 4 ≤ width g
unfolding width
width-least g = go (eqb g 4) refl
  where
    go : (b : Bool) → eqb g 4 ≡ b → 4 ≤ cond (eqb g 4) 4 16
    go true e = rw e (omega arith)
    go false e = rw e (omega arith)

sum-append : (a b : List ℕ) → octet_sum_of (a ++ b) ≡ octet_sum_of a + octet_sum_of b
sum-append [] b = sym (zero-add (octet_sum_of b))
sum-append (x ∷ a) b =
    let e : x + (octet_sum_of a + octet_sum_of b) ≡ x + octet_sum_of a + octet_sum_of b = omega arith in
    ap (λ (k : ℕ). x + k) (sum-append a b) ∙ e

sum_back : (s m : ℕ) → m < 256 → (s + (m + (256 - s % 256)) % 256) % 256 ≡ m
sum_back s m h = omega arith

module _ (g mark : ℕ) (a : List ℕ) (l : length a ≡ 15) where
  abbrev before : List ℕ
  before = take (width g - 1) a

  abbrev last : ℕ
  last = (mark + (256 - octet_sum_of before % 256)) % 256

  before-length : length before ≡ width g - 1
  before-length = let w = width-le g in length-take-le (width g - 1) a (omega arith)

  pub address-length : length (address_of g mark a) ≡ 16
  unfolding address_of
  address-length =
      let w = width-le g in
      let v = width-least g in
      let b = before-length in
      let z = length-replicate {A = ℕ} (16 - width g) 0 in
      length-append before (last ∷ replicate (16 - width g) 0) ∙ omega arith

  address-octets : Octets a → Octets (address_of g mark a)
  unfolding address_of
  address-octets o =
      append-octets before (last ∷ replicate (16 - width g) 0) (take-octets (width g - 1) a o)
      (cons-octets last (replicate (16 - width g) 0) (omega arith) (zeros-octets (16 - width g)))

  address-byte : (j : ℕ) → j < width g - 1 → get_or (address_of g mark a) j 0 ≡ get_or a j 0
  unfolding address_of
  address-byte j h =
      let b = before-length in
      get_or-append before (last ∷ replicate (16 - width g) 0) 0 j (omega arith) ∙ get_or-take (width g - 1) a j 0 h

  address-head : take (width g) (address_of g mark a) ≡ before ++ (last ∷ [])
  unfolding address_of
  address-head =
      let v = width-least g in
      let b = before-length in
      let e : width g ≡ length before + 1 = omega arith in
      ap (λ (k : ℕ). take k (before ++ (last ∷ replicate (16 - width g) 0))) e
      ∙ take-append-add before (last ∷ replicate (16 - width g) 0) 1

  address-mark : mark < 256 → mark_of g (address_of g mark a) ≡ mark
  address-mark h =
      let z : last + 0 ≡ last = omega arith in
      ap (λ (s : List ℕ). octet_sum_of s % 256) address-head
      ∙ ap (λ (k : ℕ). k % 256) (sum-append before (last ∷ []) ∙ ap (λ (k : ℕ). octet_sum_of before + k) z)
      ∙ sum_back (octet_sum_of before) mark h

-- What an entry that matches has.

side-bits : (g : ℕ) (s : Side) (port : ℕ) (q : List ℕ) → holds g (clean_side g s) port q ≡ true
    → (i : ℕ) → i < fixed g s.bits → bit s.address i ≡ bit q i
unfolding holds clean_side
side-bits g s port q h =
    let n = fixed g s.bits in
    let w = (every_true (holding g (clean_side g s) port q) h).1.1.0 in
    let e : n ≡ fixed g n = omega arith in
    let d : agree n (clear n s.address) q ≡ true = ap (λ (k : ℕ). agree k (clear n s.address) q) e ∙ w in
    agree-bit n s.address q (sym (clear-agree n s.address q) ∙ d)

-- the remote address of a front
abbrev pub remote_of : List ℕ → List ℕ
remote_of f = take 16 (drop 4 f)

module _ (f r : List ℕ) (p : Pair) (m : matches (clean_selector (raw_selector f r)) p ≡ true) where
  family-same : clean_family (get_or f 3 0) ≡ p.family
  unfolding matches clean_selector raw_selector
  family-same = eqb-true _ _ (every_true (matching (clean_selector (raw_selector f r)) p) m).0

  remote-holds : holds (clean_family (get_or f 3 0)) (clean_side (clean_family (get_or f 3 0)) (raw_remote f)) p.remote_port p.remote
      ≡ true
  unfolding matches clean_selector raw_selector
  remote-holds = (every_true (matching (clean_selector (raw_selector f r)) p) m).1.1.0

  local-holds : holds (clean_family (get_or f 3 0)) (clean_side (clean_family (get_or f 3 0)) (raw_local f r)) p.local_port p.local ≡ true
  unfolding matches clean_selector raw_selector
  local-holds = (every_true (matching (clean_selector (raw_selector f r)) p) m).1.0

  remote-bits : (i : ℕ) → i < fixed (clean_family (get_or f 3 0)) (get_or f 2 0) → bit (remote_of f) i ≡ bit p.remote i
  remote-bits = side-bits (clean_family (get_or f 3 0)) (raw_remote f) p.remote_port p.remote remote-holds

  local-bits : (i : ℕ) → i < fixed (clean_family (get_or f 3 0)) (get_or r 4 0) → bit (take 16 (drop 5 r)) i ≡ bit p.local i
  local-bits = side-bits (clean_family (get_or f 3 0)) (raw_local f r) p.local_port p.local local-holds

  remote-in : port_in_lem f 20 p.remote_port ≡ true
  unfolding holds clean_side
  remote-in =
      let g = clean_family (get_or f 3 0) in
      let q = every_true (holding g (clean_side g (raw_remote f)) p.remote_port p.remote) remote-holds in
      both_true _ _ q.0 q.1.0

  local-in : port_in_lem f 24 p.local_port ≡ true
  unfolding holds clean_side
  local-in =
      let g = clean_family (get_or f 3 0) in
      let q = every_true (holding g (clean_side g (raw_local f r)) p.local_port p.local) local-holds in
      both_true _ _ q.0 q.1.0

-- An entry that answers is a candidate.

-- the ID of the front is that of its column
pub front-id : (t : List ℕ) (n i : ℕ) (by : By) → has_id_of by (front_ids (front_at_lem t n i)) ≡ id_at by t n i
unfolding front_ids front_at_lem
front-id t n i Any = refl
front-id t n i (Send id) = refl
front-id t n i (Recv id) = refl

near-most : (f bits : ℕ) → (min bits (cond (eqb f 4) 24 64) ≤ fixed (clean_family f) bits)
    × (min bits (cond (eqb f 4) 24 64) ≤ 8 * (width (clean_family f) - 1)) × (min bits (cond (eqb f 4) 24 64) ≤ 64)
unfolding clean_family width
near-most f bits = go (eqb f 4) refl
  where
    go : (b : Bool) → eqb f 4 ≡ b → (min bits (cond (eqb f 4) 24 64) ≤ fixed (clean_family f) bits)
        × (min bits (cond (eqb f 4) 24 64) ≤ 8 * (width (clean_family f) - 1)) × (min bits (cond (eqb f 4) 24 64) ≤ 64)
    go true e = rw e (omega arith, omega arith, omega arith)
    go false e = rw e (omega arith, omega arith, omega arith)

-- an address that is not of IPv4 has 15 bytes before its last one
long-wide : (f : ℕ) → eqb f 4 ≡ false → 120 ≤ 8 * (width (clean_family f) - 1)
unfolding clean_family width
long-wide f e = rw e (omega arith)

four-wide : (f : ℕ) → eqb f 4 ≡ true → 32 ≤ 8 * width (clean_family f)
unfolding clean_family width
four-wide f e = rw e (omega arith)

sum-three : (l : List ℕ) → 3 ≤ length l → octet_sum_of (take 3 l) ≡ get_or l 0 0 + (get_or l 1 0 + (get_or l 2 0 + 0))
sum-three [] h = absurd (omega arith)
sum-three (x ∷ []) h = absurd (omega arith)
sum-three (x ∷ y ∷ []) h = absurd (omega arith)
sum-three (x ∷ y ∷ z ∷ l) h = refl

-- of IPv4 the fourth byte is the last one
last-four : (mark : ℕ) (a : List ℕ) → length a ≡ 15
    → get_or (address_of 4 mark a) 3 0 ≡ last_byte_of mark (get_or a 0 0) (get_or a 1 0) (get_or a 2 0)
unfolding address_of width
last-four mark a l =
    behind (take 3 a) (_ ∷ replicate 12 0) 3 0 (length-take-le 3 a (omega arith))
    ∙ ap (λ (v : ℕ). (mark + (256 - v % 256)) % 256) (sum-three a (omega arith))

module _ (t : List ℕ) (n i : ℕ) (o : Octets t) (room : prepared_bytes n ≤ length t) (inside : i < n) where
  abbrev slot_of : List ℕ
  slot_of = slot_at t n i

  abbrev family_of_lem : ℕ
  family_of_lem = clean_family (get_or slot_of 0 0)

  abbrev given : List ℕ
  given = take 15 (drop 1 slot_of)

  abbrev address : List ℕ
  address = address_of family_of_lem (mark_at t n i) given

  slot-length : length slot_of ≡ 24
  slot-length =
      let d = length-drop (4 + 4 * n + 24 * i) t in
      length-take-le 24 (drop (4 + 4 * n + 24 * i) t) (omega arith)

  slot-octets : Octets slot_of
  slot-octets = take-octets 24 (drop (4 + 4 * n + 24 * i) t) (drop-octets (4 + 4 * n + 24 * i) t o)

  given-length : length given ≡ 15
  given-length =
      let s = slot-length in
      let d = length-drop 1 slot_of in
      length-take-le 15 (drop 1 slot_of) (omega arith)

  front-remote : remote_of (front_at_lem t n i) ≡ address
  unfolding front_at_lem
  front-remote = take_at address (take 8 (drop 16 slot_of)) 16 (address-length family_of_lem (mark_at t n i) given given-length)

  front-port : (k : ℕ) → k < 8 → get_or (front_at_lem t n i) (4 + (16 + k)) 0 ≡ get_or slot_of (16 + k) 0
  unfolding front_at_lem
  front-port k h =
      behind (send_at t n i ∷ recv_at t n i ∷ bits_at t n i ∷ get_or slot_of 0 0 ∷ []) (address ++ take 8 (drop 16 slot_of)) 4 (16 + k) refl
      ∙ behind address (take 8 (drop 16 slot_of)) 16 k (address-length family_of_lem (mark_at t n i) given given-length)
      ∙ get_or-take 8 (drop 16 slot_of) k 0 h
      ∙ get_or-drop 16 slot_of k 0

  front-remote-in : (port : ℕ) → port_in_lem (front_at_lem t n i) 20 port ≡ port_in_lem slot_of 16 port
  front-remote-in port =
      let a = front-port 0 (omega arith) in
      let b = front-port 1 (omega arith) in
      let c = front-port 2 (omega arith) in
      let d = front-port 3 (omega arith) in
      λ k. leb (min (be16 (a k) (b k)) (be16 (c k) (d k))) port && leb port (max (be16 (a k) (b k)) (be16 (c k) (d k)))

  front-local-in : (port : ℕ) → port_in_lem (front_at_lem t n i) 24 port ≡ port_in_lem slot_of 20 port
  front-local-in port =
      let a = front-port 4 (omega arith) in
      let b = front-port 5 (omega arith) in
      let c = front-port 6 (omega arith) in
      let d = front-port 7 (omega arith) in
      λ k. leb (min (be16 (a k) (b k)) (be16 (c k) (d k))) port && leb port (max (be16 (a k) (b k)) (be16 (c k) (d k)))

  -- the first bits of the address are those of the slot
  slot-bit : (k : ℕ) → k < 8 * (width family_of_lem - 1) → bit (drop 1 slot_of) k ≡ bit address k
  slot-bit k h =
      let w = width-le family_of_lem in
      let a = address-byte family_of_lem (mark_at t n i) given given-length (k / 8) (omega arith) in
      let b = get_or-take 15 (drop 1 slot_of) (k / 8) 0 (omega arith) in
      ap (λ (v : ℕ). v / 2 ^ (7 - k % 8) % 2) (sym (a ∙ b))

  slot-byte : (j : ℕ) → j < 15 → get_or given j 0 ≡ get_or slot_of (1 + j) 0
  slot-byte j h = get_or-take 15 (drop 1 slot_of) j 0 h ∙ get_or-drop 1 slot_of j 0

  address-last : eqb (get_or slot_of 0 0) 4 ≡ true
      → get_or address 3 0 ≡ last_byte_of (mark_at t n i) (get_or slot_of 1 0) (get_or slot_of 2 0) (get_or slot_of 3 0)
  unfolding clean_family
  address-last e =
      let a = slot-byte 0 (omega arith) in
      let b = slot-byte 1 (omega arith) in
      let c = slot-byte 2 (omega arith) in
      ap (λ (b : Bool). get_or (address_of (cond b 4 6) (mark_at t n i) given) 3 0) e
      ∙ last-four (mark_at t n i) given given-length
      ∙ (λ k. last_byte_of (mark_at t n i) (a k) (b k) (c k))

  abbrev back_of : List ℕ
  back_of = back_at t n i

  back-octets : Octets back_of
  back-octets = take-octets 101 (drop (4 + 28 * n + 101 * i) t) (drop-octets (4 + 28 * n + 101 * i) t o)

  module _ (p : Pair) (m : matches (clean_selector (raw_selector (front_at_lem t n i) (back_at t n i))) p ≡ true)
      (op : Octets p.remote) (lp : length p.remote ≡ 16) (ol : Octets p.local) where
    -- the bits of the local address in the back
    local_same : (k : ℕ) → k < local_bits (get_or slot_of 0 0) back_of → bit back_of (40 + k) ≡ bit p.local k
    unfolding front_at_lem
    local_same k h =
        let w = width-le family_of_lem in
        sym (bit-drop 5 back_of k)
        ∙ ap (λ (v : ℕ). v / 2 ^ (7 - k % 8) % 2) (sym (get_or-take 16 (drop 5 back_of) (k / 8) 0 (omega arith)))
        ∙ local-bits (front_at_lem t n i) back_of p m k h

    abbrev b : ℕ
    b = local_bits (get_or slot_of 0 0) back_of

    local-needed : near_local_of (get_or slot_of 0 0) back_of (get64 p.local 0) (get64 p.local 8) ≡ true
    unfolding near_local_of
    local-needed = go (leb b 64) refl
      where
        go : (c : Bool) → leb b 64 ≡ c
            → cond (leb b 64) (top b (get64 back_of 5) (get64 p.local 0))
            (eqb (get64 back_of 5) (get64 p.local 0) && top (b - 64) (get64 back_of 13) (get64 p.local 8)) ≡ true
        go true q =
            let z = leb-true b 64 q in
            rw q (eq-eqb _ _ (top-behind b 5 0 back_of p.local back-octets ol z
            (λ k l. local_same k l ∙ ap (λ (j : ℕ). bit p.local j) (sym (zero-add k)))))
        go false q =
            let z = leb-false b 64 q in
            let w = width-le family_of_lem in
            let e =
            top-behind 64 5 0 back_of p.local back-octets ol (omega arith)
            (λ k l. local_same k (omega arith) ∙ ap (λ (j : ℕ). bit p.local j) (sym (zero-add k))) in
            rw q
            (both_true _ _ (eq-eqb _ _ (sym (div-one (get64 back_of 5)) ∙ e ∙ div-one (get64 p.local 0)))
            (eq-eqb _ _ (top-behind (b - 64) 13 8 back_of p.local back-octets ol (omega arith)
            (λ k l.
            let v : 8 * 13 + k ≡ 40 + (64 + k) = omega arith in
            ap (λ (j : ℕ). bit back_of j) v ∙ local_same (64 + k) (omega arith)))))

    same_bits : (k : ℕ) → k < fixed family_of_lem (bits_at t n i) → bit address k ≡ bit p.remote k
    unfolding front_at_lem
    same_bits k h =
        ap (λ (s : List ℕ). bit s k) (sym front-remote)
        ∙ remote-bits (front_at_lem t n i) (back_at t n i) p m k h

    -- the bits of the slot, which begin behind its first byte
    slot_same : (k : ℕ) → k < 8 * (width family_of_lem - 1) → k < fixed family_of_lem (bits_at t n i) → bit slot_of (8 + k) ≡ bit p.remote k
    slot_same k h l = sym (bit-drop 1 slot_of k) ∙ slot-bit k h ∙ same_bits k l

    front-needed : near_front_of slot_of (bits_at t n i) (get64 p.remote 0) ≡ true
    unfolding near_front_of
    front-needed =
        let b = near_bits slot_of (bits_at t n i) in
        let q = near-most (get_or slot_of 0 0) (bits_at t n i) in
        let u = q.0 in
        let v = q.1 in
        eq-eqb _ _ (top-behind b 1 0 slot_of p.remote slot-octets op q.2
        (λ k l. slot_same k (omega arith) (omega arith) ∙ ap (λ (j : ℕ). bit p.remote j) (sym (zero-add k))))

    -- the bytes before the last one, of IPv6
    rest-needed : eqb (get_or slot_of 0 0) 4 ≡ false → near_rest slot_of (bits_at t n i) (get64 p.remote 7) ≡ true
    unfolding near_rest
    rest-needed e = go (leb (bits_at t n i) 64) refl
      where
        go : (b : Bool) → leb (bits_at t n i) 64 ≡ b
            → (leb (bits_at t n i) 64 || top (min (bits_at t n i) 120 - 56) (get64 slot_of 8) (get64 p.remote 7)) ≡ true
        go true q = rw q
        go false q =
            let w = long-wide (get_or slot_of 0 0) e in
            let z = leb-false (bits_at t n i) 64 q in
            rw q
            (eq-eqb _ _ (top-behind (min (bits_at t n i) 120 - 56) 8 7 slot_of p.remote slot-octets op (omega arith)
            (λ k l.
            let v : 8 * 8 + k ≡ 8 + (56 + k) = omega arith in
            ap (λ (j : ℕ). bit slot_of j) v ∙ slot_same (56 + k) (omega arith) (omega arith))))

    -- the last byte of IPv4
    abbrev x : ℕ
    x = last_byte_of (mark_at t n i) (get_or slot_of 1 0) (get_or slot_of 2 0) (get_or slot_of 3 0)

    abbrev y : ℕ
    y = get64 p.remote 0 / 2 ^ 32 % 256

    last-needed : eqb (get_or slot_of 0 0) 4 ≡ true → near_last_of x y (bits_at t n i) ≡ true
    unfolding near_last_of
    last-needed e = go (leb (bits_at t n i) 24) refl
      where
        go : (b : Bool) → leb (bits_at t n i) 24 ≡ b
            → (leb (bits_at t n i) 24 || eqb (x / 2 ^ (32 - min (bits_at t n i) 32)) (y / 2 ^ (32 - min (bits_at t n i) 32))) ≡ true
        go true q = rw q
        go false q =
            let z = leb-false (bits_at t n i) 24 q in
            let g = four-wide (get_or slot_of 0 0) e in
            let a = address-last e in
            let v : 8 - (min (bits_at t n i) 32 - 24) ≡ 32 - min (bits_at t n i) 32 = omega arith in
            rw q
            (eq-eqb _ _
            (ap (λ (c : ℕ). x / 2 ^ c) (sym v)
            ∙ high_same (min (bits_at t n i) 32 - 24) x y (omega arith) (omega arith) (omega arith)
            (λ k l.
            ap (λ (c : ℕ). c / 2 ^ (7 - k) % 2) (sym a)
            ∙ bit-of address 3 k (omega arith)
            ∙ same_bits (8 * 3 + k) (omega arith)
            ∙ sym (bit-of p.remote 3 k (omega arith))
            ∙ ap (λ (c : ℕ). c / 2 ^ (7 - k) % 2) (sym (byte_of p.remote op 3 (omega arith))))
            ∙ ap (λ (c : ℕ). y / 2 ^ c) v))

    back-needed : near_back_of slot_of (bits_at t n i) (mark_at t n i) (get64 p.remote 0) (get64 p.remote 7) ≡ true
    unfolding near_back_of
    back-needed = go (eqb (get_or slot_of 0 0) 4) refl
      where
        go : (b : Bool) → eqb (get_or slot_of 0 0) 4 ≡ b
            → cond (eqb (get_or slot_of 0 0) 4) (near_last_of x y (bits_at t n i)) (near_rest slot_of (bits_at t n i) (get64 p.remote 7)) ≡ true
        go true e = rw e (last-needed e)
        go false e = rw e (rest-needed e)

    alike-needed : alike t n (get64 p.remote 0) (get64 p.remote 7) (get64 p.local 0) (get64 p.local 8) i ≡ true
    unfolding alike
    alike-needed = both_true _ _ back-needed local-needed

    family-is : family_of_lem ≡ p.family
    unfolding front_at_lem
    family-is = family-same (front_at_lem t n i) (back_at t n i) p m

    mark-same : 8 * width p.family ≤ bits_at t n i → mark_at t n i ≡ mark_of p.family p.remote
    mark-same h =
        let w = width-le family_of_lem in
        let z : width family_of_lem ≡ width p.family = ap width family-is in
        let la = address-length family_of_lem (mark_at t n i) given given-length in
        let e =
        heads-same (width family_of_lem) address p.remote
        (address-octets family_of_lem (mark_at t n i) given given-length (take-octets 15 (drop 1 slot_of) (drop-octets 1 slot_of slot-octets)))
        op
        (λ k l. same_bits k (omega arith))
        (omega arith)
        (omega arith) in
        sym (address-mark family_of_lem (mark_at t n i) given given-length (o (4 + 3 * n + i)))
        ∙ ap (λ (s : List ℕ). octet_sum_of s % 256) e
        ∙ ap (λ (g : ℕ). mark_of g p.remote) family-is

    possible-needed : possible (8 * width p.family) (mark_of p.family p.remote) (bits_at t n i) (mark_at t n i) ≡ true
    possible-needed = go (ltb (bits_at t n i) (8 * width p.family)) refl
      where
        go : (b : Bool) → ltb (bits_at t n i) (8 * width p.family) ≡ b
            → possible (8 * width p.family) (mark_of p.family p.remote) (bits_at t n i) (mark_at t n i) ≡ true
        go true e = rw e
        go false e = rw e (eq-eqb _ _ (mark-same (ltb-false _ _ e)))

    nearby-needed : nearby t n (8 * width p.family) (mark_of p.family p.remote) p.remote_port p.local_port
        (get64 p.remote 0) i
        ≡ true
    unfolding nearby
    nearby-needed =
        let f = front_at_lem t n i in
        let r = back_at t n i in
        both_true _ _ possible-needed
        (both_true _ _ (sym (front-remote-in p.remote_port) ∙ remote-in f r p m)
        (both_true _ _ (sym (front-local-in p.local_port) ∙ local-in f r p m) front-needed))

    matches-close : close t n (8 * width p.family) (mark_of p.family p.remote) p.remote_port p.local_port
        (get64 p.remote 0) (get64 p.remote 7) (get64 p.local 0) (get64 p.local 8) i
        ≡ true
    unfolding close
    matches-close = both_true _ _ nearby-needed alike-needed

  pub candidate-needed : (by : By) (p : Pair) → Octets p.remote → length p.remote ≡ 16 → Octets p.local → hit by p t n i ≡ true
      → candidate by t n (8 * width p.family) (mark_of p.family p.remote) p.remote_port p.local_port
      (get64 p.remote 0) (get64 p.remote 7) (get64 p.local 0) (get64 p.local 8) i ≡ true
  unfolding candidate hit
  candidate-needed by p op lp ol q =
      let m = and-true (has_id_of by (front_ids (front_at_lem t n i))) (matches (clean_selector (raw_selector (front_at_lem t n i) (back_at t n i))) p) q in
      both_true _ _ (sym (front-id t n i by) ∙ m.0) (matches-close p m.1 op lp ol)

  -- what is no candidate does not answer
  pub no-candidate : (by : By) (p : Pair) → Octets p.remote → length p.remote ≡ 16 → Octets p.local
      → candidate by t n (8 * width p.family) (mark_of p.family p.remote) p.remote_port p.local_port
      (get64 p.remote 0) (get64 p.remote 7) (get64 p.local 0) (get64 p.local 8) i ≡ false
      → hit by p t n i ≡ false
  no-candidate by p op lp ol c = go (hit by p t n i) refl
    where
      go : (a : Bool) → hit by p t n i ≡ a → hit by p t n i ≡ false
      go false q = q
      go true q = let z : ◌≡◌ {A = ℕ} 0 1 = cc (sym c ∙ candidate-needed by p op lp ol q) in absurd (omega arith)

-- What a search finds.

-- an entry answers exactly if its front and its back do
answers-hit : (kind : TableKind) (by : By) (p : Pair) (f r : List ℕ) → Asks kind by
    → answers by p (stored_entry kind f r) ≡ (has_id_of by (front_ids f) && matches (clean_selector (raw_selector f r)) p)
unfolding answers clean clean_ids raw_entry
answers-hit Keys by p f r a = refl
answers-hit Md5 Any p f r a = refl
answers-hit Md5 (Send id) p f r a = absurd a
answers-hit Md5 (Recv id) p f r a = absurd a

module _ (kind : TableKind) (t : List ℕ) (n : ℕ) (by : By) (p : Pair) (a : Asks kind by) where
  at-hit : (j : ℕ) → answers by p (stored_at kind t n j) ≡ hit by p t n j
  unfolding stored_at hit
  at-hit j = answers-hit kind by p (front_at_lem t n j) (back_at t n j) a

  found_none : (count k i : ℕ) → ((j : ℕ) → i ≤ j → j < i + count → hit by p t n j ≡ false)
      → found (answers by p) k (stored_from kind t n i count) ≡ nobody
  unfolding found stored_from
  found_none zero k i h = refl
  found_none (suc count) k i h =
      rw (at-hit i ∙ h i (omega arith) (omega arith)) (found_none count (k + 1) (i + 1) (λ j l m. h j (omega arith) (omega arith)))

  found_at : (count k i d : ℕ) → d < count → ((j : ℕ) → i ≤ j → j < i + d → hit by p t n j ≡ false)
      → hit by p t n (i + d) ≡ true
      → found (answers by p) k (stored_from kind t n i count) ≡ hit_at (k + d) (stored_at kind t n (i + d))
  unfolding found stored_from
  found_at zero k i d l h e = absurd (omega arith)
  found_at (suc count) k i zero l h e =
      let z : i + 0 ≡ i = omega arith in
      let y : k ≡ k + 0 = omega arith in
      rw (at-hit i ∙ sym (ap (λ (j : ℕ). hit by p t n j) z) ∙ e)
      (λ s. hit_at (y s) (stored_at kind t n (sym z s)))
  found_at (suc count) k i (suc d) l h e =
      let z : i + 1 + d ≡ i + suc d = omega arith in
      let y : k + 1 + d ≡ k + suc d = omega arith in
      rw (at-hit i ∙ h i (omega arith) (omega arith))
      (found_at count (k + 1) (i + 1) d (omega arith) (λ j x m. h j (omega arith) (omega arith))
      (ap (λ (j : ℕ). hit by p t n j) z ∙ e)
      ∙ (λ s. hit_at (y s) (stored_at kind t n (z s))))

  module _ (first count r : ℕ) (w : First (hit by p t n) first (first + count) r) where
    pub found-nobody : r ≡ first + count → found (answers by p) 0 (stored_from kind t n first count) ≡ nobody
    found-nobody e = found_none count 0 first (λ j l m. w.none j l (omega arith))

    pub found_first : (r ≡ first + count → ⊥)
        → found (answers by p) 0 (stored_from kind t n first count) ≡ hit_at (r - first) (stored_at kind t n r)
    found_first q =
        let u = w.from in
        let v = w.few in
        let x : r < first + count = omega arith in
        let z : first + (r - first) ≡ r = omega arith in
        let y : 0 + (r - first) ≡ r - first = omega arith in
        found_at count 0 first (r - first) (omega arith) (λ j l m. w.none j l (omega arith))
        (ap (λ (j : ℕ). hit by p t n j) z ∙ w.there x)
        ∙ (λ s. hit_at (y s) (stored_at kind t n (z s)))
