-- A table of which enough bytes are kept is judged as the whole of it: an entry is read from its own bytes, which are at most 129.
-- Assumes nothing.
use Rattle.std.specs.Prelude.{◌≡◌, ℕ, zero, suc, ◌+◌, ◌-◌, ◌*◌, ◌^◌, ◌<◌, ◌≤◌, min, Bool, true, false, cond, leb, ◌⊎◌, List, [], ◌∷◌, ◌++◌, length, take, drop, ◌==◌, ◌≢◌, nat_le, slice_index, slice_index_or, slice_range, refl}
use Rattle.std.proofs.Common.{sym, ◌∙◌, inl, inr, ⊎_elim, length-take, length-drop, take_all, take-take, get_or-take, eq-eqb, ne_eqb, leb-true, leb-false, le-leb}
use Rattle.std.proofs.Math.Path.{ap}
use native.Mathlib.Omega.{arith}
use Rattle.std.proofs.Math.Seq.{take-nil}
use Rattle.std.proofs.lemmas.Bool.{lt-leb, not-false}
use Rattle.octets.specs.Octets.{get16}
use Rattle.keys.specs.Algorithm.{mac_bytes_of}
use Rattle.keys.specs.Entry.{known_kind_of, family_of_lem, extra, size, width, padded, side_of, selector_of_lem, ids_of, sides_end_of, mac_length_of, secret_of_lem}
use Rattle.keys.specs.Entry.{entry_of, Item, item, sound, items}
use Rattle.keys.proofs.EntryLaws.{width-le, known-size, items_at}
use Rattle.keys.proofs.MatchLaws.{and-true}
use Rattle.keys.proofs.FaultLaws.{number-none}
use Rattle.keys.specs.Table.{number_of, load_tests, loaded_from, loaded, refusing}
use Rattle.keys.specs.declared.entry.Entry.{Entry}
use Rattle.keys.specs.declared.table.TableKind.TheVariants.{Keys}
use Rattle.keys.specs.Table.{Loaded}
use Rattle.std.specs.Prelude.{Ok}
use Rattle.keys.specs.Table.{fault}
use Rattle.recording.specs.Recording.{desk_entries}
use Rattle.recording.specs.Live.{enough, TableKept}

-- an entry has at most 129 bytes
size-le : (k : ℕ) → known_kind_of k ≡ true → size k ≤ 129
unfolding known_kind_of
size-le k h =
    let a = leb-true k 7 (and-true (nat_le 4 k) (nat_le k 7) h).1 in
    let s = known-size k h in
    go (family_of_lem k == 4) refl a s
  where
    go : (b : Bool) → (family_of_lem k == 4) ≡ b → k ≤ 7 → size k ≡ cond (family_of_lem k == 4) 100 122 + k → size k ≤ 129
    go true e a s = let z : size k ≡ 100 + k = s ∙ rw e refl in omega arith
    go false e a s = let z : size k ≡ 122 + k = s ∙ rw e refl in omega arith

-- a part that lies within the bytes that are kept
part_same : (at w r : ℕ) (s : List ℕ) → at + w ≤ r → take w (drop at (take r s)) ≡ take w (drop at s)
part_same zero w r s h = take-take w r s (omega arith)
part_same (suc at) w zero s h = absurd (omega arith)
part_same (suc at) w (suc r) [] h = refl
part_same (suc at) w (suc r) (x ∷ s) h = part_same at w r s (omega arith)

drop-same : (at r : ℕ) (s : List ℕ) → at ≤ r → drop at (take r s) ≡ slice_range s at r
drop-same zero r s h = ap (λ (k : ℕ). take k s) (let z : r ≡ r - 0 = omega arith in z)
drop-same (suc at) zero s h = absurd (omega arith)
drop-same (suc at) (suc r) [] h = sym (take-nil (suc r - suc at))
drop-same (suc at) (suc r) (x ∷ s) h = drop-same at r s (omega arith) ∙ ap (λ (k : ℕ). take k (drop at s)) (let z : r - at ≡ suc r - suc at = omega arith in z)

module _ (r : ℕ) (s : List ℕ) (h : 129 ≤ r) where
  byte : (i : ℕ) → i < 129 → slice_index (take r s) i ≡ slice_index s i
  byte i l = get_or-take r s i 0 (omega arith)

  two : (i : ℕ) → i < 128 → get16 (take r s) i ≡ get16 s i
  two i l = λ j. byte i (omega arith) j * 2 ^ 8 + byte (i + 1) (omega arith) j

  side : (w ports at : ℕ) → w ≤ 16 → ports < 100 → at < 40 → side_of w ports at (take r s) ≡ side_of w ports at s
  unfolding side_of
  side w ports at lw lp la =
      λ j.
      record {
        low = two ports (omega arith) j;
        high = two (ports + 2) (omega arith) j;
        bits = byte (at + w) (omega arith) j;
        address = padded (part_same at w r s (omega arith) j);
      }

  kind : slice_index_or (take r s) 0 0 ≡ slice_index s 0
  kind = byte 0 (omega arith)

  -- the fields of an entry of the kind k
  module _ (k : ℕ) where
    w_le : width (family_of_lem k) ≤ 16
    w_le = width-le (family_of_lem k)

    x-le : extra k ≤ 1
    unfolding extra
    x-le = omega arith

    mac-same : mac_length_of k (take r s) ≡ mac_length_of k s
    unfolding mac_length_of
    mac-same = λ j. cond (extra k == 1) (byte (sides_end_of k) (omega (arith, w_le)) j) (mac_bytes_of (byte 2 (omega arith) j))

    fields-same : ◌≡◌ {A = Entry} (record { selector = selector_of_lem k (take r s); ids = ids_of (take r s); secret = secret_of_lem k (take r s) })
        (record { selector = selector_of_lem k s; ids = ids_of s; secret = secret_of_lem k s })
    unfolding selector_of_lem ids_of secret_of_lem
    fields-same =
        λ j.
        record {
          selector =
              record {
                family = family_of_lem k;
                local = side (width (family_of_lem k)) 5 13 w_le (omega arith) (omega arith) j;
                remote = side (width (family_of_lem k)) 9 (14 + width (family_of_lem k)) w_le (omega arith) (omega (arith, w_le)) j;
              };
          ids = record { send = byte 3 (omega arith) j; recv = byte 4 (omega arith) j };
          secret =
              record {
                flags = byte 1 (omega arith) j;
                algorithm = byte 2 (omega arith) j;
                mac_bytes = mac-same j;
                key_len = byte (sides_end_of k + extra k) (omega (arith, w_le, x-le)) j;
                key = part_same (sides_end_of k + extra k + 1) 80 r s (omega (arith, w_le, x-le)) j;
              };
        }

  entry-same : entry_of (take r s) ≡ entry_of s
  unfolding entry_of
  entry-same =
      ap (λ (k : ℕ). record { selector = selector_of_lem k (take r s); ids = ids_of (take r s); secret = secret_of_lem k (take r s) }) kind ∙ fields-same (slice_index s 0)

  -- whether an entry of a known kind is there whole
  whole_same : known_kind_of (slice_index s 0) ≡ true → nat_le (size (slice_index s 0)) (length (take r s)) ≡ nat_le (size (slice_index s 0)) (length s)
  whole_same v = go (nat_le (size (slice_index s 0)) (length s)) refl
    where
      l : length (take r s) ≡ min r (length s)
      l = length-take r s

      go : (b : Bool) → nat_le (size (slice_index s 0)) (length s) ≡ b → nat_le (size (slice_index s 0)) (length (take r s)) ≡ b
      go true e = le-leb (size (slice_index s 0)) (length (take r s)) (let a = leb-true (size (slice_index s 0)) (length s) e in omega (arith, size-le (slice_index s 0) v, l))
      go false e = lt-leb (size (slice_index s 0)) (length (take r s)) (let a = leb-false (size (slice_index s 0)) (length s) e in omega (arith, l))

  item-same : known_kind_of (slice_index s 0) ≡ true → item (take r s) ≡ item s
  unfolding item
  item-same v =
      λ j.
      record {
        kind-known = known_kind_of (kind j);
        extended = (extra (kind j) == 1);
        whole = (ap (λ (k : ℕ). leb (size k) (length (take r s))) kind ∙ whole_same v) j;
        entry = entry-same j;
      }

-- The loader.

-- where nothing applies, the entry is whole and of a known kind, and the limit is not reached
passed : (limit i : ℕ) (before : List Entry) (x : Item) → number_of (load_tests Keys limit i before x) ≡ 0 → ((i == limit) ≡ false) × (sound x ≡ true)
passed limit i before x e =
    let p = number-none (load_tests Keys limit i before x) refl e in
    (p.0, rw (not-false x.kind-known p.1.0, not-false x.whole p.1.1.0))

at-limit : (limit : ℕ) (before : List Entry) (x : Item) → number_of (load_tests Keys limit limit before x) ≡ 12
unfolding number_of
at-limit limit before x = rw (eq-eqb limit limit refl)

unknown : (limit i : ℕ) (before : List Entry) (x : Item) → (i ≢ limit) → x.kind-known ≡ false → number_of (load_tests Keys limit i before x) ≡ 11
unfolding number_of
unknown limit i before x n e = rw (ne_eqb i limit n, e)

-- one step of the loader
step : (limit i : ℕ) (before : List Entry) (s : List ℕ) → 0 < length s
    → loaded_from Keys limit i before (items 0 s)
    ≡ refusing (number_of (load_tests Keys limit i before (item s))) i
    (loaded_from Keys limit (i + 1) (before ++ (entry_of s ∷ [])) (cond (sound (item s)) (items 0 (drop (size (slice_index s 0)) s)) []))
unfolding loaded_from item
step limit i before s h =
    let z : 0 + size (slice_index s 0) ≡ size (slice_index s 0) = omega arith in
    ap (loaded_from Keys limit i before) (items_at s 0 h)
    ∙ ap
    (λ (n : ℕ).
    refusing (number_of (load_tests Keys limit i before (item s))) i
    (loaded_from Keys limit (i + 1) (before ++ (entry_of s ∷ [])) (cond (sound (item s)) (items 0 (drop n s)) [])))
    z

-- the limit is reached: 12, whatever begins
full : (limit : ℕ) (before : List Entry) (s : List ℕ) → 0 < length s → loaded_from Keys limit limit before (items 0 s) ≡ fault 12 limit
full limit before s h =
    step limit limit before s h
    ∙ ap
    (λ (n : ℕ).
    refusing n limit
    (loaded_from Keys limit (limit + 1) (before ++ (entry_of s ∷ [])) (cond (sound (item s)) (items 0 (drop (size (slice_index s 0)) s)) [])))
    (at-limit limit before (item s))

-- an unknown kind: 11
strange : (limit i : ℕ) (before : List Entry) (s : List ℕ) → 0 < length s → (i ≢ limit) → known_kind_of (slice_index s 0) ≡ false
    → loaded_from Keys limit i before (items 0 s) ≡ fault 11 i
unfolding item
strange limit i before s h n v =
    step limit i before s h
    ∙ ap
    (λ (m : ℕ).
    refusing m i (loaded_from Keys limit (i + 1) (before ++ (entry_of s ∷ [])) (cond (sound (item s)) (items 0 (drop (size (slice_index s 0)) s)) [])))
    (unknown limit i before (item s) n v)

-- bytes, or none
some : (s : List ℕ) → (s ≡ []) ⊎ (0 < length s)
some [] = inl refl
some (b ∷ t) = inr (omega arith)

-- an entry of a known kind, where the rest is judged the same
entry-from : (limit i r : ℕ) (before : List Entry) (s : List ℕ) → 0 < length s → 129 ≤ r → known_kind_of (slice_index s 0) ≡ true
    → loaded_from Keys limit (i + 1) (before ++ (entry_of s ∷ [])) (items 0 (take (r - size (slice_index s 0)) (drop (size (slice_index s 0)) s)))
    ≡ loaded_from Keys limit (i + 1) (before ++ (entry_of s ∷ [])) (items 0 (drop (size (slice_index s 0)) s))
    → loaded_from Keys limit i before (items 0 (take r s)) ≡ loaded_from Keys limit i before (items 0 s)
entry-from limit i r before s h long q ih =
    step limit i before (take r s) (let l = length-take r s in omega arith)
    ∙ (λ j.
    refusing (number_of (load_tests Keys limit i before (item-same r s long q j))) i
    (loaded_from Keys limit (i + 1) (before ++ (entry-same r s long j ∷ []))
    (cond (sound (item-same r s long q j)) (items 0 (drop (size (kind r s long j)) (take r s))) [])))
    ∙ ap (refusing (number_of (load_tests Keys limit i before (item s))) i) (rest (sound (item s)))
    ∙ sym (step limit i before s h)
  where
    others : List Entry
    others = before ++ (entry_of s ∷ [])

    rest : (c : Bool)
        → loaded_from Keys limit (i + 1) others (cond c (items 0 (drop (size (slice_index s 0)) (take r s))) [])
        ≡ loaded_from Keys limit (i + 1) others (cond c (items 0 (drop (size (slice_index s 0)) s)) [])
    rest true =
        let l = size-le (slice_index s 0) q in
        ap (λ (x : List ℕ). loaded_from Keys limit (i + 1) others (items 0 x)) (drop-same (size (slice_index s 0)) r s (omega arith)) ∙ ih
    rest false = refl

kept_from : (k limit i r : ℕ) (before : List Entry) (s : List ℕ) → limit ≡ i + k → 129 * k + 1 ≤ r
    → loaded_from Keys limit i before (items 0 (take r s)) ≡ loaded_from Keys limit i before (items 0 s)
kept_from zero limit i r before s e h =
    ⊎_elim (λ z. ap (λ (x : List ℕ). loaded_from Keys limit i before (items 0 x)) (ap (take r) z ∙ take-nil r ∙ sym z))
    (λ l.
    let z : limit ≡ i = omega arith in
    let l2 : 0 < length (take r s) = (let q = length-take r s in omega arith) in
    ap (λ (n : ℕ). loaded_from Keys n i before (items 0 (take r s))) z
    ∙ full i before (take r s) l2
    ∙ sym (ap (λ (n : ℕ). loaded_from Keys n i before (items 0 s)) z ∙ full i before s l)) (some s)
kept_from (suc k) limit i r before s e h =
    ⊎_elim (λ z. ap (λ (x : List ℕ). loaded_from Keys limit i before (items 0 x)) (ap (take r) z ∙ take-nil r ∙ sym z))
    (λ l.
    go (known_kind_of (slice_index s 0)) refl l
    (λ m.
    kept_from k limit (i + 1) (r - size (slice_index s 0)) (before ++ (entry_of s ∷ [])) (drop (size (slice_index s 0)) s) (omega arith) (omega (arith, m))))
    (some s)
  where
    go : (v : Bool) → known_kind_of (slice_index s 0) ≡ v → 0 < length s
        → (size (slice_index s 0) ≤ 129
        → loaded_from Keys limit (i + 1) (before ++ (entry_of s ∷ [])) (items 0 (take (r - size (slice_index s 0)) (drop (size (slice_index s 0)) s)))
        ≡ loaded_from Keys limit (i + 1) (before ++ (entry_of s ∷ [])) (items 0 (drop (size (slice_index s 0)) s)))
        → loaded_from Keys limit i before (items 0 (take r s)) ≡ loaded_from Keys limit i before (items 0 s)
    go true q l ih = entry-from limit i r before s l (omega arith) q (ih (size-le (slice_index s 0) q))
    go false q l ih =
        let n : i ≡ limit → ⊥ = λ z. omega arith in
        let l2 : 0 < length (take r s) = (let a = length-take r s in omega arith) in
        strange limit i before (take r s) l2 n (ap known_kind_of (kind r s (omega arith)) ∙ q) ∙ sym (strange limit i before s l n q)

pub table_kept : TableKept
unfolding loaded
table_kept room t h = kept_from desk_entries desk_entries 0 room [] t (omega arith) h

-- a valid table is no longer than its entries
short-from : (k limit i n : ℕ) (before : List Entry) (s : List ℕ) → limit ≡ i + k → loaded_from Keys limit i before (items 0 s) ≡ Ok n → length s ≤ 129 * k
unfolding item
short-from zero limit i n before s e v =
    ⊎_elim (λ z. let l : length s ≡ 0 = ap length z in omega arith)
    (λ l.
    let z : limit ≡ i = omega arith in
    let w = sym (ap (λ (m : ℕ). loaded_from Keys m i before (items 0 s)) z ∙ full i before s l) ∙ v in
    let x : ◌≡◌ {A = ℕ} 0 1 = cc w in
    absurd (omega arith)) (some s)
short-from (suc k) limit i n before s e v =
    ⊎_elim (λ z. let l : length s ≡ 0 = ap length z in omega arith)
    (λ l.
    go (number_of (load_tests Keys limit i before (item s))) refl l
    (λ x. short-from k limit (i + 1) n (before ++ (entry_of s ∷ [])) (drop (size (slice_index s 0)) s) (omega arith) x)) (some s)
  where
    after : Bool → Loaded
    after c = loaded_from Keys limit (i + 1) (before ++ (entry_of s ∷ [])) (cond c (items 0 (drop (size (slice_index s 0)) s)) [])

    go : (m : ℕ) → number_of (load_tests Keys limit i before (item s)) ≡ m → 0 < length s → (after true ≡ Ok n → length (drop (size (slice_index s 0)) s) ≤ 129 * k)
        → length s ≤ 129 * suc k
    go (suc m) q l ih =
        let w = sym (step limit i before s l ∙ ap (λ (x : ℕ). refusing x i (after (sound (item s)))) q) ∙ v in
        let x : ◌≡◌ {A = ℕ} 0 1 = cc w in
        absurd (omega arith)
    go zero q l ih =
        let p = (passed limit i before (item s) q).1 in
        let w : after true ≡ Ok n =
        sym (step limit i before s l ∙ ap (λ (x : ℕ). refusing x i (after (sound (item s)))) q ∙ ap after p) ∙ v in
        let a = and-true (known_kind_of (slice_index s 0)) (nat_le (size (slice_index s 0)) (length s)) p in
        let z = size-le (slice_index s 0) a.0 in
        let d = length-drop (size (slice_index s 0)) s in
        let f = ih w in
        omega arith

pub valid-short : (n room : ℕ) (t : List ℕ) → enough ≤ room → loaded Keys desk_entries t ≡ Ok n → take room t ≡ t
unfolding loaded
valid-short n room t h v = take_all room t (let l = short-from desk_entries desk_entries 0 n [] t (omega arith) v in omega arith)
