-- Where 12 is given, exactly. An entry is read from its own bytes alone, so that whatever stands behind a table's entries leaves them as
-- they are; the rest goes by induction over the entries that are left to the limit. Assumes nothing.
use Rattle.std.specs.Prelude.{ℕ, zero, suc, ◌+◌, ◌*◌, ◌^◌, ◌≤◌, ◌<◌, Bool, true, false, not, ◌≡◌, List, [], ◌∷◌, ◌++◌, length, get_or, take, drop}
use Rattle.std.proofs.Math.Bool.{cond}
use Rattle.std.proofs.Math.Path.{refl, ap}
use Rattle.std.proofs.Common.{sym, ◌∙◌, append_assoc, arith, length-append, length-take, length-drop, take-append-drop, drop_at, get_or-take, eq-eqb, ne_eqb, leb-true, le-leb}
use Rattle.std.proofs.Math.ListN.{get_or-append}
use Rattle.std.proofs.lemmas.List.{take-append-le, drop-append-le}
use Rattle.std.proofs.Math.Dec.{eqb, leb}
use Rattle.std.proofs.lemmas.Bool.{not-false}
use Rattle.octets.specs.Octets.{get16}
use Rattle.octets.specs.TestLaws.{each_gives, first_passes}
use Rattle.keys.specs.Algorithm.{mac_bytes_of}
use Rattle.keys.specs.Entry.{known_kind_of, family_of_lem, extra, size, width, padded, side_of, selector_of_lem, ids_of, sides_end_of, mac_length_of, secret_of_lem}
use Rattle.keys.specs.Entry.{entry_of, Item, item, sound, items}
use Rattle.keys.proofs.EntryLaws.{body_is, items_at}
use Rattle.keys.proofs.MatchLaws.{and-true}
use Rattle.keys.proofs.FaultLaws.{number-none, item-lacks, listed-sound}
use Rattle.keys.specs.Table.{number_of, item_tests, load_tests, loaded_from, loaded, refusing}
use Rattle.keys.specs.declared.entry.Entry.{Entry}
use Rattle.keys.specs.declared.table.TableKind.{TableKind}
use Rattle.keys.specs.declared.table.TableKind.TheVariants.{Keys, Md5}
use Rattle.std.specs.Prelude.{Ok, Err}
use Rattle.keys.specs.Table.{Loaded, fault}
use Rattle.tables.specs.Limit.{LimitRefused, RefusedLimit, KeysLimit, Md5Limit}
use Rattle.tables.proofs.CrossingLaws.{keys-refused, md5-refused}

-- the two parts of a refusal

abbrev number_in : Loaded → ℕ
number_in (Ok n) = 0
number_in (Err f) = f.number

abbrev index_in : Loaded → ℕ
index_in (Ok n) = 0
index_in (Err f) = f.index

-- An entry and what stands behind it.

-- p has all bytes of its first entry; v is whatever follows
module _ (p v : List ℕ) (h : size (get_or p 0 0) ≤ length p) where
  byte : (i : ℕ) → i < length p → get_or (p ++ v) i 0 ≡ get_or p i 0
  byte i l = get_or-append p v 0 i l

  part : (at w : ℕ) → at + w ≤ length p → take w (drop at (p ++ v)) ≡ take w (drop at p)
  part at w l =
      ap (take w) (drop-append-le at p v (omega arith))
      ∙ take-append-le w (drop at p) v (let d = length-drop at p in omega arith)

  two : (i : ℕ) → i + 1 < length p → get16 (p ++ v) i ≡ get16 p i
  two i l = λ j. byte i (omega arith) j * 2 ^ 8 + byte (i + 1) l j

  side : (w ports at : ℕ) → ports + 3 < length p → at + w < length p → side_of w ports at (p ++ v) ≡ side_of w ports at p
  unfolding side_of
  side w ports at lp la =
      λ j.
      record {
        low = two ports (omega arith) j;
        high = two (ports + 2) (omega arith) j;
        bits = byte (at + w) la j;
        address = padded (part at w (omega arith) j);
      }

  kind-same : get_or (p ++ v) 0 0 ≡ get_or p 0 0
  kind-same = byte 0 (omega arith)

  -- the fields of an entry of the kind k, whose bytes are all there
  module _ (k : ℕ) (whole : 96 + 2 * width (family_of_lem k) + extra k ≤ length p) where
    mac-same : mac_length_of k (p ++ v) ≡ mac_length_of k p
    unfolding mac_length_of
    mac-same = λ j. cond (eqb (extra k) 1) (byte (sides_end_of k) (omega arith) j) (mac_bytes_of (byte 2 (omega arith) j))

    fields-same : ◌≡◌ {A = Entry} (record { selector = selector_of_lem k (p ++ v); ids = ids_of (p ++ v); secret = secret_of_lem k (p ++ v) })
        (record { selector = selector_of_lem k p; ids = ids_of p; secret = secret_of_lem k p })
    unfolding selector_of_lem ids_of secret_of_lem
    fields-same =
        λ j.
        record {
          selector =
              record {
                family = family_of_lem k;
                local = side (width (family_of_lem k)) 5 13 (omega arith) (omega arith) j;
                remote = side (width (family_of_lem k)) 9 (14 + width (family_of_lem k)) (omega arith) (omega arith) j;
              };
          ids = record { send = byte 3 (omega arith) j; recv = byte 4 (omega arith) j };
          secret =
              record {
                flags = byte 1 (omega arith) j;
                algorithm = byte 2 (omega arith) j;
                mac_bytes = mac-same j;
                key_len = byte (sides_end_of k + extra k) (omega arith) j;
                key = part (sides_end_of k + extra k + 1) 80 (omega arith) j;
              };
        }

  entry-same : entry_of (p ++ v) ≡ entry_of p
  unfolding entry_of
  entry-same =
      ap (λ (k : ℕ). record { selector = selector_of_lem k (p ++ v); ids = ids_of (p ++ v); secret = secret_of_lem k (p ++ v) }) kind-same
      ∙ fields-same (get_or p 0 0) (let b = body_is (get_or p 0 0) in omega arith)

  whole_same : leb (size (get_or p 0 0)) (length (p ++ v)) ≡ leb (size (get_or p 0 0)) (length p)
  whole_same =
      le-leb (size (get_or p 0 0)) (length (p ++ v)) (let l = length-append p v in omega arith)
      ∙ sym (le-leb (size (get_or p 0 0)) (length p) h)

  item-same : item (p ++ v) ≡ item p
  unfolding item
  item-same =
      λ j.
      record {
        kind-known = known_kind_of (kind-same j);
        extended = eqb (extra (kind-same j)) 1;
        whole = (ap (λ (k : ℕ). leb (size k) (length (p ++ v))) kind-same ∙ whole_same) j;
        entry = entry-same j;
      }

sound-whole : (s : List ℕ) → sound (item s) ≡ true → size (get_or s 0 0) ≤ length s
unfolding item
sound-whole s h = leb-true (size (get_or s 0 0)) (length s) (and-true (known_kind_of (get_or s 0 0)) (leb (size (get_or s 0 0)) (length s)) h).1

-- the first entry's own bytes
abbrev own : List ℕ → List ℕ
own s = take (size (get_or s 0 0)) s

abbrev rest : List ℕ → List ℕ
rest s = drop (size (get_or s 0 0)) s

module _ (s : List ℕ) (h : sound (item s) ≡ true) where
  own-kind : get_or (own s) 0 0 ≡ get_or s 0 0
  own-kind = get_or-take (size (get_or s 0 0)) s 0 0 (omega arith)

  own-length : length (own s) ≡ size (get_or s 0 0)
  own-length = let l = length-take (size (get_or s 0 0)) s in let w = sound-whole s h in omega arith

  own-whole : size (get_or (own s) 0 0) ≤ length (own s)
  own-whole = let k = ap size own-kind in let l = own-length in omega arith

  own-item : item (own s) ≡ item s
  own-item = sym (item-same (own s) (rest s) own-whole) ∙ ap item (take-append-drop (size (get_or s 0 0)) s)

  -- the entry's bytes mean that entry, and then what follows, whatever that is
  own_first : (v : List ℕ) → items 0 (own s ++ v) ≡ item s ∷ items 0 v
  own_first v =
      items_at (own s ++ v) 0 (let l = length-append (own s) v in let w = own-length in omega arith)
      ∙ (λ j. same j ∷ cond (there j) (items 0 (behind j)) [])
    where
      same : item (own s ++ v) ≡ item s
      same = item-same (own s) v own-whole ∙ own-item

      there : sound (item (own s ++ v)) ≡ true
      there = ap (λ (x : Item). sound x) same ∙ h

      begins : 0 + size (get_or (own s ++ v) 0 0) ≡ size (get_or s 0 0)
      begins = let k = ap size (kind-same (own s) v own-whole ∙ own-kind) in omega arith

      behind : drop (0 + size (get_or (own s ++ v) 0 0)) (own s ++ v) ≡ v
      behind = ap (λ (n : ℕ). drop n (own s ++ v)) begins ∙ drop_at (own s) v (size (get_or s 0 0)) own-length

  all_first : items 0 s ≡ item s ∷ items 0 (rest s)
  all_first = sym (ap (items 0) (take-append-drop (size (get_or s 0 0)) s)) ∙ own_first (rest s)

  longer-first : (w : List ℕ) → items 0 (s ++ w) ≡ item s ∷ items 0 (rest s ++ w)
  longer-first w =
      ap (items 0) (ap (λ (l : List ℕ). l ++ w) (sym (take-append-drop (size (get_or s 0 0)) s)) ∙ append_assoc (own s) (rest s) w)
      ∙ own_first (rest s ++ w)

-- The loader.

abbrev not_twelve : ℕ → Bool
not_twelve n = not (eqb n 12)

twelve-lacks : (kind : TableKind) (before : List Entry) (x : Item) → each_gives not_twelve (item_tests kind before x) ≡ true
twelve-lacks Keys before x = refl
twelve-lacks Md5 before x = refl

-- no test of the entry by itself or against those before it gives 12
not-twelve : (kind : TableKind) (before : List Entry) (x : Item) → number_of (item_tests kind before x) ≡ 12 → ⊥
unfolding number_of
not-twelve kind before x e =
    let z : false ≡ true = sym (ap not_twelve e) ∙ first_passes not_twelve (item_tests kind before x) 0 (twelve-lacks kind before x) refl in
    let y : ◌≡◌ {A = ℕ} 0 1 = cc z in
    absurd (omega arith)

module _ (kind : TableKind) (limit : ℕ) where
  -- where nothing applies, the entry is whole and of a known kind
  passed : (i : ℕ) (before : List Entry) (x : Item) → number_of (load_tests kind limit i before x) ≡ 0 → sound x ≡ true
  passed i before x e =
      let p = number-none (load_tests kind limit i before x) (item-lacks kind before x) e in
      listed-sound kind x (not-false _ p.1.0) (not-false _ p.1.1.0)

  -- below the limit 12 is not given
  other-number : (i : ℕ) (before : List Entry) (x : Item) → eqb i limit ≡ false
      → number_of (load_tests kind limit i before x) ≡ number_of (item_tests kind before x)
  unfolding number_of
  other-number i before x q = rw q

  below : (i : ℕ) (before : List Entry) (x : Item) → (i ≡ limit → ⊥) → number_of (load_tests kind limit i before x) ≡ 12 → ⊥
  below i before x n e = not-twelve kind before x (sym (other-number i before x (ne_eqb i limit n)) ∙ e)

  -- the limit is reached: 12, whatever begins
  full : (i : ℕ) (before : List Entry) (b : ℕ) (r : List ℕ) → i ≡ limit
      → loaded_from kind limit i before (items 0 (b ∷ r)) ≡ fault 12 limit
  unfolding loaded_from items number_of
  full i before b r e = rw (eq-eqb i limit e) (ap (fault 12) e)

  -- an entry that passes leaves the answer to what follows
  goes_on : (i : ℕ) (before : List Entry) (x : Item) (l : List Item) → number_of (load_tests kind limit i before x) ≡ 0
      → loaded_from kind limit i before (x ∷ l) ≡ loaded_from kind limit (i + 1) (before ++ (x.entry ∷ [])) l
  unfolding loaded_from
  goes_on i before x l q = ap (λ (n : ℕ). refusing n i (loaded_from kind limit (i + 1) (before ++ (x.entry ∷ [])) l)) q

  -- and one that does not gives it
  stops : (i m : ℕ) (before : List Entry) (b : ℕ) (r : List ℕ) → number_of (load_tests kind limit i before (item (b ∷ r))) ≡ suc m
      → loaded_from kind limit i before (items 0 (b ∷ r)) ≡ fault (suc m) i
  unfolding loaded_from items
  stops i m before b r q = rw q

  empty : (i : ℕ) (before : List Entry) → loaded_from kind limit i before (items 0 []) ≡ Ok i
  unfolding loaded_from items
  empty i before = refl

  module _ (r : List ℕ) (b : ℕ) where
    -- a table that is valid to the limit, one byte more behind it
    abbrev Longer : ℕ → List Entry → List ℕ → Type 0
    Longer i before u = loaded_from kind limit i before (items 0 u) ≡ Ok limit
        → loaded_from kind limit i before (items 0 (u ++ (b ∷ r))) ≡ fault 12 limit

    longer-none : (i : ℕ) (before : List Entry) → Longer i before []
    longer-none i before v = let z : i ≡ limit = cc (sym (empty i before) ∙ v) in full i before b r z

    longer-end : (i : ℕ) (before : List Entry) (u : List ℕ) → limit ≡ i → Longer i before u
    longer-end i before [] e v = longer-none i before v
    longer-end i before (a ∷ u) e v = let z : ◌≡◌ {A = ℕ} 0 1 = cc (sym (full i before a u (sym e)) ∙ v) in absurd (omega arith)

    longer-step : (i : ℕ) (before : List Entry) (u : List ℕ) → Longer (i + 1) (before ++ ((item u).entry ∷ [])) (rest u) → Longer i before u
    longer-step i before [] ih v = longer-none i before v
    longer-step i before (a ∷ u) ih v = go (number_of (load_tests kind limit i before (item (a ∷ u)))) refl
      where
        go : (m : ℕ) → number_of (load_tests kind limit i before (item (a ∷ u))) ≡ m
            → loaded_from kind limit i before (items 0 ((a ∷ u) ++ (b ∷ r))) ≡ fault 12 limit
        go (suc m) q = let z : ◌≡◌ {A = ℕ} 0 1 = cc (sym (stops i m before a u q) ∙ v) in absurd (omega arith)
        go zero q =
            let s = passed i before (item (a ∷ u)) q in
            ap (loaded_from kind limit i before) (longer-first (a ∷ u) s (b ∷ r))
            ∙ goes_on i before (item (a ∷ u)) (items 0 (rest (a ∷ u) ++ (b ∷ r))) q
            ∙ ih
            (sym (goes_on i before (item (a ∷ u)) (items 0 (rest (a ∷ u))) q)
            ∙ sym (ap (loaded_from kind limit i before) (all_first (a ∷ u) s))
            ∙ v)

    -- k entries are left to the limit
    longer-from : (k i : ℕ) (before : List Entry) (u : List ℕ) → limit ≡ i + k → Longer i before u
    longer-from zero i before u e = longer-end i before u (omega arith)
    longer-from (suc k) i before u e =
        longer-step i before u (longer-from k (i + 1) (before ++ ((item u).entry ∷ [])) (rest u) (omega arith))

  -- bytes s that are valid up to some byte of theirs, where the limit is reached
  abbrev Reached : ℕ → List Entry → List ℕ → Type 0
  Reached i before s =
      (u : List ℕ) × (b : ℕ) × (r : List ℕ) × (s ≡ u ++ (b ∷ r)) × (loaded_from kind limit i before (items 0 u) ≡ Ok limit)

  -- what a 12 at j says of the bytes s
  abbrev Twelve : ℕ → ℕ → List Entry → List ℕ → Type 0
  Twelve j i before s = loaded_from kind limit i before (items 0 s) ≡ fault 12 j → (j ≡ limit) × Reached i before s

  module _ (j : ℕ) where
    none-twelve : (i : ℕ) (before : List Entry) → Twelve j i before []
    none-twelve i before v = let z : ◌≡◌ {A = ℕ} 0 1 = cc (sym (empty i before) ∙ v) in absurd (omega arith)

    end-twelve : (i : ℕ) (before : List Entry) (s : List ℕ) → limit ≡ i → Twelve j i before s
    end-twelve i before [] e v = none-twelve i before v
    end-twelve i before (a ∷ s) e v =
        let z : limit ≡ j = ap index_in (sym (full i before a s (sym e)) ∙ v) in
        (sym z, ([], a, s, refl, empty i before ∙ ap Ok (sym e)))

    -- the entry's own bytes before those of what follows
    reached-step : (i : ℕ) (before : List Entry) (s : List ℕ) → number_of (load_tests kind limit i before (item s)) ≡ 0
        → Reached (i + 1) (before ++ ((item s).entry ∷ [])) (rest s) → Reached i before s
    reached-step i before s q (u, b, r, e, v) = (
      own s ++ u,
      b,
      r,
      sym (take-append-drop (size (get_or s 0 0)) s) ∙ ap (λ (l : List ℕ). own s ++ l) e ∙ sym (append_assoc (own s) u (b ∷ r)),
      ap (loaded_from kind limit i before) (own_first s (passed i before (item s) q) u) ∙ goes_on i before (item s) (items 0 u) q ∙ v,
    )

    step-twelve : (i : ℕ) (before : List Entry) (s : List ℕ) → (i ≡ limit → ⊥) → Twelve j (i + 1) (before ++ ((item s).entry ∷ [])) (rest s)
        → Twelve j i before s
    step-twelve i before [] n ih v = none-twelve i before v
    step-twelve i before (a ∷ s) n ih v = go (number_of (load_tests kind limit i before (item (a ∷ s)))) refl
      where
        go : (m : ℕ) → number_of (load_tests kind limit i before (item (a ∷ s))) ≡ m → (j ≡ limit) × Reached i before (a ∷ s)
        go (suc m) q =
            let z : suc m ≡ 12 = ap number_in (sym (stops i m before a s q) ∙ v) in
            absurd (below i before (item (a ∷ s)) n (q ∙ z))
        go zero q =
            let y = passed i before (item (a ∷ s)) q in
            let x = ih
            (sym (goes_on i before (item (a ∷ s)) (items 0 (rest (a ∷ s))) q)
            ∙ sym (ap (loaded_from kind limit i before) (all_first (a ∷ s) y))
            ∙ v) in
            (x.0, reached-step i before (a ∷ s) q x.1)

    from-twelve : (k i : ℕ) (before : List Entry) (s : List ℕ) → limit ≡ i + k → Twelve j i before s
    from-twelve zero i before s e = end-twelve i before s (omega arith)
    from-twelve (suc k) i before s e =
        step-twelve i before s (λ z. omega arith) (from-twelve k (i + 1) (before ++ ((item s).entry ∷ [])) (rest s) (omega arith))

pub limit-refused : LimitRefused
unfolding loaded
limit-refused kind limit u r b v = longer-from kind limit r b limit 0 [] u (omega arith) v

pub refused-limit : RefusedLimit
unfolding loaded
refused-limit kind limit i t v =
    let x = from-twelve kind limit i limit 0 [] t (omega arith) v in
    (x.0, x.1.0, x.1.1, x.1.2, x.1.3, x.1.4)

pub keys-limit : KeysLimit
keys-limit u r m b v = keys-refused (u ++ (b ∷ r)) m 12 1024 (limit-refused Keys 1024 u r b v)

pub md5-limit : Md5Limit
md5-limit k u r c b e v = md5-refused k (u ++ (b ∷ r)) c 12 1024 e (limit-refused Md5 1024 u r b v)
