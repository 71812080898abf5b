-- What the size tests give, for what stands above: the numbers in order, and how long the option area is.
-- Assumes nothing.
use Rattle.std.specs.Prelude.{ℕ, ◌*◌, ◌-◌, ◌/◌, ◌%◌, ◌≤◌, ◌<◌, Bool, true, false, not, ◌||◌, ◌≡◌, refl, List, ◌++◌, length, get_or, take, drop, ltb, eqb}
use Rattle.std.proofs.Common.{ap, ◌∙◌, length-take, length-drop, arith, le-ltb, ltb-false}
use Rattle.std.proofs.Math.ListN.{get_or-append}
use Rattle.std.proofs.lemmas.List.{take-append-le, drop-append-le}
use Rattle.octets.specs.Octets.{be16, be32}
use Rattle.wire.specs.Header.{data_offset_of, header_end_of, well_sized_of, area, header_of_lem}
use Rattle.wire.specs.Options.{options_of}

pub record Sized (s : List ℕ) : Type 0 where
  pub least : 20 ≤ length s
  pub most : length s ≤ 65535
  pub offset : 5 ≤ data_offset_of s
  pub inside : header_end_of s ≤ length s

-- `well_sized_of` holds exactly if the segment is `Sized`
pub sized : (s : List ℕ) → well_sized_of s ≡ true → Sized s
sized s e = go (ltb (length s) 20) (ltb 65535 (length s)) (ltb (data_offset_of s) 5) (ltb (length s) (header_end_of s)) refl refl refl refl e where
  go : (p q r t : Bool) → ltb (length s) 20 ≡ p → ltb 65535 (length s) ≡ q → ltb (data_offset_of s) 5 ≡ r → ltb (length s) (header_end_of s) ≡ t
      → not (p || (q || (r || (t || false)))) ≡ true → Sized s
  go false false false false a b c d z = record { least = ltb-false _ _ a; most = ltb-false _ _ b; offset = ltb-false _ _ c; inside = ltb-false _ _ d }
  go true q r t a b c d z = let z : ◌≡◌ {A = ℕ} 0 1 = cc in absurd (omega arith)
  go false true r t a b c d z = let z : ◌≡◌ {A = ℕ} 0 1 = cc in absurd (omega arith)
  go false false true t a b c d z = let z : ◌≡◌ {A = ℕ} 0 1 = cc in absurd (omega arith)
  go false false false true a b c d z = let z : ◌≡◌ {A = ℕ} 0 1 = cc in absurd (omega arith)

pub well-sized : (s : List ℕ) → Sized s → well_sized_of s ≡ true
well-sized s h = rw (le-ltb _ _ h.least, le-ltb _ _ h.most, le-ltb _ _ h.offset, le-ltb _ _ h.inside)

pub area-length : (s : List ℕ) → header_end_of s ≤ length s → length (area s) ≡ header_end_of s - 20
area-length s h = rw (length-take, length-drop) (omega arith)

-- The data say nothing: the header of a segment is that of its header's bytes.
module _ (h d : List ℕ) (least : 20 ≤ length h) (all : header_end_of h ≤ length h) where
  front_at : (i : ℕ) → i < 20 → get_or (h ++ d) i 0 ≡ get_or h i 0
  front_at i q = get_or-append h d 0 i (omega arith)

  front-area : area (h ++ d) ≡ area h
  front-area =
      ap (λ (b : ℕ). take (4 * (b / 16) - 20) (drop 20 (h ++ d))) (front_at 12 (omega arith))
      ∙ ap (take (header_end_of h - 20)) (drop-append-le 20 h d least)
      ∙ take-append-le (header_end_of h - 20) (drop 20 h) d (omega (arith, length-drop 20 h))

  pub header-front : (n : ℕ) → header_of_lem n (h ++ d) ≡ header_of_lem n h
  header-front n = λ i.
      record {
        len = n;
        end = 4 * (front_at 12 (omega arith) i / 16);
        source_port = be16 (front_at 0 (omega arith) i) (front_at 1 (omega arith) i);
        destination_port = be16 (front_at 2 (omega arith) i) (front_at 3 (omega arith) i);
        sequence = be32 (front_at 4 (omega arith) i) (front_at 5 (omega arith) i) (front_at 6 (omega arith) i) (front_at 7 (omega arith) i);
        syn = eqb (front_at 13 (omega arith) i / 2 % 2) 1;
        ack = eqb (front_at 13 (omega arith) i / 16 % 2) 1;
        options = options_of (front-area i);
      }
