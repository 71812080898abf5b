-- Where a segment's options lie. Assumes nothing.
use Prim.Native.Nat.{ℕ, ◌+◌, ◌-◌, ◌≤◌}
use mathlib.Core.Path.{◌≡◌, refl, sym, subst}
use mathlib.Core.Bool.{true, false}
use mathlib.Core.List.{List}
use native.Mathlib.Omega.{arith}
use lib.ListN.{length, take, replicate}
use lib.Seq.{take_at}
use Rattle.octets.specs.Octets.{padded_of}
use Rattle.std.specs.Prelude.{Option, Some, None, is_some}
use Rattle.wire.specs.Header.{header_end_of, well_sized_of, area}
use Rattle.wire.specs.HeaderLaws.{sized, area-length}
use Rattle.wire.specs.Options.{options_of, ao_in, md5_in}
use Rattle.wire.specs.OptionPlaceLaws.{found_within}
use Rattle.wire.specs.declared.options.Occurrence.{Occurrence}
use Rattle.wire.specs.declared.options.Seen.{Seen}
use Rattle.rules.specs.Segment.{ao, md5}
use Rattle.checks.specs.Sized.{Whole, Lies}
use Rattle.keys.specs.Table.{nobody, found_of}
use Rattle.keys.specs.declared.table.Hit.{Hit}

-- both options lie in the option area
inside : (s : List ℕ) → ((ao s).at + (ao s).len ≤ length (area s)) × ((md5 s).at + (md5 s).len ≤ length (area s))
inside s = go (options_of (area s)) refl
  where
    go : (x : Option Seen) → options_of (area s) ≡ x
        → ((ao_in x).at + (ao_in x).len ≤ length (area s)) × ((md5_in x).at + (md5_in x).len ≤ length (area s))
    go None e = (omega arith, omega arith)
    go (Some e) q = let f = found_within (area s) e q in (f.1.inside, f.0.inside)

-- The header lies in the segment, and an option in the header; that it has at most 60 bytes is what a byte's range says.
module _ (s : List ℕ) (e : well_sized_of s ≡ true) (h : header_end_of s ≤ 60) where
  pub whole : Whole s
  whole = let z = sized s e in record { low = omega (arith, z.offset); high = h; inside = z.inside; most = z.most }

  lies_in : (o : Occurrence) → o.at + o.len ≤ length (area s) → Lies s o
  lies_in o k = let z = sized s e in record { header = omega (arith, k, area-length s z.inside, z.offset); whole = whole }

  pub lies_ao : {o : Occurrence} → o ≡ ao s → Lies s o
  lies_ao is = subst (λ (x : Occurrence). Lies s x) (sym is) (lies_in (ao s) (inside s).0)

  pub lies_md5 : {o : Occurrence} → o ≡ md5 s → Lies s o
  lies_md5 is = subst (λ (x : Occurrence). Lies s x) (sym is) (lies_in (md5 s) (inside s).1)

-- what a search found is there
nobody_there : nobody.there ≡ false
unfolding nobody
nobody_there = refl

pub there_is : (h : Option Hit) → (found_of h).there ≡ is_some h
there_is None = nobody_there
there_is (Some h) = refl

-- bytes at the front of zeros
pub padded_front : (n : ℕ) (x : List ℕ) → length x ≡ n → take n (padded_of 16 x) ≡ x
padded_front n x e = take_at x (replicate (16 - length x) 0) n e
