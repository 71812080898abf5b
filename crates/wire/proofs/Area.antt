-- The option area as `options::of_segment` cuts it: the segment may end before the header does.
-- Assumes nothing.
use Prim.Native.Nat.{ℕ, ◌-◌, ◌<◌, min}
use mathlib.Core.Bool.{Bool, true, false}
use mathlib.Core.Path.{◌≡◌, refl, sym, ap, ◌∙◌}
use Rattle.std.specs.Prelude.{Some}
use mathlib.Core.List.{List, []}
use lib.ListN.{length, take, drop, length-drop}
use lib.Seq.{take_all}
use lib.Dec.{leb}
use native.Mathlib.Omega.{arith}
use borrow.Author.Tests.{leb-true, leb-false}
use Rattle.wire.specs.Options.{read_from, options_of}
use Rattle.wire.specs.Header.{header_end_of, area}
use Rattle.wire.proofs.Reading.{Nothing, nothing}
use Rattle.wire.specs.declared.options.Seen.{Seen}

-- h is the header's end by the data offset, e the smaller of it and the segment's length
cut : (s : List ℕ) (e h : ℕ) → e ≡ min h (length s) → take (e - 20) (drop 20 s) ≡ take (h - 20) (drop 20 s)
cut s e h q = go (leb h (length s)) refl where
  go : (t : Bool) → leb h (length s) ≡ t → take (e - 20) (drop 20 s) ≡ take (h - 20) (drop 20 s)
  go true l = let k = leb-true h (length s) l in let p : e ≡ h = omega arith in ap (λ (n : ℕ). take (n - 20) (drop 20 s)) p
  go false l =
      let k = leb-false h (length s) l in
      let d = length-drop 20 s in
      take_all (e - 20) (drop 20 s) (omega arith) ∙ sym (take_all (h - 20) (drop 20 s) (omega arith))

short : (s : List ℕ) (e : ℕ) → e < 20 → take (e - 20) (drop 20 s) ≡ []
short s e h = let z : e - 20 ≡ 0 = omega arith in ap (λ (n : ℕ). take n (drop 20 s)) z

pub no-options : (s : List ℕ) (e : ℕ) (x : Seen) → e ≡ min (header_end_of s) (length s) → e < 20 → Nothing x.md5 × Nothing x.ao → Some x ≡ options_of (area s)
unfolding options_of read_from
no-options s e x q l f =
    (λ i. Some (record { md5 = nothing x.md5 f.0 i; ao = nothing x.ao f.1 i })) ∙ sym (ap options_of (short s e l)) ∙ ap options_of (cut s e (header_end_of s) q)
