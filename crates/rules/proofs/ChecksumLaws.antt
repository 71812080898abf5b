-- Laws of the checksum between two addresses of one size. Assumes that its field lies inside the segment.
use Rattle.std.specs.Prelude.{ℕ, ◌%◌, ◌<◌, ◌≤◌, ◌≡◌, Bool, true, cond, List, [], ◌∷◌, ◌++◌, length, get_or, take, eqb}
use Rattle.std.proofs.Math.Path.{refl}
use Rattle.std.proofs.Common.{ap, sym, ◌∙◌, arith, take-append-drop, drop-cons}
use Rattle.std.proofs.Math.Bool.{false}
use Rattle.std.proofs.Math.ListN.{length-append}
use borrow.Author.Tests.{eq-eqb}
use Rattle.octets.specs.Octets.{bytes16, bytes32}
use Rattle.checksum.specs.Checksum.{ones_sum, checksum_of, replaced, checksummed}
use Rattle.checksum.specs.Running.{word_sum, after}
use Rattle.checksum.proofs.ChecksumLaws.{length-replaced, replaced-again, sum-append, sum-positive, checksummed-right}
use Rattle.rules.specs.Mac.{pseudo_header}
use Rattle.rules.specs.Checksum.{segment_sum_of, sums_right, with_checksum_of}
use Rattle.rules.specs.Ends.{rechecked, with_ports}
use Rattle.rules.proofs.PortLaws.{ports_of_lem, rechecked-ports, ports-then-checksum}

-- The pseudo-header: an even number of bytes, not all of them zero, since its protocol is 6.

-- what stands behind the addresses, by the family
abbrev behind : Bool → ℕ → List ℕ
behind four n = cond four ((0 ∷ 6 ∷ []) ++ bytes16 n) (bytes32 n ++ (0 ∷ 0 ∷ 0 ∷ 6 ∷ []))

behind-even : (four : Bool) (n : ℕ) → length (behind four n) % 2 ≡ 0
behind-even true n = refl
behind-even false n = refl

behind-positive : (odd four : Bool) (n : ℕ) → 0 < word_sum odd (behind four n)
behind-positive odd true n = sum-positive odd (behind true n) 1 (omega arith)
behind-positive odd false n = sum-positive odd (behind false n) 7 (omega arith)

module _ (source destination : List ℕ) (n : ℕ) where
  pub pseudo-even : length source ≡ length destination → length (pseudo_header source destination n) % 2 ≡ 0
  unfolding pseudo_header
  pseudo-even e =
      let t = behind (eqb (length source) 4) n in
      omega (arith, e, length-append (source ++ destination) t, length-append source destination, behind-even (eqb (length source) 4) n)

  pub pseudo-positive : 0 < word_sum false (pseudo_header source destination n)
  unfolding pseudo_header
  pseudo-positive =
      let t = behind (eqb (length source) 4) n in
      omega (arith, sum-append false (source ++ destination) t, behind-positive (after false (source ++ destination)) (eqb (length source) 4) n)

-- bytes with the checksum that they have
pub rechecked-self : (b : List ℕ) → 18 ≤ length b → rechecked (get_or b 16 0) (get_or b 17 0) b ≡ b
rechecked-self b long =
    ap (λ (l : List ℕ). take 16 b ++ (get_or b 16 0 ∷ l)) (sym (drop-cons b 17 0 (omega arith)))
    ∙ ap (λ (l : List ℕ). take 16 b ++ l) (sym (drop-cons b 16 0 (omega arith))) ∙ take-append-drop 16 b

-- A segment with its checksum written.
module _ (source destination s : List ℕ) (long : 18 ≤ length s) where
  pub length-checked : length (with_checksum_of source destination s) ≡ length s
  unfolding with_checksum_of checksummed
  length-checked =
      length-replaced 16 (bytes16 (checksum_of (pseudo_header source destination (length s) ++ replaced 16 (0 ∷ 0 ∷ []) s))) s (omega arith)

  -- any other checksum in its place
  pub checked-again : (c d : ℕ) → rechecked c d (with_checksum_of source destination s) ≡ rechecked c d s
  unfolding with_checksum_of checksummed
  checked-again c d =
      replaced-again 16 (bytes16 (checksum_of (pseudo_header source destination (length s) ++ replaced 16 (0 ∷ 0 ∷ []) s))) (c ∷ d ∷ []) s
      refl (omega arith)

  -- and any other ports
  pub checked-again-under : (sp dp c d : ℕ)
      → rechecked c d (with_ports sp dp (with_checksum_of source destination s)) ≡ rechecked c d (with_ports sp dp s)
  checked-again-under sp dp c d =
      sym (ports-then-checksum sp dp c d (with_checksum_of source destination s) (omega (arith, length-checked)))
      ∙ ap (with_ports sp dp) (checked-again c d)
      ∙ ports-then-checksum sp dp c d s long

  -- written as a checksum in its place, which leaves the ports
  pub checked-is : let b = with_checksum_of source destination s in b ≡ rechecked (get_or b 16 0) (get_or b 17 0) s
  checked-is =
      let b = with_checksum_of source destination s in
      sym (rechecked-self b (omega (arith, length-checked))) ∙ checked-again (get_or b 16 0) (get_or b 17 0)

  pub checked-ports : ports_of_lem (with_checksum_of source destination s) ≡ ports_of_lem s
  checked-ports =
      let b = with_checksum_of source destination s in
      ap ports_of_lem checked-is ∙ rechecked-ports (get_or b 16 0) (get_or b 17 0) s (omega arith)

  -- Ticket 5: the checksum is right
  pub checked-right : length source ≡ length destination → sums_right source destination (with_checksum_of source destination s) ≡ true
  unfolding segment_sum_of with_checksum_of
  checked-right e =
      let p = pseudo_header source destination (length s) in
      eq-eqb _ 65535
      (ap (λ (n : ℕ). ones_sum (pseudo_header source destination n ++ checksummed 16 p s)) length-checked
      ∙ checksummed-right 16 p s (pseudo-even source destination (length s) e) refl (omega arith)
      (pseudo-positive source destination (length s)))
