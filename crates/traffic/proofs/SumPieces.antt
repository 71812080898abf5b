-- Sums under way, piece by piece. Assumes nothing.
use Rattle.std.specs.Prelude.{ℕ, ◌≡◌, List, ◌++◌, length}
use Rattle.std.proofs.Common.{ap, ◌∙◌}
use Rattle.checksum.specs.declared.Sum.{Sum}
use Rattle.checksum.specs.Running.{begun, added}
use Rattle.checksum.proofs.ChecksumLaws.{added-append, added-all}
use Rattle.rules.specs.Mac.{pseudo_header}
use Rattle.rules.specs.Checksum.{segment_sum_of}
use Rattle.traffic.specs.Flow.{pseudo_end_of}

-- a pseudo-header's three parts
pub pseudo_added : (source destination : List ℕ) (n : ℕ)
    → added (added (added begun source) destination) (pseudo_end_of (length source) n) ≡ added begun (pseudo_header source destination n)
unfolding pseudo_header
pseudo_added source destination n =
    ap (λ (s : Sum). added s (pseudo_end_of (length source) n)) (added-append begun source destination)
    ∙ added-append begun (source ++ destination) (pseudo_end_of (length source) n)

-- a pseudo-header and the segment behind it
pub segment_added : (source destination s : List ℕ)
    → (added (added begun (pseudo_header source destination (length s))) s).sum ≡ segment_sum_of source destination s
unfolding segment_sum_of
segment_added source destination s =
    let p = pseudo_header source destination (length s) in
    ap (λ (x : Sum). x.sum) (added-append begun p s) ∙ added-all (p ++ s)
