-- The TCP checksum: document 02, Ticket 5, over document 01's pseudo-header. RFC 1071's sum is the crate `checksum`'s.
use Rattle.std.specs.Prelude.{ℕ, Bool, List, ◌++◌, length, eqb}
use Rattle.checksum.specs.Checksum.{ones_sum, checksummed}
use Rattle.rules.specs.Mac.{pseudo_header}

-- a segment's "one's complement sum, pseudo-header and checksum included", between two addresses
unfoldable pub segment_sum_of : List ℕ → List ℕ → List ℕ → ℕ
segment_sum_of source destination s = ones_sum (pseudo_header source destination (length s) ++ s)

-- it "is .. FFFF"
abbrev pub sums_right : List ℕ → List ℕ → List ℕ → Bool
sums_right source destination s = eqb (segment_sum_of source destination s) 0xFFFF

-- "The signer now writes the right TCP checksum over the pseudo-header, for both families and odd lengths": at byte 16
unfoldable pub with_checksum_of : List ℕ → List ℕ → List ℕ → List ℕ
with_checksum_of source destination s = checksummed 16 (pseudo_header source destination (length s)) s
