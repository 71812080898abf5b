-- What is known of a segment that 20 lets through, and of an option in it. A reader need not believe these: they follow of
-- `well_sized_of`, and the calls cite the crate `rules` alone.
use Rattle.std.specs.Prelude.{ℕ, ◌+◌, ◌≤◌, List, length}
use Rattle.wire.specs.Header.{header_end_of}
use Rattle.wire.specs.declared.options.Occurrence.{Occurrence}

-- its header has 20 to 60 bytes and lies inside it
pub record Whole (s : List ℕ) : Type 0 where
  pub low : 20 ≤ header_end_of s
  pub high : header_end_of s ≤ 60
  pub inside : header_end_of s ≤ length s
  pub most : length s ≤ 65535

-- and the option lies in the header
pub record Lies (s : List ℕ) (o : Occurrence) : Type 0 where
  pub header : 20 + o.at + o.len ≤ header_end_of s
  pub whole : Whole s
