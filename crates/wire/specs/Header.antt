-- The header of a TCP segment (RFC 793, section 3.1), over any bytes: one that is not there counts as 0.
-- Document 01, "The option in a segment".
use Rattle.std.specs.Prelude.{ℕ, ◌*◌, ◌-◌, ◌/◌, ◌%◌, Bool, not, List, [], ◌∷◌, length, get_or, take, drop, ltb, eqb}
use Rattle.octets.specs.Octets.{get16, get32}
use Rattle.octets.specs.Tests.{any}
use Rattle.wire.specs.Options.{options_of}
use Rattle.wire.specs.declared.header.Header.{Header}

abbrev pub source_port_of : List ℕ → ℕ
source_port_of s = get16 s 0

abbrev pub destination_port_of : List ℕ → ℕ
destination_port_of s = get16 s 2

abbrev pub sequence : List ℕ → ℕ
sequence s = get32 s 4

-- the data offset in words: the high four bits of byte 12, so at most 15
abbrev pub data_offset_of : List ℕ → ℕ
data_offset_of s = get_or s 12 0 / 16

-- where the header ends, in bytes
abbrev pub header_end_of : List ℕ → ℕ
header_end_of s = 4 * data_offset_of s

-- the flags SYN and ACK of byte 13
abbrev pub syn : List ℕ → Bool
syn s = eqb (get_or s 13 0 / 2 % 2) 1

abbrev pub ack : List ℕ → Bool
ack s = eqb (get_or s 13 0 / 16 % 2) 1

-- "A segment has 20 to 65,535 bytes. The data offset is 5 to 15 words and its header lies inside the segment": what is wrong, one test to
-- a line
abbrev pub size_faults : List ℕ → List Bool
size_faults s =
    ltb (length s) 20
    ∷ ltb 65535 (length s)
    ∷ ltb (data_offset_of s) 5
    ∷ ltb (length s) (header_end_of s)
    ∷ []

abbrev pub well_sized_of : List ℕ → Bool
well_sized_of s = not (any (size_faults s))

-- "The option area is read as the part from byte 20 to the header's end"
abbrev pub area : List ℕ → List ℕ
area s = take (header_end_of s - 20) (drop 20 s)

-- all of it, of a segment of n bytes
abbrev pub header_of_lem : ℕ → List ℕ → Header
header_of_lem n s =
    record {
      len = n;
      end = header_end_of s;
      source_port = source_port_of s;
      destination_port = destination_port_of s;
      sequence = sequence s;
      syn = syn s;
      ack = ack s;
      options = options_of (area s);
    }
