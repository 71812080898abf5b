-- A signed header as the code writes it: the option that carries the MAC, by either way, and the bytes in which it is laid out. A reader
-- need not believe these: the calls cite the crate `rules` alone.
use Rattle.std.specs.Prelude.{ℕ, ◌+◌, ◌-◌, ◌*◌, ◌/◌, ◌≤◌, ◌<◌, cond, List, [], ◌∷◌, ◌++◌, length, get_or, replicate}
use Rattle.wire.specs.Header.{header_end_of}
use Rattle.keys.specs.declared.entry.Secret.{Secret}
use Rattle.rules.specs.declared.State.{State}
use Rattle.rules.specs.Segment.{Whole, padding}
use Rattle.rules.specs.Connection.{is_md5_of}

-- an option that carries a MAC: what stands in it before the MAC, how many bytes the MAC has, and how many kind 1 bytes stand behind it
pub record Form : Type 0 where
  pub head : List ℕ
  pub bytes : ℕ
  pub ones : ℕ

-- "KeyID is the outgoing SendID, RNextKeyID the asked RecvID."
abbrev pub ao_form : Secret → State → Form
ao_form e q =
    record {
      head = 29 ∷ (4 + e.mac_bytes) ∷ q.send_id ∷ q.ask_id ∷ [];
      bytes = e.mac_bytes;
      ones = padding e.mac_bytes;
    }

abbrev pub md5_form : Form
md5_form = record { head = 19 ∷ 18 ∷ []; bytes = 16; ones = 2 }

abbrev pub form_of : Secret → State → Form
form_of e q = cond (is_md5_of q.conn) md5_form (ao_form e q)

-- the option with the MAC m, and how many bytes it has
abbrev pub option_with : Form → List ℕ → List ℕ
option_with f m = f.head ++ (m ++ replicate f.ones 1)

abbrev pub added_by : Form → ℕ
added_by f = length f.head + f.bytes + f.ones

-- the header's twenty bytes with w words more and the checksum zero
unfoldable pub fixed_bytes : ℕ → List ℕ → List ℕ
fixed_bytes w h =
    get_or h 0 0 ∷ get_or h 1 0 ∷ get_or h 2 0 ∷ get_or h 3 0 ∷ get_or h 4 0
    ∷ get_or h 5 0 ∷ get_or h 6 0 ∷ get_or h 7 0 ∷ get_or h 8 0 ∷ get_or h 9 0
    ∷ get_or h 10 0 ∷ get_or h 11 0 ∷ (get_or h 12 0 + 16 * w) ∷ get_or h 13 0
    ∷ get_or h 14 0 ∷ get_or h 15 0 ∷ 0 ∷ 0 ∷ get_or h 18 0 ∷ get_or h 19 0
    ∷ []

-- and the first four of an option
unfoldable pub head_bytes : ℕ → ℕ → ℕ → ℕ → ℕ → List ℕ → List ℕ
head_bytes w kind len third fourth h = fixed_bytes w h ++ (kind ∷ len ∷ third ∷ fourth ∷ [])

-- an option of len bytes with zeros behind its first four, padded by kind 1 bytes to so many
abbrev pub blank_option : ℕ → ℕ → ℕ → ℕ → ℕ → List ℕ
blank_option kind len third fourth added =
    (kind ∷ len ∷ third ∷ fourth ∷ replicate (len - 4) 0) ++ replicate (added - len) 1

-- a header that has room for an option of len bytes, padded to so many
pub record Room (h : List ℕ) (added len : ℕ) : Type 0 where
  pub low : 20 ≤ length h
  pub long : length h + added ≤ 60
  pub words : get_or h 12 0 + 16 * (added / 4) < 256
  pub least : 4 ≤ len
  pub fits : len ≤ added
  pub near : added ≤ len + 3
  pub whole : Whole added

-- what the tests 30, 32 and 35 leave of a segment and the option that signs it
pub record Signable (s : List ℕ) (f : Form) : Type 0 where
  pub low : 20 ≤ header_end_of s
  pub inside : header_end_of s ≤ length s
  pub header : header_end_of s + added_by f ≤ 60
  pub short : f.bytes ≤ 16
  pub whole : Whole (added_by f)
