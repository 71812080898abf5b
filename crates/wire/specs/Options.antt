-- What the option area of a TCP header holds: document 01, "The option in a segment".
-- First the area as a list of options, or malformed; then what is asked of the list.
use Rattle.std.specs.Prelude.{ℕ, suc, zero, ◌+◌, ◌-◌, List, [], ◌∷◌, Bool, true, false, cond, Option, Some, None, length, get_or, ltb, eqb}
use Rattle.octets.specs.Tests.{any}
use Rattle.wire.specs.declared.options.Occurrence.{Occurrence}
use Rattle.wire.specs.declared.options.Seen.{Seen}

-- an option of more than one byte: its kind, where it stands in the area, and how many bytes it has
pub record TcpOption : Type 0 where
  pub kind : ℕ
  pub at : ℕ
  pub len : ℕ

pub data Reading : Type 0 where
  malformed : Reading
  options : List TcpOption → Reading

-- an option before the others
abbrev pub more : TcpOption → Reading → Reading
more o malformed = malformed
more o (options l) = options (o ∷ l)

-- the least length: "A length below 2 .. is malformed. So is kind 29 below length 4"
abbrev pub least : ℕ → ℕ
least k = cond (eqb k 29) 4 2

-- "A length below 2, missing, or running past the area": what is wrong with an option of kind k, where r stands behind its kind byte
abbrev pub length_faults_of : ℕ → List ℕ → List Bool
length_faults_of k r =
    eqb (length r) 0
    ∷ ltb (get_or r 0 0) (least k)
    ∷ ltb (1 + length r) (get_or r 0 0)
    ∷ []

-- the options of the bytes s, which start at place `at` of the area, once `skip` bytes of them are passed over:
-- "kinds 0 and 1 take one byte, 0 ends the reading"; the others "are skipped by their length byte", 19 and 29 too
unfoldable pub read_from : (skip at : ℕ) → List ℕ → Reading
read_from skip at [] = options []
read_from (suc skip) at (k ∷ r) = read_from skip (at + 1) r
read_from zero at (k ∷ r) =
    cond (eqb k 0) (options [])
    (cond (eqb k 1) (read_from 0 (at + 1) r)
    (cond (any (length_faults_of k r)) malformed
    (more (record { kind = k; at = at; len = get_or r 0 0 }) (read_from (get_or r 0 0 - 1) (at + 1) r))))

-- the options of kind k
abbrev pub of_kind : ℕ → List TcpOption → List TcpOption
of_kind k [] = []
of_kind k (o ∷ l) = cond (eqb o.kind k) (o ∷ of_kind k l) (of_kind k l)

-- how many there are, where the first stands and how long it is; all 0 where there is none
abbrev pub occurrence : List TcpOption → Occurrence
occurrence [] = record { count = 0; at = 0; len = 0 }
occurrence (o ∷ l) = record { count = 1 + length l; at = o.at; len = o.len }

abbrev pub occurrences : ℕ → List TcpOption → Occurrence
occurrences k l = occurrence (of_kind k l)

-- "19 is TCP MD5, 29 is TCP-AO"
abbrev pub seen : Reading → Option Seen
seen malformed = None
seen (options l) = Some (record { md5 = occurrences 19 l; ao = occurrences 29 l })

unfoldable pub options_of : List ℕ → Option Seen
options_of area = seen (read_from 0 0 area)

-- total readers of the answer, for a list of tests of which only the first that applies counts
abbrev pub is_malformed : Option Seen → Bool
is_malformed None = true
is_malformed (Some e) = false

abbrev pub md5_in : Option Seen → Occurrence
md5_in None = occurrence []
md5_in (Some e) = e.md5

abbrev pub ao_in : Option Seen → Occurrence
ao_in None = occurrence []
ao_in (Some e) = e.ao
