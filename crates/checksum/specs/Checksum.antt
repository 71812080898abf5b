-- The Internet checksum of a list of octets, in the words of RFC 1071 §1. Document 02, Ticket 5: "the right TCP checksum over the
-- pseudo-header, for both families and odd lengths", and "one's complement sum, pseudo-header and checksum included".
-- Assumes nothing: of a number that is no octet, its low eight bits count.
use Rattle.std.specs.Prelude.{ℕ, ◌+◌, ◌-◌, ◌/◌, ◌%◌, ◌^◌, List, [], ◌∷◌, ◌++◌, length, take, drop}
use Rattle.octets.specs.Octets.{be16, bytes16}

-- "Adjacent octets to be checksummed are paired to form 16-bit integers"
abbrev pub word : ℕ → ℕ → ℕ
word a b = be16 (a % 256) (b % 256)

-- one addition of the 1's complement sum, by "an 'end around carry', i.e., any overflows from the most significant bits are added into
-- the least significant bits"
abbrev pub ones_add : ℕ → ℕ → ℕ
ones_add x y = (x + y) % 2 ^ 16 + (x + y) / 2 ^ 16

-- "and the 1's complement sum of these 16-bit integers is formed": [A,B] +' [C,D] +' .. +' [Y,Z], or [Z,0] where the count is odd
unfoldable pub ones_sum : List ℕ → ℕ
ones_sum [] = 0
ones_sum (z ∷ []) = word z 0
ones_sum (a ∷ b ∷ l) = ones_add (word a b) (ones_sum l)

-- the 1's complement of 16 bits
abbrev pub complement : ℕ → ℕ
complement x = 2 ^ 16 - 1 - x

-- "the 16-bit 1's complement sum is computed over the octets concerned, and the 1's complement of this sum is placed in the checksum
-- field". Of a sum FFFF that is 0000: the rule that writes FFFF in its place is UDP's, not TCP's.
unfoldable pub checksum_of : List ℕ → ℕ
checksum_of l = complement (ones_sum l)

-- octets in the place of as many others, from `at` on
abbrev pub replaced : ℕ → List ℕ → List ℕ → List ℕ
replaced at l s = take at s ++ (l ++ drop (at + length l) s)

-- "To generate a checksum, the checksum field itself is cleared", then the checksum is placed in it: the field at a place of s, where
-- octets stand before s that count and are not sent, the pseudo-header
unfoldable pub checksummed : ℕ → List ℕ → List ℕ → List ℕ
checksummed at before s = replaced at (bytes16 (checksum_of (before ++ replaced at (0 ∷ 0 ∷ []) s))) s
