-- A sum under way: of octets that come in pieces, wherever they are cut. Working definitions; ChecksumLaws ties them to RFC 1071's.
-- Assumes nothing.
use Rattle.std.specs.Prelude.{ℕ, ◌+◌, ◌*◌, ◌-◌, ◌%◌, ◌<◌, ◌≡◌, Bool, true, false, cond, List, [], ◌∷◌, eqb}
use Rattle.checksum.specs.declared.Sum.{Sum}

-- the plain sum of the words of a piece, no carry brought back. `odd`: the piece begins with a word's second octet
unfoldable pub word_sum : Bool → List ℕ → ℕ
word_sum odd [] = 0
word_sum false (b ∷ l) = b % 256 * 256 + word_sum true l
word_sum true (b ∷ l) = b % 256 + word_sum false l

-- whether a piece that begins so ends inside a word
unfoldable pub after : Bool → List ℕ → Bool
after odd [] = odd
after false (b ∷ l) = after true l
after true (b ∷ l) = after false l

-- a plain sum with all its carries brought back: FFFF is the other zero of one's complement, and 0 comes of zeros alone
unfoldable pub folded : ℕ → ℕ
folded n = cond (eqb n 0) 0 (1 + (n - 1) % 65535)

-- r stands for the plain sum n: it folds to the same, and lies below a bound, so that further additions fit
pub record Congruent (n bound r : ℕ) : Type 0 where
  pub same : folded r ≡ folded n
  pub low : r < bound

-- no octet yet
abbrev pub begun : Sum
begun = record { sum = 0; odd = false }

-- one piece more
abbrev pub added : Sum → List ℕ → Sum
added s l = record { sum = folded (s.sum + word_sum s.odd l); odd = after s.odd l }

-- a last odd octet followed by a zero: what comes next begins a word
abbrev pub padded : Sum → Sum
padded s = record { sum = s.sum; odd = false }
