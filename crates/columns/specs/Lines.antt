-- A text in lines, and a line in columns with one space between. Assumes nothing.
use Rattle.std.specs.Prelude.{ℕ, zero, suc, Bool, false, cond, List, [], ◌∷◌, length, take, drop, ◌==◌, slice_index}

-- how many bytes stand before the first b, or in all where there is none
unfoldable pub before : ℕ → List ℕ → ℕ
before b [] = zero
before b (x ∷ s) = cond (x == b) zero (suc (before b s))

-- the line that begins at a place; empty where the text has ended
unfoldable pub line_at : ℕ → List ℕ → List ℕ
line_at at s = take (before 10 (drop at s)) (drop at s)

-- column k of a line, counted from 0; empty where the line has fewer
unfoldable pub column : ℕ → List ℕ → List ℕ
column zero s = take (before 32 s) s
column (suc k) s = column k (drop (suc (before 32 s)) s)

-- a line that begins with '#'
abbrev pub is_remark_of : List ℕ → Bool
is_remark_of l = cond (length l == 0) false (slice_index l 0 == 35)
