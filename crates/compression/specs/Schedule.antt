-- The message schedule and the rounds of FIPS 180-4 §6.1.2 and §6.2.2, over a hash's own rule for the next word and its own round. MD5's
-- operations (RFC 1321 §3.4) are rounds too, of the words in the order in which they take them.
-- Assumes nothing.
use Rattle.std.specs.Prelude.{ℕ, zero, suc, ◌+◌, List, [], ◌∷◌, ◌++◌, drop, slice_index}

-- Step 1: the n words that follow the first sixteen, behind these, where `next W t` is W_t of the words before it
unfoldable pub extended : (List ℕ → ℕ → ℕ) → ℕ → List ℕ → List ℕ
extended next zero W = W
extended next (suc n) W = extended next n W ++ (next (extended next n W) (16 + n) ∷ [])

-- Step 3: the n rounds from round t on, with the words W, where `round t w s` is round t of the word w and the working variables s
unfoldable pub rounds : (ℕ → ℕ → List ℕ → List ℕ) → ℕ → ℕ → List ℕ → List ℕ → List ℕ
rounds round t zero W s = s
rounds round t (suc n) W s = round (t + n) (slice_index W (t + n)) (rounds round t n W s)

-- The same where sixteen words w are there and round t takes the one in place `place t`: of the SHAs t % 16, as w is renewed each sixteen
-- rounds (below); of MD5 the one that it lists
unfoldable pub rounds_in : (ℕ → ℕ → List ℕ → List ℕ) → (ℕ → ℕ) → ℕ → ℕ → List ℕ → List ℕ → List ℕ
rounds_in round place t zero w s = s
rounds_in round place t (suc n) w s = round (t + n) (slice_index w (place (t + n))) (rounds_in round place t n w s)

-- Sixteen words of the schedule are enough, §6.1.3: the sixteen that follow W; and on the way to them sixteen places, of which those before
-- place i hold the words that follow W, the others still W's own.
abbrev pub following : (List ℕ → ℕ → ℕ) → List ℕ → List ℕ
following next W = drop 16 (extended next 16 W)

abbrev pub ring : (List ℕ → ℕ → ℕ) → ℕ → List ℕ → List ℕ
ring next i W = drop 16 (extended next i W) ++ drop i W
