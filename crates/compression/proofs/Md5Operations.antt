-- MD5's operations, as src/md5.rt comes to them: RFC 1321 §3.4. Assumes nothing.
use Rattle.std.proofs.Common.{◌≡◌, ℕ, zero, suc, ◌+◌, ◌-◌, ◌*◌, ◌/◌, ◌%◌, ◌<◌, ◌≤◌, List, get_or, sym, ap, ◌∙◌, arith}
use Rattle.compression.specs.Schedule.{rounds, rounds_in}
use Rattle.compression.specs.TableLaws.{each, get_d_map}
use Rattle.compression.specs.Md5Block.{places, place_of, round_shifts, shift_of, round_function, function_of}
use Rattle.compression.specs.Md5Block.{step, taken, registers, sum4, compress_words}
use Rattle.compression.proofs.RoundLaws.{rounds-on, in-same}

-- The function, the place and the shift of operation t, by its round.
pub function-in : (t q r x y z : ℕ) → t / 16 ≡ q → r ≡ round_function q x y z → r ≡ function_of t x y z
unfolding function_of
function-in t q r x y z e er = er ∙ ap (λ (n : ℕ). round_function n x y z) (sym e)

abbrev pub round_place : ℕ → ℕ → ℕ
round_place zero t = t
round_place (suc zero) t = (5 * t + 1) % 16
round_place (suc (suc zero)) t = (3 * t + 5) % 16
round_place (suc (suc (suc q))) t = 7 * t % 16

pub place_in : (t q : ℕ) → t < 64 → t / 16 ≡ q → round_place q t ≡ place_of t
unfolding places
place_in t q h e = ap (λ (n : ℕ). round_place n t) (sym e) ∙ each (λ n. round_place (n / 16) n) place_of 64 tt t h

-- (one computed test: 1 to 31)
shift-range : (t : ℕ) → t < 64 → (shift_of t - 1) % 31 + 1 ≡ shift_of t
unfolding shift_of
shift-range = each (λ t. (shift_of t - 1) % 31 + 1) shift_of 64 tt

pub shift_in : (t q r : ℕ) → t < 64 → t / 16 ≡ q → r ≡ get_or (round_shifts q) (t % 4) 0 → (r ≡ shift_of t) × (0 < r) × (r < 32)
unfolding shift_of
shift_in t q r h e er =
    let s : r ≡ shift_of t = er ∙ ap (λ (n : ℕ). get_or (round_shifts n) (t % 4) 0) (sym e) in
    let k = shift-range t h in
    (s, omega (arith, s, k), omega (arith, s, k))

-- the operations with the words that the document lists for them
listed : (t n : ℕ) (X s : List ℕ) → t + n ≤ 64 → rounds_in step place_of t n X s ≡ rounds step t n (taken X) s
unfolding places
listed t n X s h = in-same step place_of t n X (taken X) s (λ i l. sym (get_d_map 0 (λ j. get_or X j 0) places (t + i) (omega arith)))

-- The whole block.
pub compressed : (h X s0 s1 s2 s3 r : List ℕ) → s0 ≡ rounds_in step place_of 0 16 X (registers h) → s1 ≡ rounds_in step place_of 16 16 X s0
    → s2 ≡ rounds_in step place_of 32 16 X s1 → s3 ≡ rounds_in step place_of 48 16 X s2 → r ≡ sum4 h s3 → r ≡ compress_words h X
unfolding compress_words
compressed h X s0 s1 s2 s3 r e0 e1 e2 e3 er =
    let W : List ℕ = taken X in
    let v : List ℕ = registers h in
    let g0 : s0 ≡ rounds step 0 16 W v = e0 ∙ listed 0 16 X v (omega arith) in
    let g1 : s1 ≡ rounds step 0 32 W v = e1 ∙ listed 16 16 X s0 (omega arith) ∙ ap (rounds step 16 16 W) g0 ∙ rounds-on step 0 16 16 W v in
    let g2 : s2 ≡ rounds step 0 48 W v = e2 ∙ listed 32 16 X s1 (omega arith) ∙ ap (rounds step 32 16 W) g1 ∙ rounds-on step 0 32 16 W v in
    let g3 : s3 ≡ rounds step 0 64 W v = e3 ∙ listed 48 16 X s2 (omega arith) ∙ ap (rounds step 48 16 W) g2 ∙ rounds-on step 0 48 16 W v in
    er ∙ ap (sum4 h) g3
