-- SHA-1's schedule and rounds, as src/sha1.rt comes to them: FIPS 180-4 §6.1.2 with sixteen words of the schedule. Assumes nothing.
use Rattle.std.proofs.Common.{◌≡◌, ℕ, ◌%◌, refl, ◌/◌, List, length, get_or, sym, ap, ◌∙◌, arith}
use lib.Bits.{bit_xor}
use Rattle.compression.specs.Words.{ROTL}
use Rattle.compression.specs.Schedule.{extended, following, rounds, rounds_in}
use Rattle.compression.specs.Sha1Block.{quarter_f, quarter_k, f, K, next, schedule, variables, round, step, sum5, compress_words}
use Rattle.compression.proofs.Ring.{Mix, From, from_first, from_next}
use Rattle.compression.proofs.RoundLaws.{rounds-none, sixteen-more}

-- f_t and K_t by the quarter of t.
pub function-in : (t q F x y z : ℕ) → t / 20 ≡ q → F ≡ quarter_f q x y z → F ≡ f t x y z
unfolding f
function-in t q F x y z e ef = ef ∙ ap (λ (n : ℕ). quarter_f n x y z) (sym e)

pub constant-in : (t q : ℕ) → t / 20 ≡ q → quarter_k q ≡ K t
unfolding K
constant-in t q e = ap quarter_k (sym e)

-- a round with the values of f_t and K_t is round t
pub stepped : (t F k w : ℕ) (s r : List ℕ) → F ≡ f t (get_or s 1 0) (get_or s 2 0) (get_or s 3 0) → k ≡ K t → r ≡ round F k w s → r ≡ step t w s
stepped t F k w s r ef ek er = er ∙ (λ i. round (ef i) (ek i) w s)

-- the mix of the schedule
abbrev pub S : Mix
S = record {
  mix = λ x y z u. ROTL 1 (bit_xor (bit_xor (bit_xor x y) z) u);
  a = 3;
  b = 8;
  c = 14;
  a-near = (omega arith, omega arith);
  b-near = (omega arith, omega arith);
  c-near = (omega arith, omega arith);
}

-- The whole block.
pub compressed : (h w0 w1 w2 w3 w4 s0 s1 s2 s3 s4 r : List ℕ) → length w0 ≡ 16
    → w1 ≡ following next w0 → w2 ≡ following next w1 → w3 ≡ following next w2 → w4 ≡ following next w3
    → s0 ≡ rounds_in step (λ t. t % 16) 0 16 w0 (variables h) → s1 ≡ rounds_in step (λ t. t % 16) 16 16 w1 s0
    → s2 ≡ rounds_in step (λ t. t % 16) 32 16 w2 s1 → s3 ≡ rounds_in step (λ t. t % 16) 48 16 w3 s2
    → s4 ≡ rounds_in step (λ t. t % 16) 64 16 w4 s3 → r ≡ sum5 h s4 → r ≡ compress_words h w0
unfolding compress_words schedule
compressed h w0 w1 w2 w3 w4 s0 s1 s2 s3 s4 r l e1 e2 e3 e4 f0 f1 f2 f3 f4 er =
    let W : List ℕ = extended next 64 w0 in
    let v : List ℕ = variables h in
    let p0 : From S 0 64 w0 W = from_first S 64 w0 l in
    let p1 : From S 16 48 w1 W = from_next S 0 48 w0 w1 W p0 e1 in
    let p2 : From S 32 32 w2 W = from_next S 16 32 w1 w2 W p1 e2 in
    let p3 : From S 48 16 w3 W = from_next S 32 16 w2 w3 W p2 e3 in
    let p4 : From S 64 0 w4 W = from_next S 48 0 w3 w4 W p3 e4 in
    let g0 : s0 ≡ rounds step 0 16 W v = sixteen-more step S 0 0 64 w0 W v v s0 refl p0 (rounds-none step 0 W v) f0 in
    let g1 : s1 ≡ rounds step 0 32 W v = sixteen-more step S 16 1 48 w1 W v s0 s1 refl p1 g0 f1 in
    let g2 : s2 ≡ rounds step 0 48 W v = sixteen-more step S 32 2 32 w2 W v s1 s2 refl p2 g1 f2 in
    let g3 : s3 ≡ rounds step 0 64 W v = sixteen-more step S 48 3 16 w3 W v s2 s3 refl p3 g2 f3 in
    let g4 : s4 ≡ rounds step 0 80 W v = sixteen-more step S 64 4 0 w4 W v s3 s4 refl p4 g3 f4 in
    er ∙ ap (sum5 h) g4
