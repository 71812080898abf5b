-- SHA-256's schedule and rounds, as src/sha256.rt comes to them: FIPS 180-4 §6.2.2 with sixteen words of the schedule. Assumes nothing.
use Rattle.std.proofs.Common.{◌≡◌, ℕ, ◌%◌, refl, List, length, get_or, ap, ◌∙◌, arith}
use Rattle.compression.specs.Words.{add32}
use Rattle.compression.specs.Schedule.{extended, following, rounds, rounds_in}
use Rattle.compression.specs.Sha256Block.{sigma0, sigma1, constants, next, schedule, variables, round, step, sum8, compress_words}
use Rattle.compression.proofs.Ring.{Mix, From, from_first, from_next}
use Rattle.compression.proofs.RoundLaws.{rounds-none, sixteen-more}

-- a round with the constant in place t is round t
pub stepped : (t w : ℕ) (k s r : List ℕ) → k ≡ constants → r ≡ round (get_or k t 0) w s → r ≡ step t w s
stepped t w k s r ek er = er ∙ ap (λ (l : List ℕ). round (get_or l t 0) w s) ek

-- the mix of the schedule
abbrev pub S : Mix
S = record {
  mix = λ x y z u. add32 (add32 (add32 (sigma1 x) y) (sigma0 z)) u;
  a = 2;
  b = 7;
  c = 15;
  a-near = (omega arith, omega arith);
  b-near = (omega arith, omega arith);
  c-near = (omega arith, omega arith);
}

-- The whole block.
pub compressed : (h w0 w1 w2 w3 s0 s1 s2 s3 r : List ℕ) → length w0 ≡ 16
    → w1 ≡ following next w0 → w2 ≡ following next w1 → w3 ≡ following next w2
    → s0 ≡ rounds_in step (λ t. t % 16) 0 16 w0 (variables h) → s1 ≡ rounds_in step (λ t. t % 16) 16 16 w1 s0
    → s2 ≡ rounds_in step (λ t. t % 16) 32 16 w2 s1 → s3 ≡ rounds_in step (λ t. t % 16) 48 16 w3 s2
    → r ≡ sum8 h s3 → r ≡ compress_words h w0
unfolding compress_words schedule
compressed h w0 w1 w2 w3 s0 s1 s2 s3 r l e1 e2 e3 f0 f1 f2 f3 er =
    let W : List ℕ = extended next 48 w0 in
    let v : List ℕ = variables h in
    let p0 : From S 0 48 w0 W = from_first S 48 w0 l in
    let p1 : From S 16 32 w1 W = from_next S 0 32 w0 w1 W p0 e1 in
    let p2 : From S 32 16 w2 W = from_next S 16 16 w1 w2 W p1 e2 in
    let p3 : From S 48 0 w3 W = from_next S 32 0 w2 w3 W p2 e3 in
    let g0 : s0 ≡ rounds step 0 16 W v = sixteen-more step S 0 0 48 w0 W v v s0 refl p0 (rounds-none step 0 W v) f0 in
    let g1 : s1 ≡ rounds step 0 32 W v = sixteen-more step S 16 1 32 w1 W v s0 s1 refl p1 g0 f1 in
    let g2 : s2 ≡ rounds step 0 48 W v = sixteen-more step S 32 2 16 w2 W v s1 s2 refl p2 g1 f2 in
    let g3 : s3 ≡ rounds step 0 64 W v = sixteen-more step S 48 3 0 w3 W v s2 s3 refl p3 g2 f3 in
    er ∙ ap (sum8 h) g3
