-- `position` is the number that document 01's sentence describes: complete, sound, unique. And where it is none, the answer is 28 or 36.
use Rattle.std.specs.Prelude.{ℕ, ◌+◌, ◌-◌, ◌^◌, ◌≤◌, ◌<◌, ◌≡◌, refl, Bool, true, false, ltb, leb, Some, None}
use Rattle.std.proofs.Common.{ap, arith, ltb-true, ltb-false, leb-true, lt-ltb, le-leb}
use Rattle.rules.specs.Position.{wrapping_difference, position, Near, Complete, Sound, Unique}
use Rattle.rules.specs.declared.Connection.{Connection}
use Rattle.rules.specs.Connection.{is_open_of, is_md5_of, place_on_lem}
use Rattle.rules.specs.Answers.{place_answer}
use Rattle.rules.specs.Sentences.{PlaceAnswers}

pub complete : Complete
unfolding position
complete reference s x n = go (ltb (wrapping_difference s reference) (2 ^ 31)) refl
  where
    go : (b : Bool) → ltb (wrapping_difference s reference) (2 ^ 31) ≡ b → position reference s ≡ Some x
    go true e =
        let h : wrapping_difference s reference < 2 ^ 31 = ltb-true _ _ e in
        let q : reference + wrapping_difference s reference ≡ x = omega arith in
        simp (e, lt-ltb _ _ n.fits, q, position)
    go false e =
        let h : 2 ^ 31 ≤ wrapping_difference s reference = ltb-false _ _ e in
        let q : reference + wrapping_difference s reference ≡ x + 2 ^ 32 = omega arith in
        simp (e, lt-ltb (2 ^ 31) (wrapping_difference s reference) (omega arith), le-leb (2 ^ 32 - wrapping_difference s reference) reference (omega arith), position)
        (ap Some (omega arith))

pub sound : Sound
unfolding position
sound reference s x small top p =
    go (ltb d (2 ^ 31)) (ltb (reference + d) (2 ^ 64)) (ltb (2 ^ 31) d) (leb (2 ^ 32 - d) reference) refl refl refl refl
  where
    d : ℕ
    d = wrapping_difference s reference

    go : (b c e f : Bool) → ltb (wrapping_difference s reference) (2 ^ 31) ≡ b → ltb (reference + wrapping_difference s reference) (2 ^ 64) ≡ c
        → ltb (2 ^ 31) (wrapping_difference s reference) ≡ e → leb (2 ^ 32 - wrapping_difference s reference) reference ≡ f → Near reference s x
    go true true e f qb qc qe qf =
        let h : wrapping_difference s reference < 2 ^ 31 = ltb-true _ _ qb in
        let k : reference + wrapping_difference s reference < 2 ^ 64 = ltb-true _ _ qc in
        let q : reference + wrapping_difference s reference ≡ x = cc (simp (qb, qc, position) at p) in
        record { remainder = omega arith; above = omega arith; below = omega arith; fits = omega arith }
    go true false e f qb qc qe qf = let z : ◌≡◌ {A = ℕ} 0 1 = cc (simp (qb, qc, position) at p) in absurd (omega arith)
    go false c true true qb qc qe qf =
        let h : 2 ^ 31 < wrapping_difference s reference = ltb-true _ _ qe in
        let k : 2 ^ 32 - wrapping_difference s reference ≤ reference = leb-true _ _ qf in
        let q : reference + wrapping_difference s reference - 2 ^ 32 ≡ x = cc (simp (qb, qe, qf, position) at p) in
        record { remainder = omega arith; above = omega arith; below = omega arith; fits = omega arith }
    go false c true false qb qc qe qf = let z : ◌≡◌ {A = ℕ} 0 1 = cc (simp (qb, qe, qf, position) at p) in absurd (omega arith)
    go false c false f qb qc qe qf = let z : ◌≡◌ {A = ℕ} 0 1 = cc (simp (qb, qe, position) at p) in absurd (omega arith)

pub unique : Unique
unique reference s x y n m = omega arith

pub place-answer : PlaceAnswers
unfolding place_answer
place-answer n (Some x) = refl
place-answer n None = refl

-- on the MD5 way every segment has its own number as position
pub place-md5 : (l : Connection) (reference s : ℕ) → is_md5_of l ≡ true → place_on_lem l reference s ≡ Some s
place-md5 l reference s way = go (is_open_of l) refl
  where
    go : (b : Bool) → is_open_of l ≡ b → place_on_lem l reference s ≡ Some s
    go true o = rw (o, way)
    go false o = rw o
