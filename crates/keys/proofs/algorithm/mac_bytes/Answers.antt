-- The arms of the match are the tests of the definition; the constants are its numbers.
use mathlib.Core.Path.{refl}
use native.Mathlib.Omega.{arith}
use borrow.Author.Tests.{ne_eqb}
use Rattle.keys.specs.Algorithm.{mac_bytes_of}
use Rattle.keys.proofs.algorithm.mac_bytes.Goals as goal

pub returns-in-1 : goal.returns-in-1
unfolding mac_bytes_of
returns-in-1 c = record { number = rw c.in-1.is; first = refl; second = refl; third = refl; md5 = refl }

pub returns-in-2 : goal.returns-in-2
unfolding mac_bytes_of
returns-in-2 c = record { number = rw c.in-2.is; first = refl; second = refl; third = refl; md5 = refl }

pub returns-in-3 : goal.returns-in-3
unfolding mac_bytes_of
returns-in-3 c = record { number = rw c.in-3.is; first = refl; second = refl; third = refl; md5 = refl }

pub returns-in-19 : goal.returns-in-19
unfolding mac_bytes_of
returns-in-19 c = record { number = rw c.in-19.is; first = refl; second = refl; third = refl; md5 = refl }

pub returns-in_default : goal.returns-in_default
unfolding mac_bytes_of
returns-in_default c =
    record { number = rw (ne_eqb c.args.algorithm 1 (λ q. omega arith), ne_eqb c.args.algorithm 2 (λ q. omega arith), ne_eqb c.args.algorithm 3 (λ q. omega arith), ne_eqb c.args.algorithm 19 (λ q. omega arith)); first = refl; second = refl; third = refl; md5 = refl }
