-- Bytes at the front of an array, with zeros behind them: how the array comes back from the bytes alone. Assumes nothing.
use Rattle.std.specs.Prelude.{ℕ, ◌≡◌, ◌-◌, ◌≤◌, List, ◌++◌, length, take, drop, replicate}
use Rattle.std.proofs.Common.{ap, ◌∙◌, sym, arith}
use Rattle.std.proofs.lemmas.List.{length-take-le, take-append-drop}
use Rattle.octets.specs.Octets.{padded_of}

pub length-back : (m n : ℕ) (b : List ℕ) → n ≤ m → length b ≡ m → length (take n b) ≡ n
length-back m n b h e = length-take-le n b (omega (arith, h, e))

pub padded-back : (m n : ℕ) (b : List ℕ) → n ≤ m → length b ≡ m → drop n b ≡ replicate (m - n) 0 → padded_of m (take n b) ≡ b
padded-back m n b h e z =
    ap (λ (k : ℕ). take n b ++ replicate (m - k) 0) (length-back m n b h e) ∙ ap (λ (x : List ℕ). take n b ++ x) (sym z)
    ∙ take-append-drop n b
