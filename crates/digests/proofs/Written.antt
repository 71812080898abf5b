-- What the calls' answers come to: refused, or a digest put at the front of a buffer. Assumes nothing.
use Rattle.std.proofs.Common.{◌≡◌, ℕ, ◌-◌, Bool, false, ◌&&◌, List, ◌++◌, length, replicate, refl, ap, ◌∙◌, arith, append-nil, eq-eqb, ne_eqb}
use Rattle.octets.specs.Octets.{padded_of}
use Rattle.digests.specs.Digests.{sixteen, room, Given, gives, into}

pub refused : (can : Bool) (n : ℕ) (d out : List ℕ) → can ≡ false → gives 0 out ≡ into can n d out
refused can n d out h = rw h refl

-- a digest d of n bytes is what is wanted, e
pub given : (n : ℕ) (d e out : List ℕ) {r : Given} → length d ≡ n → d ≡ e → r ≡ into (room (length d) out) (length d) d out → r ≡ into (room n out) n e out
given n d e out l p h = h ∙ (λ i. into (room (l i) out) (l i) (p i) out)

-- a key or block that has not sixteen bytes decides; one that has leaves it to the rest
pub unsized : (s : List ℕ) (b : Bool) → (length s ≡ 16 → ⊥) → (sixteen s && b) ≡ false
unsized s b h = rw (ne_eqb (length s) 16 h) refl

pub sized : (s : List ℕ) (b c : Bool) → length s ≡ 16 → b ≡ c → (sixteen s && b) ≡ c
sized s b c h e = rw (eq-eqb (length s) 16 h) e

-- sixteen bytes need no padding
pub full : (s : List ℕ) {r : List ℕ} → length s ≡ 16 → r ≡ padded_of 16 s → r ≡ s
full s h e = let z : 16 - length s ≡ 0 = omega arith in e ∙ ap (λ (k : ℕ). s ++ replicate k 0) z ∙ append-nil s
