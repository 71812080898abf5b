-- Laws for reading an entry's bytes: how long they are, the part of a table that begins with them, and an array that some were copied into.
use Prim.Native.Nat.{ℕ, zero, suc, ◌+◌, ◌*◌, ◌-◌, ◌/◌, ◌%◌, ◌^◌, ◌<◌, ◌≤◌}
use mathlib.Core.Path.{◌≡◌, refl, sym, ap, ◌∙◌}
use mathlib.Core.List.{List, [], ◌∷◌, ◌++◌}
use native.Mathlib.Omega.{arith}
use lib.ListN.{length, get_or, take, drop, replicate, length-drop}
use Rattle.std.proofs.Common.{take_all}
use borrow.Author.Tests.{eq-eqb, ne_eqb}
use Rattle.wire.specs.Prefix.{agree}
use Rattle.wire.specs.PrefixLaws.{agree-take, agree-by}
use Rattle.keys.specs.Algorithm.{mac_bytes_of}
use Rattle.keys.specs.Entry.{family_of_lem, extra, body, width, padded, sides_end_of, mac_length_of}
use Rattle.keys.proofs.EntryLaws.{width-le, width-ge, body_is}

-- the part of some bytes from `at` on, as the code cuts it
abbrev pub tail : List ℕ → ℕ → List ℕ
tail t at = take (length t - at) (drop at t)

pub tail-is : (t : List ℕ) (at : ℕ) → tail t at ≡ drop at t
tail-is t at = take_all (length t - at) (drop at t) (let l = length-drop at t in omega arith)

pub width-by : (f w : ℕ) → w ≡ width f → w ≤ 16
width-by f w e = let a = width-le f in omega arith

-- an entry of kind k that is there whole, of n bytes or more: where its sides end, `at` more bytes and the key
pub room : (k n : ℕ) → body k < n → (103 ≤ n) × (sides_end_of k + extra k + 81 ≤ n) × (sides_end_of k + extra k ≤ 48)
unfolding extra
room k n h = let b = body_is k in let w = width-le (family_of_lem k) in let v = width-ge (family_of_lem k) in (omega arith, omega arith, omega arith)

-- and its addresses have w bytes
pub sides-room : (k f w n : ℕ) → f ≡ family_of_lem k → w ≡ width f → body k < n → (w ≤ 16) × (96 + 2 * w ≤ n)
sides-room k f w n fe we h =
    let e : w ≡ width (family_of_lem k) = we ∙ ap width fe in
    let a = room k n h in
    (width-by f w we, omega arith)

-- the byte of the MAC's length, and where there is none
pub mac-named : (k : ℕ) (e : List ℕ) (x at : ℕ) → x ≡ extra k → x ≡ 1 → at ≡ sides_end_of k → get_or e at 0 ≡ mac_length_of k e
unfolding mac_length_of
mac-named k e x at xe h q = rw (eq-eqb (extra k) 1 (sym xe ∙ h)) (ap (λ (i : ℕ). get_or e i 0) q)

pub mac-unnamed : (k : ℕ) (e : List ℕ) (x m : ℕ) → x ≡ extra k → (x ≡ 1 → ⊥) → m ≡ mac_bytes_of (get_or e 2 0) → m ≡ mac_length_of k e
unfolding mac_length_of
mac-unnamed k e x m xe h q = rw (ne_eqb (extra k) 1 (λ z. h (xe ∙ z))) q

abbrev blank : ℕ → List ℕ
blank n = replicate n 0

zero-at : (m i : ℕ) → get_or (blank m) i 0 ≡ 0
zero-at zero i = refl
zero-at (suc m) zero = refl
zero-at (suc m) (suc i) = zero-at m i

padded-at : (s : List ℕ) (m i : ℕ) → get_or (s ++ blank m) i 0 ≡ get_or s i 0
padded-at [] m i = zero-at m i
padded-at (x ∷ s) m zero = refl
padded-at (x ∷ s) m (suc i) = padded-at s m i

-- n bits of the bytes from `at` on, against n bits of the w of them that an entry's address has
pub agree-padded : (e x : List ℕ) (at w n : ℕ) → n ≤ 8 * w → agree n (tail e at) x ≡ agree n (padded (take w (drop at e))) x
agree-padded e x at w n h =
    let s = take w (drop at e) in
    ap (λ (a : List ℕ). agree n a x) (tail-is e at)
    ∙ sym (agree-take n w (drop at e) x h)
    ∙ agree-by n s (padded s) x (λ i l. ap (λ (b : ℕ). b / 2 ^ (7 - i % 8) % 2) (sym (padded-at s (16 - length s) (i / 8))))
