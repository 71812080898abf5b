-- Pieces of lists: bytes made zero in a list's first bytes, its first bytes among others, and a write in front of zeros. Assumes nothing.
use Rattle.std.proofs.Common.{ℕ, ◌≡◌, ◌+◌, ◌-◌, ◌≤◌, List, ◌++◌, length, take, drop, sym, ap, ◌∙◌, arith}
use Rattle.std.proofs.Common.{length-append, length-take, length-drop}
use Rattle.std.specs.Prelude.{replicate}
use Rattle.std.proofs.Math.Seq.{take-append-add, drop-drop}
use Rattle.std.proofs.lemmas.List.{take-take, drop-take, length-take-le, length-replicate, drop-replicate}
use Rattle.std.proofs.lemmas.Slice.{drop-put_mid}
use Rattle.rules.specs.Mac.{blank}

-- the first m bytes, of which n from i on are made zero: by zeros z in the whole
blank-zeros : (i n m : ℕ) (l : List ℕ) → i + n ≤ m → m ≤ length l
    → take m (take i l ++ (replicate n 0 ++ drop (i + n) l)) ≡ blank i n (take m l)
blank-zeros i n m l low high =
    let k : ℕ = m - (i + n) in
    let zeros : List ℕ = replicate n 0 in
    let whole : m ≡ i + (n + k) = omega arith in
    let split : m ≡ i + n + k = omega arith in
    let rest : List ℕ = drop (i + n) l in
    let li : length (take i l) ≡ i = length-take-le i l (omega arith) in
    let ln : length zeros ≡ n = length-replicate {A = ℕ} n 0 in
    let one : take (i + (n + k)) (take i l ++ (zeros ++ rest)) ≡ take i l ++ take (n + k) (zeros ++ rest) =
    ap (λ (j : ℕ). take (j + (n + k)) (take i l ++ (zeros ++ rest))) (sym li) ∙ take-append-add (take i l) (zeros ++ rest) (n + k) in
    let two : take (n + k) (zeros ++ rest) ≡ zeros ++ take k rest =
    ap (λ (j : ℕ). take (j + k) (zeros ++ rest)) (sym ln) ∙ take-append-add zeros rest k in
    let three : drop (i + n) (take m l) ≡ take k rest = ap (λ (j : ℕ). drop (i + n) (take j l)) split ∙ drop-take (i + n) k l in
    (λ t. take (whole t) (take i l ++ (zeros ++ rest))) ∙ one ∙ ap (λ (x : List ℕ). take i l ++ x) two
    ∙ (λ t. sym (take-take i m l (omega arith)) t ++ (zeros ++ sym three t))

pub blank-first : (i n k m : ℕ) (l z : List ℕ) → i + n ≤ m → m ≤ length l → k ≡ n → z ≡ replicate (length (take k (drop i l))) 0
    → take m (take i l ++ (z ++ drop k (drop i l))) ≡ blank i n (take m l)
blank-first i n k m l z low high q e =
    let whole : length (take k (drop i l)) ≡ n = simp (length-take, length-drop) (omega arith) in
    let behind : drop k (drop i l) ≡ drop (i + n) l = ap (λ (j : ℕ). drop j (drop i l)) q ∙ drop-drop n i l in
    (λ t. take m (take i l ++ ((e ∙ ap (λ (j : ℕ). replicate j 0) whole) t ++ behind t))) ∙ blank-zeros i n m l low high

-- zeros in the first bytes, and the first bytes of a list with zeros in it
pub zeros_first : (i n m : ℕ) (l : List ℕ) → i + n ≤ m → m ≤ length l → blank i n (take m l) ≡ take m (blank i n l)
zeros_first i n m l low high = sym (blank-zeros i n m l low high)

-- z in place of the k bytes from i on of a list of m bytes: it has m bytes still, and zeros behind n bytes stay behind any j, at least n,
-- that the write doesn't pass
pub written : (m n i j k : ℕ) (l z : List ℕ) → i + k ≤ j → n ≤ j → j ≤ m → length l ≡ m → drop n l ≡ replicate (m - n) 0 → length z ≡ k
    → (j ≤ m) × (length (take i l ++ (z ++ drop k (drop i l))) ≡ m)
    × (drop j (take i l ++ (z ++ drop k (drop i l))) ≡ replicate (m - j) 0)
written m n i j k l z low more high whole zeros e =
    let behind : drop j l ≡ replicate (m - j) 0 =
    ap (λ (x : ℕ). drop x l) (omega (arith, more)) ∙ sym (drop-drop (j - n) n l) ∙ ap (drop (j - n)) zeros ∙ drop-replicate (j - n) (m - n) 0
    ∙ ap (λ (x : ℕ). replicate x 0) (omega (arith, more)) in (
      high,
      simp (length-append, length-take, length-drop) (omega (arith, low, high, whole, e)),
      drop-put_mid i k l z j low (omega (arith, low, high, whole)) e ∙ behind,
    )
