use Rattle.std.proofs.Common.{◌≡◌, ℕ, suc, List, [], ◌∷◌, ap, ◌∙◌}
use Rattle.mac.specs.Aes.{xtime, power, next_key_of, round_key, key_expansion}
use Rattle.mac.proofs.aes.expand_words.Goals as goal

-- ten round keys, each from the one before and the power of x that the code has as a number
more : (key : List ℕ) (r : ℕ) {k n : List ℕ} → k ≡ round_key key r → n ≡ next_key_of (power r) k → n ≡ round_key key (suc r)
more key r p q = q ∙ ap (next_key_of (power r)) p

expanded : (key : List ℕ) {k0 k1 k2 k3 k4 k5 k6 k7 k8 k9 k10 : List ℕ} → k0 ≡ key → k1 ≡ next_key_of 0x01 k0
    → k2 ≡ next_key_of 0x02 k1 → k3 ≡ next_key_of 0x04 k2 → k4 ≡ next_key_of 0x08 k3 → k5 ≡ next_key_of 0x10 k4 → k6 ≡ next_key_of 0x20 k5
    → k7 ≡ next_key_of 0x40 k6 → k8 ≡ next_key_of 0x80 k7 → k9 ≡ next_key_of 0x1b k8 → k10 ≡ next_key_of 0x36 k9
    → k0 ∷ k1 ∷ k2 ∷ k3 ∷ k4 ∷ k5 ∷ k6 ∷ k7 ∷ k8 ∷ k9 ∷ k10 ∷ [] ≡ key_expansion key
unfolding xtime key_expansion
expanded key e0 q1 q2 q3 q4 q5 q6 q7 q8 q9 q10 =
    let e1 = more key 0 e0 q1 in
    let e2 = more key 1 e1 q2 in
    let e3 = more key 2 e2 q3 in
    let e4 = more key 3 e3 q4 in
    let e5 = more key 4 e4 q5 in
    let e6 = more key 5 e5 q6 in
    let e7 = more key 6 e6 q7 in
    let e8 = more key 7 e7 q8 in
    let e9 = more key 8 e8 q9 in
    let e10 = more key 9 e9 q10 in (λ i. e0 i ∷ e1 i ∷ e2 i ∷ e3 i ∷ e4 i ∷ e5 i ∷ e6 i ∷ e7 i ∷ e8 i ∷ e9 i ∷ e10 i ∷ [])

pub returns : goal.returns
returns c =
    expanded c.args.key c.load-k0.ensures c.next_key-k1.ensures c.next_key-k2.ensures c.next_key-k3.ensures
    c.next_key-k4.ensures c.next_key-k5.ensures c.next_key-k6.ensures c.next_key-k7.ensures c.next_key-k8.ensures
    c.next_key-k9.ensures c.next_key-k10.ensures
