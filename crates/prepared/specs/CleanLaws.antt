-- Laws of `clean`: an entry that valid bytes of the kind could hold stays as it is, and what comes out is given none of 13 to 16.
use Rattle.std.specs.Prelude.{ℕ, suc, zero, ◌+◌, ◌*◌, ◌-◌, ◌/◌, ◌%◌, ◌^◌, ◌≤◌, ◌<◌, max, min, Bool, true, false, not, ◌≡◌, refl, List, [], ◌∷◌, ◌++◌, ◌⊎◌, length, get_or, take, drop, replicate, ltb, eqb}
use Rattle.std.proofs.Common.{sym, ap, ◌∙◌, inl, inr, arith, add-zero, zero-mul, mul_assoc, take-append-drop, length-append, length-take, length-drop, ext_get_or, drop_at, pow-add, ltb-true, ltb-false, le-ltb, eq-eqb, eqb-true}
use Rattle.std.proofs.Math.Nat.{zero-div}
use Rattle.std.proofs.Math.ListN.{get_or-eq_default}
use Rattle.std.proofs.lemmas.List.{length-replicate}
use Rattle.std.proofs.lemmas.Nat.{shl-shr, mod-pow-add}
use Rattle.std.proofs.Math.Pow.{split}
use Rattle.octets.specs.Tests.{Test}
use Rattle.wire.specs.Prefix.{bit, clear_past_of}
use Rattle.wire.specs.PrefixLaws.{clear-bit, clear-all}
use Rattle.keys.specs.Clash.{Family, Passed, Formed}
use Rattle.keys.specs.Entry.{width}
use Rattle.keys.proofs.FormedLaws.{Proper, KeyProper, Md5Proper}
use Rattle.keys.specs.Match.{fixed}
use Rattle.keys.proofs.MatchLaws.{and-true}
use Rattle.keys.specs.Table.{zeros, secret_tests, md5_tests, port_range_tests, side_tests, master_key_tests}
use Rattle.keys.specs.declared.entry.Side.{Side}
use Rattle.keys.specs.declared.entry.Entry.{Entry}
use Rattle.keys.specs.declared.table.TableKind.{TableKind}
use Rattle.keys.specs.declared.table.TableKind.TheVariants.{Keys, Md5}
use Rattle.prepared.specs.Prepared.{kept, clear, cut, within, clean_family, clean_side, clean_selector, clean_secret, clean_ids, clean}
use Rattle.prepared.specs.Form.{Digest16}
use Rattle.prepared.specs.ClearLaws.{clear-length, clear_at}

-- an entry that valid bytes of the kind could hold
abbrev pub ProperIn : TableKind → Entry → Type 0
ProperIn Keys e = Proper e × KeyProper e
ProperIn Md5 e = Proper e × (Md5Proper e × Digest16 e)

pub proper-in : (kind : TableKind) (e : Entry) → ProperIn kind e → Proper e
proper-in Keys e p = p.0
proper-in Md5 e p = p.0

-- address bits past the prefix: where there are none, all stays

pub low-zero : (x k : ℕ) → ((t : ℕ) → t < k → x / 2 ^ t % 2 ≡ 0) → x % 2 ^ k ≡ 0
low-zero x zero f = omega arith
low-zero x (suc k) f =
    let ih = low-zero x k (λ t h. f t (omega arith)) in
    let b = f k (omega arith) in
    let e : suc k ≡ 1 + k = omega arith in
    ap (λ (n : ℕ). x % 2 ^ n) e
    ∙ mod-pow-add x 1 k
    ∙ (λ i. b i * 2 ^ k + ih i)
    ∙ add-zero (0 * 2 ^ k)
    ∙ zero-mul (2 ^ k)

pub byte-bit : (s : List ℕ) (j t : ℕ) → t < 8 → bit s (8 * j + (7 - t)) ≡ 0 → get_or s j 0 / 2 ^ t % 2 ≡ 0
byte-bit s j t h e =
    let d : j ≡ (8 * j + (7 - t)) / 8 = omega arith in
    let m : t ≡ 7 - (8 * j + (7 - t)) % 8 = omega arith in
    (λ i. get_or s (d i) 0 / 2 ^ m i % 2) ∙ e

clear-byte : (n : ℕ) (s : List ℕ) (j : ℕ) → ((i : ℕ) → n ≤ i → bit s i ≡ 0) → kept (min (n - 8 * j) 8) (get_or s j 0) ≡ get_or s j 0
clear-byte n s j f =
    let k = 8 - min (n - 8 * j) 8 in
    let x = get_or s j 0 in
    let z : x % 2 ^ k ≡ 0 = low-zero x k (λ t h. byte-bit s j t (omega arith) (f (8 * j + (7 - t)) (omega arith))) in
    let w = split x k in
    let q : x / 2 ^ k * 2 ^ k + 0 ≡ x = ap (λ (m : ℕ). x / 2 ^ k * 2 ^ k + m) (sym z) ∙ w in
    omega arith

clear-same : (n : ℕ) (s : List ℕ) → clear_past_of n s ≡ true → clear n s ≡ s
clear-same n s h =
    ext_get_or 0 (clear n s) s (clear-length n s)
    (λ j l. let m = clear-length n s in clear_at n s j (omega arith) ∙ clear-byte n s j (clear-bit n s h))

-- and none are left

even : (y d : ℕ) → y * 2 ^ (d + 1) % 2 ≡ 0
even y d =
    let e : y * 2 ^ (d + 1) ≡ y * 2 ^ d * 2 = ap (λ (n : ℕ). y * n) (pow-add 2 d 1) ∙ sym (mul_assoc y (2 ^ d) 2) in
    omega arith

kept_low : (y k j : ℕ) → j < k → y * 2 ^ k / 2 ^ j % 2 ≡ 0
kept_low y k j h =
    let d = k - j - 1 + 1 in
    let e : k ≡ k - j - 1 + 1 + j = omega arith in
    let p : y * 2 ^ k ≡ y * 2 ^ d * 2 ^ j =
    ap (λ (n : ℕ). y * 2 ^ n) e ∙ ap (λ (n : ℕ). y * n) (pow-add 2 d j) ∙ sym (mul_assoc y (2 ^ d) (2 ^ j)) in
    ap (λ (n : ℕ). n / 2 ^ j % 2) p ∙ ap (λ (n : ℕ). n % 2) (shl-shr (y * 2 ^ d) j) ∙ even y (k - j - 1)

clear_zero : (n : ℕ) (s : List ℕ) (i : ℕ) → n ≤ i → bit (clear n s) i ≡ 0
clear_zero n s i h = go (ltb (i / 8) (length s)) refl
  where
    go : (b : Bool) → ltb (i / 8) (length s) ≡ b → bit (clear n s) i ≡ 0
    go true e =
        let l = ltb-true (i / 8) (length s) e in
        let k = 8 - min (n - 8 * (i / 8)) 8 in
        ap (λ (v : ℕ). v / 2 ^ (7 - i % 8) % 2) (clear_at n s (i / 8) l)
        ∙ kept_low (get_or s (i / 8) 0 / 2 ^ k) k (7 - i % 8) (omega arith)
    go false e =
        let l = ltb-false (i / 8) (length s) e in
        let m = clear-length n s in
        ap (λ (v : ℕ). v / 2 ^ (7 - i % 8) % 2) (get_or-eq_default (clear n s) 0 (omega arith))
        ∙ ap (λ (v : ℕ). v % 2) (zero-div (2 ^ (7 - i % 8)))

clear-past : (n : ℕ) (s : List ℕ) → clear_past_of n (clear n s) ≡ true
clear-past n s = clear-all n (clear n s) (clear_zero n s)

-- the key's padding

zeros-are : (s : List ℕ) → zeros s ≡ true → s ≡ replicate (length s) 0
zeros-are [] h = refl
zeros-are (x ∷ s) h = let a = and-true _ (zeros s) h in λ i. eqb-true x 0 a.0 i ∷ zeros-are s a.1 i

all-zeros : (n : ℕ) → zeros (replicate n 0) ≡ true
all-zeros zero = refl
all-zeros (suc n) = all-zeros n

module _ (n : ℕ) (k : List ℕ) (l : length k ≡ 80) where
  cut-same : zeros (drop n k) ≡ true → cut n k ≡ k
  cut-same z =
      let d = length-drop n k in
      let e : length (drop n k) ≡ 80 - n = omega arith in
      sym (ap (λ (s : List ℕ). take n k ++ s) (zeros-are (drop n k) z ∙ ap (λ (m : ℕ). replicate m 0) e)) ∙ take-append-drop n k

  cut-length : n ≤ 80 → length (cut n k) ≡ 80
  cut-length h =
      let a = length-append (take n k) (replicate (80 - n) 0) in
      let b = length-take n k in
      let c : length {A = ℕ} (replicate (80 - n) 0) ≡ 80 - n = length-replicate (80 - n) 0 in
      omega arith

  cut-zeros : n ≤ 80 → zeros (drop n (cut n k)) ≡ true
  cut-zeros h =
      let b = length-take n k in
      ap zeros (drop_at (take n k) (replicate (80 - n) 0) n (let c : length (take n k) ≡ n = omega arith in c)) ∙ all-zeros (80 - n)

-- an entry that valid bytes could hold stays

pub family-same : (f : ℕ) → Family f → clean_family f ≡ f
unfolding clean_family
family-same f (inl e) = rw e
family-same f (inr e) = rw e

side_same : (f : ℕ) (s : Side) → s.low ≤ s.high → s.bits ≤ 8 * width f → clear_past_of s.bits s.address ≡ true → clean_side f s ≡ s
unfolding clean_side
side_same f s h b c =
    let p : min s.low s.high ≡ s.low = omega arith in
    let q : max s.low s.high ≡ s.high = omega arith in
    let r : fixed f s.bits ≡ s.bits = omega arith in
    λ i. record {
      low = p i;
      high = q i;
      bits = r i;
      address = (ap (λ (n : ℕ). clear n s.address) r ∙ clear-same s.bits s.address c) i;
    }

algorithm-same : (a : ℕ) → (a ≡ 1) ⊎ ((a ≡ 2) ⊎ (a ≡ 3)) → within 1 3 a ≡ a
algorithm-same a (inl e) = omega arith
algorithm-same a (inr (inl e)) = omega arith
algorithm-same a (inr (inr e)) = omega arith

module _ (e : Entry) (p : Proper e) where
  key-len-same : within 1 80 e.secret.key_len ≡ e.secret.key_len
  key-len-same = let k = p.key-low in let l = p.key-high in omega arith

  key-same : cut (within 1 80 e.secret.key_len) e.secret.key ≡ e.secret.key
  key-same =
      ap (λ (j : ℕ). cut j e.secret.key) key-len-same ∙ cut-same e.secret.key_len e.secret.key p.key p.padding

secret-same : (kind : TableKind) (e : Entry) → ProperIn kind e → clean_secret kind e.secret ≡ e.secret
unfolding clean_secret
secret-same Keys e p =
    let s = e.secret in
    let k = p.1 in
    let f = k.flags in
    let l = k.mac-low in
    let h = k.mac-high in
    let g : s.flags % 8 ≡ s.flags = omega arith in
    let m : within 4 16 s.mac_bytes ≡ s.mac_bytes = omega arith in
    λ i. record {
      flags = g i;
      algorithm = algorithm-same s.algorithm k.algorithm i;
      mac_bytes = m i;
      key_len = key-len-same e p.0 i;
      key = key-same e p.0 i;
    }
secret-same Md5 e p =
    let k = p.1.0 in
    λ i. record {
      flags = sym k.flags i;
      algorithm = sym k.algorithm i;
      mac_bytes = sym p.1.1 i;
      key_len = key-len-same e p.0 i;
      key = key-same e p.0 i;
    }

ids-same : (kind : TableKind) (e : Entry) → ProperIn kind e → clean_ids kind e.ids ≡ e.ids
unfolding clean_ids
ids-same Keys e p = refl
ids-same Md5 e p = λ i. record { send = sym p.1.0.send i; recv = sym p.1.0.recv i }

pub clean-same : (kind : TableKind) (e : Entry) → ProperIn kind e → clean kind e ≡ e
unfolding clean clean_selector
clean-same kind e h =
    let p = proper-in kind e h in
    let s = e.selector in
    let f = family-same s.family p.family in
    let l = side_same s.family s.local p.local-ports p.local-bits p.local-clear in
    let r = side_same s.family s.remote p.remote-ports p.remote-bits p.remote-clear in
    λ i. record {
      selector =
          record {
            family = f i;
            local = (ap (λ (g : ℕ). clean_side g s.local) f ∙ l) i;
            remote = (ap (λ (g : ℕ). clean_side g s.remote) f ∙ r) i;
          };
      ids = ids-same kind e h i;
      secret = secret-same kind e h i;
    }

-- an entry of which that holds is given none of 13 to 16

-- the tests that both tables have
abbrev own_of : Entry → List (Test ℕ)
own_of e =
    port_range_tests e.selector
    ++ (side_tests e.selector.family e.selector.local
    ++ (side_tests e.selector.family e.selector.remote ++ master_key_tests e.secret))

own-passed : (e : Entry) → Proper e → Passed (own_of e)
own-passed e p =
    let s = e.selector in
    let k = master_key_tests e.secret in
    let key : Passed k = (le-ltb _ _ p.key-low, (le-ltb _ _ p.key-high, (ap not p.padding, tt))) in
    let remote : Passed (side_tests s.family s.remote ++ k) = (le-ltb _ _ p.remote-bits, (ap not p.remote-clear, key)) in
    let local : Passed (side_tests s.family s.local ++ (side_tests s.family s.remote ++ k)) =
    (le-ltb _ _ p.local-bits, (ap not p.local-clear, remote)) in
    (le-ltb _ _ p.local-ports, (le-ltb _ _ p.remote-ports, local))

pub algorithm-low : (a : ℕ) → (a ≡ 1) ⊎ ((a ≡ 2) ⊎ (a ≡ 3)) → (1 ≤ a) × (a ≤ 3)
algorithm-low a (inl e) = (omega arith, omega arith)
algorithm-low a (inr (inl e)) = (omega arith, omega arith)
algorithm-low a (inr (inr e)) = (omega arith, omega arith)

pub proper-formed : (kind : TableKind) (e : Entry) → ProperIn kind e → Formed kind e
proper-formed Keys e p =
    let k = p.1 in
    let a = algorithm-low e.secret.algorithm k.algorithm in
    let mac : Passed (drop 3 (secret_tests e.secret) ++ own_of e) =
    (le-ltb _ _ k.mac-low, (le-ltb _ _ k.mac-high, own-passed e p.0)) in
    (le-ltb _ _ k.flags, (le-ltb _ _ a.0, (le-ltb _ _ a.1, mac)))
proper-formed Md5 e p =
    let k = p.1.0 in
    let ids : Passed (drop 2 (md5_tests e.secret e.ids) ++ own_of e) =
    (ap (ltb 0) k.send, (ap (ltb 0) k.recv, own-passed e p.0)) in
    (ap (ltb 0) k.flags, (ap not (eq-eqb e.secret.algorithm 19 k.algorithm), ids))

-- and of what comes out it does

pub family-is : (f : ℕ) → Family (clean_family f)
unfolding clean_family
family-is f = go (eqb f 4) refl
  where
    go : (b : Bool) → eqb f 4 ≡ b → Family (clean_family f)
    go true e = rw e (inl refl)
    go false e = rw e (inr refl)

one_of_three : (a : ℕ) → 1 ≤ a → a ≤ 3 → (a ≡ 1) ⊎ ((a ≡ 2) ⊎ (a ≡ 3))
one_of_three zero h k = absurd (omega arith)
one_of_three (suc zero) h k = inl refl
one_of_three (suc (suc zero)) h k = inr (inl refl)
one_of_three (suc (suc (suc zero))) h k = inr (inr refl)
one_of_three (suc (suc (suc (suc a)))) h k = absurd (omega arith)

-- the key's length and its bytes are the same in either table
pub secret-key : (kind : TableKind) (e : Entry)
    → ((clean_secret kind e.secret).key_len ≡ within 1 80 e.secret.key_len)
    × ((clean_secret kind e.secret).key ≡ cut (within 1 80 e.secret.key_len) e.secret.key)
unfolding clean_secret
secret-key Keys e = (refl, refl)
secret-key Md5 e = (refl, refl)

pub clean-proper : (kind : TableKind) (e : Entry) → length e.secret.key ≡ 80 → Proper (clean kind e)
unfolding clean clean_selector clean_side
clean-proper kind e l =
    let s = e.secret in
    let n = within 1 80 s.key_len in
    let h : n ≤ 80 = omega arith in
    let a = (secret-key kind e).0 in
    let b = (secret-key kind e).1 in
    record {
      family = family-is e.selector.family;
      key-low = omega arith;
      key-high = omega arith;
      key = ap length b ∙ cut-length n s.key l h;
      padding = (λ i. zeros (drop (a i) (b i))) ∙ cut-zeros n s.key l h;
      local-ports = omega arith;
      remote-ports = omega arith;
      local-bits = omega arith;
      remote-bits = omega arith;
      local-clear = clear-past _ e.selector.local.address;
      remote-clear = clear-past _ e.selector.remote.address;
    }

pub clean-in : (kind : TableKind) (e : Entry) → length e.secret.key ≡ 80 → ProperIn kind (clean kind e)
unfolding clean clean_secret clean_ids
clean-in Keys e l = (
  clean-proper Keys e l,
  record {
    flags = omega arith;
    algorithm = one_of_three (within 1 3 e.secret.algorithm) (omega arith) (omega arith);
    mac-low = omega arith;
    mac-high = omega arith;
  },
)
clean-in Md5 e l = (clean-proper Md5 e l, (record { flags = refl; algorithm = refl; send = refl; recv = refl }, refl))

pub clean-formed : (kind : TableKind) (e : Entry) → length e.secret.key ≡ 80 → Formed kind (clean kind e)
clean-formed kind e l = proper-formed kind (clean kind e) (clean-in kind e l)
