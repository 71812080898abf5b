-- Laws of the MAC in pieces: a ++ b is a and then b; what is finished from the start on is the MAC of the whole. None has a hypothesis. Assumes nothing.
use Rattle.std.specs.Prelude.{ℕ, ◌-◌, ◌≡◌, refl, Bool, true, false, cond, ◌||◌, List, ◌++◌, length, take, replicate, eqb}
use Rattle.std.proofs.Common.{ap, ◌∙◌, append-nil, take_at, arith}
use Rattle.mac.specs.Blocks as hash
use Rattle.mac.specs.BlocksLaws as hashes
use Rattle.mac.specs.Hmac.{hmac_sha1_of, hmac_sha256_of, hmac_start}
use Rattle.mac.specs.HmacLaws.{hmac_absorb-append, hmac_sha1-message, length-hmac_sha1, hmac_sha256-message, length-hmac_sha256}
use Rattle.mac.specs.HashContexts.{parts_of, digest_bytes_of}
use Rattle.mac.specs.declared.hash_algorithm.HashAlgorithm.{HashAlgorithm}
use Rattle.mac.specs.declared.hash_algorithm.HashAlgorithm.TheVariants.{Sha1, Sha256, Md5}
use Rattle.mac.specs.Cmac.{cmac, start}
use Rattle.mac.specs.CmacLaws.{absorb-append, finished-absorb, length-cmac}
use Rattle.rules.specs.Mac.{applied}
use Rattle.traffic.specs.Padded.{padded, digest_room}
use Rattle.traffic.specs.MacContext.{MacView, Hmac, Cmac, Digest, key_for, mac_start, mac_absorb, mac_finished}

-- nothing stands behind what has the length already
pub padded-full : (n : ℕ) (l : List ℕ) → length l ≡ n → padded n l ≡ l
padded-full n l e =
    let z : n - length l ≡ 0 = omega arith in
    ap (λ (k : ℕ). l ++ replicate k 0) z ∙ append-nil l

pub mac_absorb-append : (v : MacView) (a b : List ℕ) → mac_absorb v (a ++ b) ≡ mac_absorb (mac_absorb v a) b
unfolding mac_absorb
mac_absorb-append (Hmac h v) a b = ap (Hmac h) (hmac_absorb-append (parts_of h) v a b)
mac_absorb-append (Cmac v) a b = ap Cmac (absorb-append v a b)
mac_absorb-append (Digest v k) a b = ap (λ (u : hash.View). Digest u k) (hashes.absorb-append (parts_of Md5) v a b)

-- the hash, and the key's length, by which algorithm it is: 1, 3, or neither
abbrev hash_by_lem : Bool → HashAlgorithm
hash_by_lem one = cond one Sha1 Sha256

abbrev key_by : Bool → Bool → List ℕ → List ℕ
key_by one three key = take (cond (one || three) (digest_bytes_of (hash_by_lem one)) 16) key

abbrev applied_by : Bool → Bool → List ℕ → List ℕ → List ℕ
applied_by one three k m = cond one (hmac_sha1_of k m) (cond three (hmac_sha256_of k m) (cmac k m))

pub mac_finished-absorb : (algorithm : ℕ) (key m : List ℕ)
    → mac_finished (mac_absorb (mac_start algorithm key) m) ≡ padded digest_room (applied algorithm (key_for algorithm key) m)
unfolding mac_start mac_absorb mac_finished applied
mac_finished-absorb algorithm key m = go (eqb algorithm 1) (eqb algorithm 3)
  where
    go : (one three : Bool)
        → mac_finished
        (mac_absorb
        (cond (one || three) (Hmac (hash_by_lem one) (hmac_start (parts_of (hash_by_lem one)) (key_by one three key))) (Cmac (start (key_by one three key))))
        m)
        ≡ padded digest_room (applied_by one three (key_by one three key) m)
    go true three = ap (padded digest_room) (hmac_sha1-message (take 20 key) m refl refl refl)
    go false true = ap (padded digest_room) (hmac_sha256-message (take 32 key) m refl refl refl)
    go false false = ap (padded digest_room) (finished-absorb (take 16 key) m)

-- a key that has the algorithm's bytes comes back out of its room
pub key_for-applied : (algorithm : ℕ) (k m : List ℕ) → key_for algorithm (padded digest_room (applied algorithm k m)) ≡ applied algorithm k m
unfolding applied
key_for-applied algorithm k m = go (eqb algorithm 1) (eqb algorithm 3)
  where
    go : (one three : Bool) → key_by one three (padded digest_room (applied_by one three k m)) ≡ applied_by one three k m
    go true three = take_at (hmac_sha1_of k m) _ 20 (length-hmac_sha1 k m)
    go false true = take_at (hmac_sha256_of k m) _ 32 (length-hmac_sha256 k m)
    go false false = take_at (cmac k m) _ 16 (length-cmac k m)
