-- Laws of the hashes that the code's HashAlgorithm names, and of their digests in the one room that there is for all. Assumes nothing.
use Rattle.std.specs.Prelude.{◌≡◌, ℕ, zero, suc, ◌+◌, ◌-◌, ◌≤◌, List, ◌∷◌, ◌++◌, length, take, replicate}
use Rattle.std.proofs.Common.{sym, ◌∙◌, ap, append_assoc, append-nil, zero-add, suc-add, arith, length-append, take_at}
use Rattle.std.proofs.lemmas.List.{length-replicate}
use Rattle.mac.specs.Blocks.{hash, finished, View}
use Rattle.mac.specs.BlocksLaws.{digest-all}
use Rattle.mac.specs.Sha1Laws as sha1
use Rattle.mac.specs.Sha256Laws as sha256
use Rattle.mac.specs.Md5Laws as md5
use Rattle.mac.specs.Hmac.{filled}
use Rattle.mac.specs.HmacLaws.{Short}
use Rattle.mac.specs.HashContexts.{parts_of, digest_bytes_of, digest_room}
use Rattle.mac.specs.declared.hash_algorithm.HashAlgorithm.{HashAlgorithm}
use Rattle.mac.specs.declared.hash_algorithm.HashAlgorithm.TheVariants.{Sha1, Sha256, Md5}

-- A digest has its bytes, so it fits in the room and in a block.
pub length-digest : (a : HashAlgorithm) (h : List ℕ) → length ((parts_of a).digest h) ≡ digest_bytes_of a
length-digest Sha1 h = sha1.length-digest h
length-digest Sha256 h = sha256.length-digest h
length-digest Md5 h = md5.length-digest h

pub in-room : (a : HashAlgorithm) → digest_bytes_of a ≤ digest_room
in-room Sha1 = omega arith
in-room Sha256 = omega arith
in-room Md5 = omega arith

pub short : (a : HashAlgorithm) → Short (parts_of a)
short a h = omega (arith, length-digest a h, in-room a)

pub length-finished : (a : HashAlgorithm) (v : View) → length (finished (parts_of a) v) ≡ digest_bytes_of a
unfolding finished
length-finished a v = length-digest a _

pub length-hash : (a : HashAlgorithm) (m : List ℕ) → length (hash (parts_of a) m) ≡ digest_bytes_of a
length-hash a = digest-all (parts_of a) (λ (d : List ℕ). length d ≡ digest_bytes_of a) (length-digest a)

-- Out of the room, where zeros stand behind x, its bytes are x; and where there was room for it, zeros fill a longer one.
pub cut : (B n : ℕ) (x : List ℕ) {d : List ℕ} → length x ≡ n → d ≡ filled B x → take n d ≡ x
unfolding filled
cut B n x h e = ap (take n) e ∙ take_at x (replicate (B - length x) 0) n h

pub filled-full : (B : ℕ) (x : List ℕ) → length x ≡ B → filled B x ≡ x
unfolding filled
filled-full B x h = let z : B - length x ≡ 0 = omega arith in ap (λ (k : ℕ). x ++ replicate k 0) z ∙ append-nil x

abbrev zeros : ℕ → List ℕ
zeros n = replicate n 0

more-zeros : (a b : ℕ) → zeros a ++ zeros b ≡ zeros (a + b)
more-zeros zero b = ap zeros (sym (zero-add b))
more-zeros (suc a) b = ap (λ (l : List ℕ). 0 ∷ l) (more-zeros a b) ∙ ap zeros (sym (suc-add a b))

pub filled_on : (A B : ℕ) (x : List ℕ) → length x ≤ A → A ≤ B → filled B (filled A x) ≡ filled B x
unfolding filled
filled_on A B x h l =
    let r : ℕ = A - length x in
    let n : length (x ++ zeros r) ≡ A = length-append x (zeros r) ∙ ap (λ (k : ℕ). length x + k) (length-replicate r 0) ∙ omega arith in
    let s : r + (B - A) ≡ B - length x = omega arith in
    append_assoc x (zeros r) _ ∙ ap (λ (k : ℕ). x ++ (zeros r ++ zeros (B - k))) n
    ∙ ap (λ (z : List ℕ). x ++ z) (more-zeros r (B - A) ∙ ap zeros s)
