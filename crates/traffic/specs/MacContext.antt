-- The MAC of an algorithm (`applied` of the crate `rules`), and RFC 2385's digest (`segment_digest`), of a message that comes in pieces,
-- and what a value of the code's MacContext means. Every value means something. Assumes nothing.
use Rattle.std.specs.Prelude.{ℕ, cond, List, take, eqb}
use Rattle.mac.specs.Blocks as hash
use Rattle.mac.specs.Hmac.{Keyed, hmac_start, hmac_absorb, hmac_finished}
use Rattle.mac.specs.HashContexts.{parts_of, digest_bytes_of, hash_view, hmac_view}
use Rattle.mac.specs.declared.hash_algorithm.HashAlgorithm.{HashAlgorithm}
use Rattle.mac.specs.declared.hash_algorithm.HashAlgorithm.TheVariants.{Sha1, Sha256, Md5}
use Rattle.mac.specs.Cmac.{View, start, absorb, finished}
use Rattle.mac.specs.CmacContext.{view}
use Rattle.keys.specs.declared.entry.Secret.{Secret}
use Rattle.keys.specs.Entry.{key_of}
use Rattle.rules.specs.declared.Hidden.{Hidden}
use Rattle.rules.specs.Mac.{Flow, blanked, is_hmac_of, traffic_key_of, front}
use Rattle.rules.specs.Digest.{digest_front}
use Rattle.traffic.specs.Padded.{padded, digest_room}
use Rattle.traffic.specs.declared.context.MacContext.{MacContext}
use Rattle.traffic.specs.declared.context.MacContext.TheVariants as held

-- what is held: an HMAC's view, with its hash, or AES-CMAC's; of the digest MD5's view, and the key, which comes last
pub data MacView : Type 0 where
  Hmac : HashAlgorithm → Keyed → MacView
  Cmac : View → MacView
  Digest : hash.View → List ℕ → MacView

-- the hash of an algorithm that applies an HMAC: "1 HMAC-SHA-1-96", Ticket 13's "algorithm 3: HMAC-SHA-256"
abbrev pub hash_for_lem : ℕ → HashAlgorithm
hash_for_lem algorithm = cond (eqb algorithm 1) Sha1 Sha256

-- any number but 1 and 3 is taken for 2, as in `applied`
abbrev pub by_algorithm : ℕ → Keyed → View → MacView
by_algorithm algorithm h c = cond (is_hmac_of algorithm) (Hmac (hash_for_lem algorithm) h) (Cmac c)

-- what a context holds: each variant as its view; of the digest's secret only the key counts
abbrev pub mac_view : MacContext → MacView
mac_view (held.Hmac a c) = Hmac a (hmac_view a c)
mac_view (held.Cmac c) = Cmac (view c)
mac_view (held.Digest c s) = Digest (hash_view Md5 c) (key_of s)

-- the algorithm's key in the room that a traffic key has
abbrev pub key_for : ℕ → List ℕ → List ℕ
key_for algorithm key = take (cond (is_hmac_of algorithm) (digest_bytes_of (hash_for_lem algorithm)) 16) key

unfoldable pub mac_start : ℕ → List ℕ → MacView
mac_start algorithm key =
    by_algorithm algorithm (hmac_start (parts_of (hash_for_lem algorithm)) (key_for algorithm key)) (start (key_for algorithm key))

unfoldable pub mac_absorb : MacView → List ℕ → MacView
mac_absorb (Hmac a v) m = Hmac a (hmac_absorb (parts_of a) v m)
mac_absorb (Cmac v) m = Cmac (absorb v m)
mac_absorb (Digest v k) m = Digest (hash.absorb (parts_of Md5) v m) k

-- the digest of all that was absorbed and of the key behind it
abbrev pub keyed_last_of : hash.View → List ℕ → List ℕ
keyed_last_of v k = hash.finished (parts_of Md5) (hash.absorb (parts_of Md5) v k)

-- as many bytes as there is room for: zeros stand behind a shorter one
unfoldable pub mac_finished : MacView → List ℕ
mac_finished (Hmac a v) = padded digest_room (hmac_finished (parts_of a) v)
mac_finished (Cmac v) = padded digest_room (finished v)
mac_finished (Digest v k) = padded digest_room (keyed_last_of v k)

-- the MAC of a segment after its front, under the secret's traffic key: of len bytes, with the given hidden sides, flow and header
abbrev pub fronted_by : Secret → Hidden → Flow → ℕ → ℕ → ℕ → List ℕ → MacView
fronted_by s h f extension at len header =
    mac_absorb (mac_start s.algorithm (padded digest_room (traffic_key_of s (blanked h f))))
    (front s h (blanked h f) extension at len header)

-- the digest of a segment of len bytes after its front, the secret's key still to come
abbrev pub digested_by : Secret → Flow → ℕ → List ℕ → MacView
digested_by s f len header =
    Digest (hash.absorb (parts_of Md5) (hash.start (parts_of Md5)) (digest_front f.source f.destination len header)) (key_of s)
