-- RFC 2385's digest in pieces (src/digest.rt) and the digest of the crate `rules`: its first bytes are `segment_digest`. Assumes nothing.
use Rattle.std.specs.Prelude.{ℕ, ◌+◌, ◌≡◌, List, ◌++◌, length, take, drop}
use Rattle.std.proofs.Common.{sym, ap, ◌∙◌, length-append, take_at, drop_at}
use Rattle.mac.specs.Blocks.{View, start, absorb, finished}
use Rattle.mac.specs.BlocksLaws.{absorb-append, finished-absorb}
use Rattle.mac.specs.Md5.{md5}
use Rattle.mac.specs.HashContexts.{parts_of}
use Rattle.mac.specs.HashLaws.{length-hash}
use Rattle.mac.specs.declared.hash_algorithm.HashAlgorithm.TheVariants.{Md5}
use Rattle.wire.specs.Header.{header_end_of}
use Rattle.keys.specs.declared.entry.Secret.{Secret}
use Rattle.keys.specs.Entry.{key_of}
use Rattle.rules.specs.Mac.{Flow}
use Rattle.rules.specs.Digest.{digest_front, digest_input, segment_digest}
use Rattle.traffic.specs.Padded.{padded, digest_room}
use Rattle.traffic.specs.MacContext.{MacView, keyed_last_of, mac_absorb, mac_finished, digested_by}

-- a front, then data, then the key
all-absorbed : (a d k : List ℕ) → keyed_last_of (absorb (parts_of Md5) (absorb (parts_of Md5) (start (parts_of Md5)) a) d) k ≡ md5 (a ++ (d ++ k))
all-absorbed a d k =
    let v : View = absorb (parts_of Md5) (start (parts_of Md5)) a in
    ap (finished (parts_of Md5))
    (sym (absorb-append (parts_of Md5) v d k) ∙ sym (absorb-append (parts_of Md5) (start (parts_of Md5)) a (d ++ k)))
    ∙ finished-absorb (parts_of Md5) (a ++ (d ++ k))

-- a context that has absorbed the front of a segment of len bytes with the given header, and then the data, is finished
pub digested : (s : Secret) (f : Flow) (len : ℕ) (h d : List ℕ) {v u : MacView} {r : List ℕ} → v ≡ digested_by s f len h
    → u ≡ mac_absorb v d → r ≡ mac_finished u
    → r ≡ padded digest_room (md5 (digest_front f.source f.destination len h ++ (d ++ key_of s)))
unfolding mac_absorb mac_finished
digested s f len h d ev eu er =
    er ∙ ap mac_finished (eu ∙ ap (λ (v : MacView). mac_absorb v d) ev)
    ∙ ap (padded digest_room) (all-absorbed (digest_front f.source f.destination len h) d (key_of s))

-- the leftmost sixteen bytes are the digest of the segment
pub digest-is : (s : Secret) (f : Flow) (segment : List ℕ) {v u : MacView} {r : List ℕ}
    → v ≡ digested_by s f (length segment) (take (header_end_of segment) segment) → u ≡ mac_absorb v (drop (header_end_of segment) segment)
    → r ≡ mac_finished u → take 16 r ≡ segment_digest (key_of s) f.source f.destination segment
unfolding segment_digest digest_input
digest-is s f segment ev eu er =
    ap (take 16) (digested s f (length segment) (take (header_end_of segment) segment) (drop (header_end_of segment) segment) ev eu er)
    ∙ take_at (md5 (digest_input (key_of s) f.source f.destination segment)) _ 16 (length-hash Md5 _)

-- the same of a segment that is there as a header and data
pub digest-parts : (s : Secret) (f : Flow) (len : ℕ) (h d : List ℕ) {v u : MacView} {r : List ℕ} → header_end_of (h ++ d) ≡ length h
    → len ≡ length h + length d → v ≡ digested_by s f len h → u ≡ mac_absorb v d → r ≡ mac_finished u
    → take 16 r ≡ segment_digest (key_of s) f.source f.destination (h ++ d)
digest-parts s f len h d end all ev eu er =
    digest-is s f (h ++ d)
    (ev ∙ (λ i. digested_by s f ((all ∙ sym (length-append h d)) i) (sym (take_at h d (header_end_of (h ++ d)) (sym end)) i)))
    (eu ∙ ap (mac_absorb _) (sym (drop_at h d (header_end_of (h ++ d)) (sym end)))) er
