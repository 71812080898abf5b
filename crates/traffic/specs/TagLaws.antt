-- The tag of a segment (src/tag.rt) and the MAC of the crate `rules`: its first bytes are `segment_mac`. Assumes nothing.
use Rattle.std.specs.Prelude.{ℕ, ◌+◌, ◌≤◌, ◌≡◌, List, ◌++◌, length, take, drop}
use Rattle.std.proofs.Common.{sym, ap, ◌∙◌, arith, length-append, take_at, drop_at}
use Rattle.std.proofs.lemmas.List.{take-append-le}
use Rattle.wire.specs.Header.{header_end_of}
use Rattle.keys.specs.declared.entry.Secret.{Secret}
use Rattle.keys.specs.Algorithm.{output_bits_of}
use Rattle.keys.specs.Entry.{key_of}
use Rattle.rules.specs.declared.Hidden.{Hidden}
use Rattle.rules.specs.Mac.{Flow, blanked, derivation_input_of, derivation_key, applied, traffic_key_of, front, message, segment_mac}
use Rattle.rules.proofs.MacLaws.{applied-long}
use Rattle.traffic.specs.Padded.{padded, digest_room}
use Rattle.traffic.specs.MacContext.{MacView, mac_start, mac_absorb, mac_finished}
use Rattle.traffic.specs.MacContextLaws.{mac_absorb-append, mac_finished-absorb, key_for-applied}

-- a context that is new under the traffic key, has absorbed a and then b, and is finished
pub tagged : (s : Secret) (f : Flow) (a b : List ℕ) {v u : MacView} {r : List ℕ}
    → v ≡ mac_absorb (mac_start s.algorithm (padded digest_room (traffic_key_of s f))) a
    → u ≡ mac_absorb v b → r ≡ mac_finished u → r ≡ padded digest_room (applied s.algorithm (traffic_key_of s f) (a ++ b))
unfolding traffic_key_of
tagged s f a b ev eu er =
    let k = padded digest_room (traffic_key_of s f) in
    er ∙ ap mac_finished (eu ∙ ap (λ (v : MacView). mac_absorb v b) ev ∙ sym (mac_absorb-append (mac_start s.algorithm k) a b))
    ∙ mac_finished-absorb s.algorithm k (a ++ b)
    ∙ ap (λ (k : List ℕ). padded digest_room (applied s.algorithm k (a ++ b)))
    (key_for-applied s.algorithm (derivation_key s.algorithm (key_of s)) (derivation_input_of (output_bits_of s.algorithm) f))

-- the tag of a segment of len bytes with the given header and data
abbrev pub tag_of : Secret → Hidden → Flow → ℕ → ℕ → ℕ → List ℕ → List ℕ → List ℕ
tag_of s h f extension at len header d =
    padded digest_room (applied s.algorithm (traffic_key_of s (blanked h f)) (front s h (blanked h f) extension at len header ++ d))

-- the leftmost bytes are the MAC: as many as the entry has, where a tag has so many
pub tag-mac : (s : Secret) (h : Hidden) (f : Flow) (extension at : ℕ) (segment : List ℕ) → s.mac_bytes ≤ 16
    → take s.mac_bytes
    (tag_of s h f extension at (length segment) (take (header_end_of segment) segment) (drop (header_end_of segment) segment))
    ≡ segment_mac s h f extension at segment
unfolding segment_mac message
tag-mac s h f extension at segment n =
    let k = traffic_key_of s (blanked h f) in
    let m = message s h (blanked h f) extension at segment in
    take-append-le s.mac_bytes (applied s.algorithm k m) _ (omega (arith, applied-long s.algorithm k m))

-- the same of a segment that is there as a header and data
pub tag-mac-parts : (s : Secret) (v : Hidden) (f : Flow) (extension at len : ℕ) (h d : List ℕ) → header_end_of (h ++ d) ≡ length h
    → len ≡ length h + length d → s.mac_bytes ≤ 16
    → take s.mac_bytes (tag_of s v f extension at len h d) ≡ segment_mac s v f extension at (h ++ d)
tag-mac-parts s v f extension at len h d end all n =
    (λ i. take s.mac_bytes
    (tag_of s v f extension at ((all ∙ sym (length-append h d)) i) (sym (take_at h d (header_end_of (h ++ d)) (sym end)) i)
    (sym (drop_at h d (header_end_of (h ++ d)) (sym end)) i)))
    ∙ tag-mac s v f extension at (h ++ d) n
