-- The MD5 option in a segment that arrives, with any checksum: what is read of it, and that its digest is of the same bytes at both ends.
-- RFC 2385; document 02, Ticket 9. Of MD5 nothing is used but that it gives 16 bytes.
use Rattle.std.specs.Prelude.{ℕ, ◌+◌, ◌/◌, ◌≡◌, refl, true, false, List, [], ◌∷◌, ◌++◌, length, take, drop, replicate, Some}
use Rattle.std.proofs.Common.{ap, ap₂, sym, ◌∙◌, append_assoc, arith, length-append, take_at, drop-drop}
use Rattle.octets.specs.Each.{Octets}
use Rattle.mac.specs.Md5Laws.{length-md5}
use Rattle.wire.specs.Header.{source_port_of, destination_port_of, header_end_of, area}
use Rattle.wire.specs.Options.{options_of}
use Rattle.wire.specs.OptionLaws.{once}
use Rattle.rules.specs.Mac.{pseudo_header}
use Rattle.rules.specs.Digest.{digest_front, digest_input, segment_digest}
use Rattle.rules.specs.Segment.{malformed, ao, md5, digest_in, Whole, md5_option, md5_option_bytes, digested_with}
use Rattle.rules.specs.Ends.{rechecked, with_ports}
use Rattle.rules.proofs.PortLaws.{Ports, ports_of_lem, written, unhidden-same}
use Rattle.rules.proofs.InsertedLaws.{cells, head_of, Fresh, Put, put, put-again, only}

pub length-digest : (key source destination s : List ℕ) → length (segment_digest key source destination s) ≡ 16
unfolding segment_digest
length-digest key source destination s = length-md5 (digest_input key source destination s)

-- the option with its two kind 1 bytes fills whole words
pub length-md5-option : (m : List ℕ) → length m ≡ 16 → length (md5_option m) ≡ md5_option_bytes
length-md5-option m h = omega (arith, h, length-append m (1 ∷ 1 ∷ []))

pub whole-md5-option : (m : List ℕ) → length m ≡ 16 → Whole (length (md5_option m))
whole-md5-option m h = omega (arith, length-md5-option m h)

-- what the receiver reads in a segment: one MD5 option, directly after byte 20
pub record ReadsMd5 (b m : List ℕ) : Type 0 where
  pub formed : malformed b ≡ false
  pub one : md5 b ≡ record { count = 1; at = 0; len = 18 }
  pub no-ao : (ao b).count ≡ 0
  pub digest : digest_in b ≡ m

pub reads-md5 : (s : List ℕ) → Fresh s → (m : List ℕ) → length m ≡ 16 → (u : Ports) (c d : ℕ) (b : List ℕ)
    → Put s (md5_option m) u c d b → ReadsMd5 b m
reads-md5 s fresh m h u c d b p =
    record { formed = rw options; one = rw options; no-ao = rw options; digest = rw options carried }
  where
    options : options_of (area b) ≡ Some (record { md5 = once true 18; ao = once false 18 })
    options = only s fresh 19 18 2 m (area b) (omega arith) (omega arith) (omega (arith, h)) p.its-area

    carried : take 16 (drop 22 b) ≡ m
    carried =
        ap (take 16) (sym (drop-drop 2 20 b))
        ∙ ap (λ (l : List ℕ). take 16 (drop 2 l)) (p.behind ∙ append_assoc (19 ∷ 18 ∷ m) (1 ∷ 1 ∷ []) (drop 20 s)) ∙ take_at m _ 16 h

-- the bytes under the digest: of the option its length alone, and the checksum not at all
input_of : (key source destination s opt : List ℕ) (u : Ports) (c d : ℕ) (b : List ℕ) → Put s opt u c d b
    → digest_input key source destination b
    ≡ pseudo_header source destination (length s + length opt) ++ cells u (head_of s) (length opt / 4) 0 0 ++ (drop (header_end_of s) s ++ key)
unfolding digest_input digest_front
input_of key source destination s opt u c d b p =
    ap₂ (λ (h r : List ℕ). digest_front source destination (length b) h ++ (r ++ key)) p.its-header p.its-data
    ∙ ap (λ (n : ℕ). pseudo_header source destination n ++ cells u (head_of s) (length opt / 4) 0 0 ++ (drop (header_end_of s) s ++ key))
    p.its-length

-- So the digest of the segment that arrives is that of the segment as it was signed, whatever digest stood in it, if its ports are the
-- signed ones.
pub same-input : (s : List ℕ) → Fresh s → Octets s → (m : List ℕ) → length m ≡ 16 → (sp dp c d : ℕ) → sp ≡ source_port_of s
    → dp ≡ destination_port_of s → (key source destination : List ℕ)
    → digest_input key source destination (rechecked c d (with_ports sp dp (digested_with m s)))
    ≡ digest_input key source destination (digested_with (replicate 16 0) s)
same-input s fresh octets m h sp dp c d source-port destination-port key source destination =
    input_of key source destination s (md5_option m) (written sp dp) c d _ (put-again s fresh (md5_option m) (whole-md5-option m h) sp dp c d)
    ∙ ap₂
    (λ (u : Ports) (n : ℕ). pseudo_header source destination (length s + n) ++ cells u (head_of s) (n / 4) 0 0 ++ (drop (header_end_of s) s ++ key))
    (unhidden-same (record { source = false; destination = false }) sp dp s octets (λ k. source-port) (λ k. destination-port))
    (length-md5-option m h)
    ∙ sym
    (input_of key source destination s (md5_option (replicate 16 0)) (ports_of_lem s) 0 0 _
    (put s fresh (md5_option (replicate 16 0)) (whole-md5-option (replicate 16 0) refl)))
