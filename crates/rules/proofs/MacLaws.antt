-- Laws of the MAC of a segment: its length, and what it depends on. "no hypothesis on the MAC is left open".
use Rattle.std.specs.Prelude.{ℕ, ◌+◌, ◌%◌, ◌≤◌, ◌≡◌, refl, Bool, true, false, cond, List, ◌++◌, length, take, drop, replicate, eqb}
use Rattle.std.proofs.Common.{ap, arith, length-append, length-take-le}
use Rattle.octets.specs.Octets.{bytes32}
use Rattle.mac.specs.Hmac.{hmac_sha1_of, hmac_sha256_of}
use Rattle.mac.specs.Cmac.{cmac}
use Rattle.mac.specs.HmacLaws.{length-hmac_sha1, length-hmac_sha256}
use Rattle.mac.specs.CmacLaws.{length-cmac}
use Rattle.wire.specs.Header.{header_end_of}
use Rattle.keys.specs.declared.entry.Secret.{Secret}
use Rattle.keys.specs.Algorithm.{output_bits_of}
use Rattle.keys.specs.Entry.{key_of}
use Rattle.rules.specs.declared.Hidden.{Hidden}
use Rattle.rules.specs.Mac.{Flow, address_under, port_under_lem, blanked, context, derivation_input_of, aes_key_of, derivation_key, applied}
use Rattle.rules.specs.Mac.{traffic_key_of, pseudo_header, ports_blanked_of, covered_header, front, message, segment_mac}

-- every algorithm gives at least 16 bytes
pub applied-long : (algorithm : ℕ) (k m : List ℕ) → 16 ≤ length (applied algorithm k m)
unfolding applied
applied-long algorithm k m = go (eqb algorithm 1) (eqb algorithm 3)
  where
    go : (a b : Bool) → 16 ≤ length (cond a (hmac_sha1_of k m) (cond b (hmac_sha256_of k m) (cmac k m)))
    go true b = omega (arith, length-hmac_sha1 k m)
    go false true = omega (arith, length-hmac_sha256 k m)
    go false false = omega (arith, length-cmac k m)

pub length-mac : (s : Secret) (v : Hidden) (f : Flow) (extension at : ℕ) (segment : List ℕ) → s.mac_bytes ≤ 16
    → length (segment_mac s v f extension at segment) ≡ s.mac_bytes
unfolding segment_mac
length-mac s v f extension at segment h =
    let k = traffic_key_of s (blanked v f) in
    let m = message s v (blanked v f) extension at segment in
    length-take-le s.mac_bytes (applied s.algorithm k m) (omega (arith, applied-long s.algorithm k m))

-- "traffic key bytes (20 and 16)", and 32 of algorithm 3
pub length-key-1 : (s : Secret) (f : Flow) → s.algorithm ≡ 1 → length (traffic_key_of s f) ≡ 20
unfolding traffic_key_of applied
length-key-1 s f e = rw e (length-hmac_sha1 (key_of s) (derivation_input_of (output_bits_of 1) f))

pub length-key-2 : (s : Secret) (f : Flow) → s.algorithm ≡ 2 → length (traffic_key_of s f) ≡ 16
unfolding traffic_key_of applied
length-key-2 s f e = rw e (length-cmac (aes_key_of (key_of s)) (derivation_input_of (output_bits_of 2) f))

pub length-key-3 : (s : Secret) (f : Flow) → s.algorithm ≡ 3 → length (traffic_key_of s f) ≡ 32
unfolding traffic_key_of applied
length-key-3 s f e = rw e (length-hmac_sha256 (key_of s) (derivation_input_of (output_bits_of 3) f))

-- "It has 20 bytes for IPv4, 44 for IPv6", and the input "29 or 53 bytes in all"
pub length-context : (f : Flow) → length (context f) ≡ length f.source + length f.destination + 12
unfolding context
length-context f = simp length-append (omega arith)

pub length-input : (bits : ℕ) (f : Flow) → length (derivation_input_of bits f) ≡ length f.source + length f.destination + 21
unfolding derivation_input_of
length-input bits f = simp length-append (omega (arith, length-context f))

-- two secrets that agree in what the MAC is made of, besides the sides that they hide
pub record Agree (s r : Secret) : Type 0 where
  pub flags : s.flags % 2 ≡ r.flags % 2
  pub algorithm : s.algorithm ≡ r.algorithm
  pub mac : s.mac_bytes ≡ r.mac_bytes
  pub key : key_of s ≡ key_of r

pub mac-agree : (s r : Secret) (v : Hidden) (f : Flow) (extension at : ℕ) (segment : List ℕ) → Agree s r
    → segment_mac s v f extension at segment ≡ segment_mac r v f extension at segment
unfolding segment_mac traffic_key_of message front
mac-agree s r v f extension at segment a =
    λ i. take (a.mac i)
    (applied (a.algorithm i)
    (applied (a.algorithm i) (derivation_key (a.algorithm i) (a.key i)) (derivation_input_of (output_bits_of (a.algorithm i)) (blanked v f)))
    (bytes32 extension ++ pseudo_header (blanked v f).source (blanked v f).destination (length segment)
    ++ covered_header (eqb (a.flags i) 1) at (a.mac i) (ports_blanked_of v (take (header_end_of segment) segment))
    ++ drop (header_end_of segment) segment))

-- what the MAC sees of a side: the same, if the side is hidden or is the same
address-under : (hidden : Bool) (a b : List ℕ) → length a ≡ length b → (hidden ≡ false → a ≡ b) → address_under hidden a ≡ address_under hidden b
address-under true a b l e = ap (λ (n : ℕ). replicate n 0) l
address-under false a b l e = e refl

pub port-under : (hidden : Bool) (m n : ℕ) → (hidden ≡ false → m ≡ n) → port_under_lem hidden m ≡ port_under_lem hidden n
port-under true m n e = refl
port-under false m n e = e refl

-- two flows, of which the MAC sees the same
pub record Alike (v : Hidden) (f g : Flow) : Type 0 where
  pub source-length : length f.source ≡ length g.source
  pub destination-length : length f.destination ≡ length g.destination
  pub source : v.source ≡ false → f.source ≡ g.source
  pub destination : v.destination ≡ false → f.destination ≡ g.destination
  pub source-port : v.source ≡ false → f.source_port ≡ g.source_port
  pub destination-port : v.destination ≡ false → f.destination_port ≡ g.destination_port
  pub source-isn : f.source_isn ≡ g.source_isn
  pub destination-isn : f.destination_isn ≡ g.destination_isn

pub blanked-alike : (v : Hidden) (f g : Flow) → Alike v f g → blanked v f ≡ blanked v g
blanked-alike v f g a = λ i. record {
  source = address-under v.source f.source g.source a.source-length a.source i;
  destination = address-under v.destination f.destination g.destination a.destination-length a.destination i;
  source_port = port-under v.source f.source_port g.source_port a.source-port i;
  destination_port = port-under v.destination f.destination_port g.destination_port a.destination-port i;
  source_isn = a.source-isn i;
  destination_isn = a.destination-isn i;
}
