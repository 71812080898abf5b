-- Document 01, "Traffic keys" and "What the MAC covers": RFC 5925 §5.1 and §5.2, RFC 5926 §3.1 and §3.2; document 02, Tickets 10 (RFC 6978)
-- and 13.
-- Of HMAC and AES-CMAC nothing is used but their names and the lengths of what they give.
use Rattle.std.specs.Prelude.{ℕ, ◌+◌, Bool, cond, ◌||◌, List, [], ◌∷◌, ◌++◌, length, take, drop, replicate, eqb}
use Rattle.octets.specs.Octets.{bytes16, bytes32}
use Rattle.mac.specs.Hmac.{hmac_sha1_of, hmac_sha256_of}
use Rattle.mac.specs.Cmac.{cmac}
use Rattle.wire.specs.Header.{header_end_of}
use Rattle.keys.specs.declared.entry.Secret.{Secret}
use Rattle.keys.specs.Algorithm.{output_bits_of}
use Rattle.keys.specs.Entry.{key_of, all_options, local_hidden_of, remote_hidden}
use Rattle.rules.specs.declared.Hidden.{Hidden}

-- a segment's two ends: "'source' is whoever sent the segment"
pub record Flow : Type 0 where
  pub source : List ℕ
  pub destination : List ℕ
  pub source_port : ℕ
  pub destination_port : ℕ
  pub source_isn : ℕ
  pub destination_isn : ℕ

-- Document 02, Ticket 10: "flags 2 for the local and 4 for the remote side, under which that side's address and port count as zero in the
-- traffic key context and in the MAC's pseudo-header and header". Of which sides of a segment this holds is `Hidden`: one that we sign
-- leaves our local side; one that arrives comes from the remote side.
abbrev pub leaving_hidden_of : Secret → Hidden
leaving_hidden_of s = record { source = local_hidden_of s; destination = remote_hidden s }

abbrev pub arriving_hidden_of : Secret → Hidden
arriving_hidden_of s = record { source = remote_hidden s; destination = local_hidden_of s }

-- the address of a hidden side: as many zero bytes as its family has
abbrev pub address_under : Bool → List ℕ → List ℕ
address_under hidden a = cond hidden (replicate (length a) 0) a

abbrev pub port_under_lem : Bool → ℕ → ℕ
port_under_lem hidden n = cond hidden 0 n

-- a flow as the traffic key's context and the MAC's pseudo-header have it: the ISNs stay
abbrev pub blanked : Hidden → Flow → Flow
blanked h f =
    record {
      source = address_under h.source f.source;
      destination = address_under h.destination f.destination;
      source_port = port_under_lem h.source f.source_port;
      destination_port = port_under_lem h.destination f.destination_port;
      source_isn = f.source_isn;
      destination_isn = f.destination_isn;
    }

-- "The context is source address, destination address, source port, destination port, source ISN, destination ISN"
unfoldable pub context : Flow → List ℕ
context f =
    f.source ++ f.destination ++ bytes16 f.source_port ++ bytes16 f.destination_port ++ bytes32 f.source_isn
    ++ bytes32 f.destination_isn

-- "The input is one byte 1, the six bytes "TCP-AO", the context, and the output length in bits as two bytes"
unfoldable pub derivation_input_of : ℕ → Flow → List ℕ
derivation_input_of bits f = (1 ∷ 0x54 ∷ 0x43 ∷ 0x50 ∷ 0x2d ∷ 0x41 ∷ 0x4f ∷ []) ++ context f ++ bytes16 bits

-- "Algorithm 2 applies AES-CMAC under the master key if that has 16 bytes; otherwise under AES-CMAC of the master key with an all-zero
-- key."
unfoldable pub aes_key_of : List ℕ → List ℕ
aes_key_of k = cond (eqb (length k) 16) k (cmac (replicate 16 0) k)

-- the algorithms that apply an HMAC: 1, and Ticket 13's 3
abbrev pub is_hmac_of : ℕ → Bool
is_hmac_of algorithm = eqb algorithm 1 || eqb algorithm 3

-- The key under which an algorithm derives, and the MAC that it applies: 1 HMAC-SHA-1, 2 AES-128-CMAC, 3 HMAC-SHA-256 (13 leaves no
-- other). Ticket 13: "HMAC-SHA-256, also in place of HMAC-SHA-1 in algorithm 1's key derivation, .. without an extraction step": under the
-- master key itself.
abbrev pub derivation_key : ℕ → List ℕ → List ℕ
derivation_key algorithm k = cond (is_hmac_of algorithm) k (aes_key_of k)

unfoldable pub applied : ℕ → List ℕ → List ℕ → List ℕ
applied algorithm k m = cond (eqb algorithm 1) (hmac_sha1_of k m) (cond (eqb algorithm 3) (hmac_sha256_of k m) (cmac k m))

unfoldable pub traffic_key_of : Secret → Flow → List ℕ
traffic_key_of s f = applied s.algorithm (derivation_key s.algorithm (key_of s)) (derivation_input_of (output_bits_of s.algorithm) f)

-- "the IP pseudo-header as for the checksum, with the whole segment's length": n bytes of TCP, protocol 6 (RFC 9293 §3.1, RFC 8200 §8.1)
unfoldable pub pseudo_header : List ℕ → List ℕ → ℕ → List ℕ
pseudo_header source destination n =
    source ++ destination ++ cond (eqb (length source) 4) ((0 ∷ 6 ∷ []) ++ bytes16 n) (bytes32 n ++ (0 ∷ 0 ∷ 0 ∷ 6 ∷ []))

-- n bytes from i on made zero
abbrev pub blank : ℕ → ℕ → List ℕ → List ℕ
blank i n l = take i l ++ (replicate n 0 ++ drop (i + n) l)

-- a hidden side's port in the header: source port at byte 0, destination port at byte 2
abbrev pub blank_if_of : Bool → ℕ → ℕ → List ℕ → List ℕ
blank_if_of hidden i n l = cond hidden (blank i n l) l

abbrev pub ports_blanked_of : Hidden → List ℕ → List ℕ
ports_blanked_of h l = blank_if_of h.destination 2 2 (blank_if_of h.source 0 2 l)

-- "the TCP header with checksum and MAC bytes zero": TCP-AO stands at `at`, its MAC has n bytes
abbrev pub zeroed : ℕ → ℕ → List ℕ → List ℕ
zeroed at n h = blank (at + 4) n (blank 16 2 h)

-- "With flag 0 only the header's first 20 bytes, data offset as sent, and TCP-AO remain."
unfoldable pub covered_header : Bool → ℕ → ℕ → List ℕ → List ℕ
covered_header all at n h = cond all (zeroed at n h) (take 20 (zeroed at n h) ++ take (4 + n) (drop at (zeroed at n h)))

-- "In this order: the extension (4 bytes); the IP pseudo-header ..; the TCP header ..; the data." What stands before the data, of a
-- segment of len bytes whose header is the last argument; its flow is blanked already:
unfoldable pub front : Secret → Hidden → Flow → ℕ → ℕ → ℕ → List ℕ → List ℕ
front s h f extension at len header =
    bytes32 extension ++ pseudo_header f.source f.destination len
    ++ covered_header (all_options s) at s.mac_bytes (ports_blanked_of h header)

unfoldable pub message : Secret → Hidden → Flow → ℕ → ℕ → List ℕ → List ℕ
message s h f extension at segment =
    front s h f extension at (length segment) (take (header_end_of segment) segment) ++ drop (header_end_of segment) segment

-- "The leftmost 12 bytes are the MAC"; document 02, Ticket 4: "no longer .. twelve bytes but the leftmost n", the entry's number
unfoldable pub segment_mac : Secret → Hidden → Flow → ℕ → ℕ → List ℕ → List ℕ
segment_mac s h f extension at segment =
    take s.mac_bytes (applied s.algorithm (traffic_key_of s (blanked h f)) (message s h (blanked h f) extension at segment))
