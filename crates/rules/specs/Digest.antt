-- RFC 2385, section 2.0: what the MD5 option's digest is of; document 02, Ticket 9. Of MD5 nothing is used but its name and the length of
-- what it gives.
use Rattle.std.specs.Prelude.{ℕ, List, ◌++◌, length, take, drop}
use Rattle.mac.specs.Md5.{md5}
use Rattle.wire.specs.Header.{header_end_of}
use Rattle.rules.specs.Mac.{pseudo_header, blank}

-- "1. the TCP pseudo-header .. 2. the TCP header, excluding options, and assuming a checksum of zero": of a segment of len bytes, whose
-- header is the last argument; "for IPv6 over 01's pseudo-header"
unfoldable pub digest_front : List ℕ → List ℕ → ℕ → List ℕ → List ℕ
digest_front source destination len header = pseudo_header source destination len ++ take 20 (blank 16 2 header)

-- "3. the TCP segment data (if any) 4. an independently-specified key or password, known to both TCPs"
unfoldable pub digest_input : List ℕ → List ℕ → List ℕ → List ℕ → List ℕ
digest_input key source destination s =
    digest_front source destination (length s) (take (header_end_of s) s) ++ (drop (header_end_of s) s ++ key)

unfoldable pub segment_digest : List ℕ → List ℕ → List ℕ → List ℕ → List ℕ
segment_digest key source destination s = md5 (digest_input key source destination s)
