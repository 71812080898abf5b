-- The fixed numbers of the algorithms: document 01, "Traffic keys", and RFC 5926, section 3; document 02, Ticket 13;
-- and Ticket 9: 19, TCP MD5, has the 16 bytes of its digest and 0 for the others. An algorithm that is not listed has 0 for each.
use Rattle.std.specs.Prelude.{ℕ, cond, eqb}

-- algorithm 1 is HMAC-SHA-1-96, algorithm 2 AES-128-CMAC-96, "algorithm 3: HMAC-SHA-256"
abbrev pub by_algorithm : ℕ → ℕ → ℕ → ℕ → ℕ
by_algorithm x y z a = cond (eqb a 1) x (cond (eqb a 2) y (cond (eqb a 3) z 0))

-- "traffic key bytes (20 and 16)"; of algorithm 3 as many as HMAC-SHA-256 gives
unfoldable pub traffic_key_bytes_of : ℕ → ℕ
traffic_key_bytes_of a = by_algorithm 20 16 32 a

-- "MAC bytes (12 and 12)", and 12 of algorithm 3: the MAC's length where the entry's kind has no byte for it. Algorithm 19 is the MD5
-- table's: RFC 2385, section 2.0, "the 16-byte MD5 digest". A key table that has it is refused with 13.
unfoldable pub mac_bytes_of : ℕ → ℕ
mac_bytes_of a = cond (eqb a 19) 16 (by_algorithm 12 12 12 a)

-- "the output length in bits as two bytes (160 or 128)"; "with output length 256"
unfoldable pub output_bits_of : ℕ → ℕ
output_bits_of a = by_algorithm 160 128 256 a
