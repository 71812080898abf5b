-- Document 01, "The option in a segment": what a segment's TCP-AO says; document 02, Ticket 9: and its MD5 option (RFC 2385). Every reader
-- is total: where there is no such option, or the options are malformed, it reads the place 0 of the option area, and an earlier line of
-- document 01's table decides.
use Rattle.std.specs.Prelude.{ℕ, ◌+◌, ◌-◌, ◌*◌, ◌/◌, ◌%◌, ◌≡◌, Bool, not, ◌&&◌, List, [], ◌∷◌, ◌++◌, length, get_or, take, drop, replicate}
use Rattle.wire.specs.Header.{header_end_of, area, syn, ack}
use Rattle.wire.specs.Options.{options_of, is_malformed, ao_in, md5_in}
use Rattle.wire.specs.declared.options.Occurrence.{Occurrence}

-- the options of a segment's option area
abbrev pub malformed : List ℕ → Bool
malformed s = is_malformed (options_of (area s))

abbrev pub ao : List ℕ → Occurrence
ao s = ao_in (options_of (area s))

abbrev pub md5 : List ℕ → Occurrence
md5 s = md5_in (options_of (area s))

-- where the segment's TCP-AO stands: "TCP-AO is kind 29, length, KeyID, RNextKeyID, MAC"
abbrev pub ao_at : List ℕ → ℕ
ao_at s = 20 + (ao s).at

abbrev pub key_id_of : List ℕ → ℕ
key_id_of s = get_or s (ao_at s + 2) 0

abbrev pub rnext_key_id : List ℕ → ℕ
rnext_key_id s = get_or s (ao_at s + 3) 0

abbrev pub mac_in : List ℕ → List ℕ
mac_in s = take ((ao s).len - 4) (drop (ao_at s + 4) s)

-- RFC 2385, section 3.0: the MD5 option is "Kind=19, Length=18, MD5 digest"; "The MD5 digest is always 16 bytes in length"
abbrev pub md5_at : List ℕ → ℕ
md5_at s = 20 + (md5 s).at

abbrev pub digest_in : List ℕ → List ℕ
digest_in s = take 16 (drop (md5_at s + 2) s)

-- "a bare SYN (SYN set, ACK clear)"
abbrev pub is_bare_syn_of : List ℕ → Bool
is_bare_syn_of s = syn s && not (ack s)

-- An option is put into a header: bytes 0 to 11; byte 12 with the data offset raised by the option's words and its low four bits kept;
-- 13 to 15; the checksum zero; 18 and 19; the option; the old options. An option is meant whose length is a multiple of 4.
unfoldable pub inserted : List ℕ → List ℕ → List ℕ
inserted opt h =
    take 12 h ++ ((get_or h 12 0 + 16 * (length opt / 4)) ∷ take 3 (drop 13 h))
    ++ (0 ∷ 0 ∷ take 2 (drop 18 h))
    ++ opt
    ++ drop 20 h

-- into a segment's header; then the data
unfoldable pub with_option : List ℕ → List ℕ → List ℕ
with_option opt s = inserted opt (take (header_end_of s) s) ++ drop (header_end_of s) s

-- Document 02, Ticket 4: "The signer pads the option, directly behind it, with kind 1 bytes to the next multiple of four." As many as a
-- MAC of n bytes leaves open, since TCP-AO has four bytes besides.
abbrev pub padding : ℕ → ℕ
padding n = (4 - n % 4) % 4

-- TCP-AO with KeyID k, RNextKeyID r and MAC m, and its padding, which its length byte does not count
abbrev pub option_of : ℕ → ℕ → List ℕ → List ℕ
option_of k r m = (29 ∷ (4 + length m) ∷ k ∷ r ∷ m) ++ replicate (padding (length m)) 1

-- how many bytes that has with a MAC of n bytes
abbrev pub option_bytes : ℕ → ℕ
option_bytes n = 4 + n + padding n

-- an option fills whole words
abbrev pub Whole : ℕ → Type 0
Whole n = 4 * (n / 4) ≡ n

-- "Signing puts TCP-AO directly after byte 20, the old options behind it, raises the data offset .., and writes checksum zero." (the MAC is
-- over these bytes; `with_checksum_of` writes the right one behind it); Ticket 4:
-- "the data offset rises by the words of the padded option"
abbrev pub signed_with : ℕ → ℕ → List ℕ → List ℕ → List ℕ
signed_with k r m s = with_option (option_of k r m) s

-- Ticket 9: "The signer puts it after byte 20 with two kind 1 bytes behind it": the MD5 option with the digest d
abbrev pub md5_option : List ℕ → List ℕ
md5_option d = (19 ∷ 18 ∷ d) ++ (1 ∷ 1 ∷ [])

-- how many bytes that has: "which 32 counts"
abbrev pub md5_option_bytes : ℕ
md5_option_bytes = 20

abbrev pub digested_with : List ℕ → List ℕ → List ℕ
digested_with d s = with_option (md5_option d) s
