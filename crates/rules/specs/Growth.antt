-- 32 in the papers' words, as statements: what the bytes that TCP-AO adds come to, for every MAC length and for document 01's; and what
-- the MD5 option adds.
-- GrowthLaws proves them.
use Rattle.std.specs.Prelude.{ℕ, ◌+◌, ◌/◌, ◌≡◌, true, false, List, [], ◌∷◌, length, ltb}
use Rattle.wire.specs.Header.{data_offset_of}
use Rattle.keys.specs.declared.entry.Entry.{Entry}
use Rattle.tables.specs.Tables.{Tables}
use Rattle.rules.specs.declared.State.{State}
use Rattle.rules.specs.declared.Outcome.{Outcome}
use Rattle.rules.specs.Signing as S
use Rattle.octets.specs.Tests.{Test, tests}
use Rattle.rules.specs.Segment.{md5_option_bytes}
use Rattle.rules.specs.Connection.{is_md5_of}
use Rattle.rules.specs.Calls.{refuse, outgoing, added_bytes_of, growth_tests, signed}

-- 32, where so many words come and the data offset may be at most `most` before
abbrev pub tests32 : ℕ → ℕ → List ℕ → List (Test Outcome)
tests32 most added s = tests (refuse 32) (ltb most (data_offset_of s) ∷ ltb 65535 (length s + added) ∷ [])

-- Ticket 4: "the data offset rises by the words of the padded option, and 32 .. is given when it would pass 15 or the result 65,535 bytes"
abbrev pub GrowthIs : Type 0
GrowthIs = (e : Entry) (s : List ℕ)
    → growth_tests (added_bytes_of e) s
    ≡ tests (refuse 32) (ltb 15 (data_offset_of s + added_bytes_of e / 4) ∷ ltb 65535 (length s + added_bytes_of e) ∷ [])

-- document 01: "data offset above 11, or result above 65,535 bytes", and "With a 12-byte MAC the length is 16."
abbrev pub Growth12 : Type 0
Growth12 = (e : Entry) (s : List ℕ) → e.secret.mac_bytes ≡ 12 → growth_tests (added_bytes_of e) s ≡ tests32 11 16 s

-- with a MAC of 16 bytes a header of ten words can still be signed
abbrev pub Growth16 : Type 0
Growth16 = (e : Entry) (s : List ℕ) → e.secret.mac_bytes ≡ 16 → growth_tests (added_bytes_of e) s ≡ tests32 10 20 s

-- Ticket 9: the MD5 option "with two kind 1 bytes behind it, which 32 counts": a header of ten words can still be signed
abbrev pub GrowthMd5 : Type 0
GrowthMd5 = (s : List ℕ) → growth_tests md5_option_bytes s ≡ tests32 10 20 s

-- what is signed is longer by the padded option, by either way
abbrev pub SignedLength : Type 0
SignedLength = (t : Tables) (s out : List ℕ) (q : State) (n : ℕ) → is_md5_of q.conn ≡ false → (signed t s out q).answer ≡ S.Signed n
    → n ≡ length s + added_bytes_of (outgoing t q).entry

abbrev pub SignedLengthMd5 : Type 0
SignedLengthMd5 = (t : Tables) (s out : List ℕ) (q : State) (n : ℕ) → is_md5_of q.conn ≡ true → (signed t s out q).answer ≡ S.Signed n
    → n ≡ length s + 20
