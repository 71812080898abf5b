-- What the bytes that TCP-AO adds come to, for a MAC of any length, and those of MD5: the statements of Growth.antt.
use Rattle.std.specs.Prelude.{ℕ, ◌+◌, ◌*◌, ◌/◌, ◌≡◌, refl, Bool, true, false, cond, List, [], ◌∷◌, length, ltb}
use Rattle.std.proofs.Common.{ap, sym, ◌∙◌, arith, ltb-true, lt-ltb, ltb-false, le-ltb}
use Rattle.wire.specs.Header.{data_offset_of, header_end_of}
use Rattle.octets.specs.Tests.{tests}
use Rattle.rules.specs.Segment.{option_bytes, md5_option_bytes, Whole}
use Rattle.rules.specs.Calls.{refuse, outgoing, added_bytes_of, growth_tests}
use Rattle.rules.proofs.RoundTripLaws.{whole_words}
use Rattle.rules.proofs.SigningLaws.{signed-good}
use Rattle.rules.specs.Growth.{GrowthIs, Growth12, Growth16, GrowthMd5, SignedLength, SignedLengthMd5}

-- a header of 60 bytes is passed, by words
pub above-15 : (s : List ℕ) (added : ℕ) → Whole added → ltb 60 (header_end_of s + added) ≡ ltb 15 (data_offset_of s + added / 4)
above-15 s added w = go (ltb 15 (data_offset_of s + added / 4)) refl
  where
    go : (b : Bool) → ltb 15 (data_offset_of s + added / 4) ≡ b → ltb 60 (header_end_of s + added) ≡ b
    go true e = let h = ltb-true 15 (data_offset_of s + added / 4) e in lt-ltb 60 (header_end_of s + added) (omega arith)
    go false e = let h = ltb-false 15 (data_offset_of s + added / 4) e in le-ltb 60 (header_end_of s + added) (omega arith)

pub growth-is : GrowthIs
growth-is e s =
    ap (λ (b : Bool). tests (refuse 32) (b ∷ ltb 65535 (length s + added_bytes_of e) ∷ []))
    (above-15 s (added_bytes_of e) (whole_words e.secret.mac_bytes))

-- "data offset above 11" with four words more, above 10 with five
above : (s : List ℕ) (most added : ℕ) → 4 * most + added ≡ 60 → ltb 60 (header_end_of s + added) ≡ ltb most (data_offset_of s)
above s most added f = go (ltb most (data_offset_of s)) refl
  where
    go : (b : Bool) → ltb most (data_offset_of s) ≡ b → ltb 60 (header_end_of s + added) ≡ b
    go true e = let h = ltb-true most (data_offset_of s) e in lt-ltb 60 (header_end_of s + added) (omega arith)
    go false e = let h = ltb-false most (data_offset_of s) e in le-ltb 60 (header_end_of s + added) (omega arith)

pub growth-12 : Growth12
growth-12 e s is =
    ap (λ (n : ℕ). growth_tests (option_bytes n) s) is ∙ ap (λ (b : Bool). tests (refuse 32) (b ∷ ltb 65535 (length s + 16) ∷ [])) (above s 11 16 refl)

pub growth-16 : Growth16
growth-16 e s is =
    ap (λ (n : ℕ). growth_tests (option_bytes n) s) is ∙ ap (λ (b : Bool). tests (refuse 32) (b ∷ ltb 65535 (length s + 20) ∷ [])) (above s 10 20 refl)

pub growth-md5 : GrowthMd5
growth-md5 s = ap (λ (b : Bool). tests (refuse 32) (b ∷ ltb 65535 (length s + 20) ∷ [])) (above s 10 20 refl)

pub signed-length : SignedLength
signed-length t s out q n way e =
    sym (signed-good t s out q n e).3 ∙ ap (λ (b : Bool). length s + cond b md5_option_bytes (added_bytes_of (outgoing t q).entry)) way

pub signed-length-md5 : SignedLengthMd5
signed-length-md5 t s out q n way e =
    sym (signed-good t s out q n e).3 ∙ ap (λ (b : Bool). length s + cond b md5_option_bytes (added_bytes_of (outgoing t q).entry)) way
