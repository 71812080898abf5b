-- What signing answers: how many bytes were written, or the number of its refusal.
use Rattle.std.specs.Prelude.{ℕ}

pub data Signing : Type 0 where
  Signed : ℕ → Signing
  Refused : ℕ → Signing
