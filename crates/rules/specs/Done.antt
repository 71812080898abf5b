-- What an active opening and the operator's call answer.
use Rattle.std.specs.Prelude.{ℕ}

pub data Done : Type 0 where
  Succeeded : Done
  Refused : ℕ → Done
