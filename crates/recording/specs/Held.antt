-- What `Desk::hold` promises the functions above it. Assumes nothing.
use Rattle.std.specs.Prelude.{◌≡◌, ℕ, ◌+◌, List, ◌++◌, length, take}
use Rattle.recording.specs.declared.desk.Desk as C
use Rattle.recording.specs.Recording.{with_held}
use Rattle.recording.specs.Views.{held_count, desk_view}

-- the desk r is that of c with more bytes of the record that is begun, which it does not count yet
pub record Holds (c : C.Desk) (more : List ℕ) (r : C.Desk) : Type 0 where
  pub bytes : take (held_count c + length more) r.begun ≡ take (held_count c) c.begun ++ more
  pub rest : (printed table h : List ℕ) → with_held h (desk_view printed table r) ≡ with_held h (desk_view printed table c)
  pub counts : r.table_length ≡ c.table_length
