-- How many bytes a call takes: at least one where there is one, and no more than there are. Assumes nothing.
use Rattle.std.specs.Prelude.{◌≡◌, ℕ, zero, suc, ◌<◌, ◌≤◌, Bool, true, false, List, [], ◌∷◌, length, take, ◌==◌, nat_lt, slice_index, refl}
use Rattle.std.proofs.Common.{arith, mod-lt, length-take}
use Rattle.recording.specs.declared.desk.Desk as C
use Rattle.recording.specs.Recording.{Desk, kind_of, record_bytes_of, is_stopped}
use Rattle.recording.specs.Views.{desk_view, held_count, record_part, taken}

-- a record has at least its kind
pub bytes-some : (k : ℕ) → 0 < record_bytes_of k
unfolding record_bytes_of
bytes-some k = go (k == 1) (k == 2) refl refl
  where
    go : (a b : Bool) → (k == 1) ≡ a → (k == 2) ≡ b → 0 < record_bytes_of k
    go true b p q = rw p (omega arith)
    go false true p q = rw (p, q) (omega arith)
    go false false p q = rw (p, q) (omega arith)

pub taken-le : (d : Desk) (s : List ℕ) → taken d s ≤ length s
taken-le d s = go (is_stopped d) refl
  where
    go : (b : Bool) → is_stopped d ≡ b → taken d s ≤ length s
    go true e = rw e (omega arith)
    go false e = rw e (omega arith)

-- fewer bytes are held than the record has
part-some : (g s : List ℕ) (n : ℕ) → n < record_bytes_of (slice_index g 0) → 0 < length s → 0 < record_part (take n g) s
part-some g s zero h l = let w = bytes-some (kind_of s) in omega arith
part-some [] s (suc n) h l = let w = bytes-some (kind_of s) in omega arith
part-some (k ∷ g) s (suc n) h l = let w = length-take n g in omega arith

pub taken-some : (p t : List ℕ) (c : C.Desk) (s : List ℕ) → 0 < length s → 0 < taken (desk_view p t c) s
taken-some p t c s l = go (nat_lt 1 c.stage) refl
  where
    go : (b : Bool) → nat_lt 1 c.stage ≡ b → 0 < taken (desk_view p t c) s
    go true e = rw e l
    go false e = rw e (part-some c.begun s (held_count c) (mod-lt c.held (bytes-some (slice_index c.begun 0))) l)

-- for a loop over the bytes b that are left: it goes on, and stays inside
pub goes_on : (p t : List ℕ) (c : C.Desk) (b : List ℕ) (n : ℕ) → 0 < length b → n ≡ taken (desk_view p t c) b → (0 < n) × (n ≤ length b)
goes_on p t c b n h e =
    let w = taken-le (desk_view p t c) b in
    let z = taken-some p t c b h in
    (omega arith, omega arith)
