-- Places in a list of entries, counted from 0.
use Rattle.std.specs.Prelude.{ℕ, suc, List, ◌∷◌}
use Rattle.keys.specs.declared.entry.Entry.{Entry}

-- the entry e stands at the place i of the list l
pub data At : List Entry → ℕ → Entry → Type 0 where
  here : {e : Entry} {l : List Entry} → At (e ∷ l) 0 e
  there : {e f : Entry} {l : List Entry} {i : ℕ} → At l i e → At (f ∷ l) (suc i) e
