-- What is printed as the same of two states. Assumes nothing.
use Rattle.std.specs.Prelude.{ℕ, Bool, true, false, ◌&&◌, List, [], ◌∷◌, ◌==◌}
use Rattle.rules.specs.declared.State.{State}

-- two lists agree, number by number
unfoldable pub same : List ℕ → List ℕ → Bool
same [] [] = true
same [] (y ∷ b) = false
same (x ∷ a) [] = false
same (x ∷ a) (y ∷ b) = x == y && same a b

-- the counts, the reference of the arriving direction and the outgoing key
unfoldable pub alike : State → State → Bool
alike q r =
    (q.accepted == r.accepted)
    && (q.seen == r.seen && (q.send_id == r.send_id && same q.drops r.drops))
