-- The first entry of what is left, and those behind it.
use Rattle.std.proofs.Common.{sym, ap, ◌∙◌, ◌∷◌, arith, length}
use Rattle.keys.specs.Entry.{entries}
use Rattle.keys.proofs.WalkLaws.{entries-first, entries-none}
use Rattle.keys.proofs.table.EntriesIterator.next.Goals as goal

pub returns-in_err-entry-clause-steps : goal.returns-in_err-entry-clause-steps
returns-in_err-entry-clause-steps c = let e = sym c.self.view_is ∙ entries-none _ c.in_err-entry.ensures in rw c.from_residual.ensures (e, e)

pub returns-clause-steps : goal.returns-clause-steps
returns-clause-steps c =
    let h = c.in_ok-entry.ensures in
    sym c.self.view_is ∙ entries-first _ h.0 ∙ (λ i. sym h.1 i ∷ entries (sym h.2 i))

pub returns-clause-goes : goal.returns-clause-goes
returns-clause-goes c =
    let l = ap length (returns-clause-steps c) in record { on = λ _. (tt, tt, omega arith); keeps = tt; rests = λ _. tt }
