-- What `First` says of the index is what `found` gives.
use Rattle.std.proofs.Common.{refl, ◌∙◌, arith}
use Rattle.keys.specs.Table.{nobody}
use Rattle.prepared.specs.Prepared.{stored_entry, stored_at}
use Rattle.prepared.proofs.ScanSteps.{find_none, find-here}
use Rattle.prepared.proofs.stored.Stored.find.Goals as goal

pub returns-in_err-i : goal.returns-in_err-i
returns-in_err-i c =
    let a = c.args in
    rw c.from_residual.ensures (find_none a.kind a.self.now.bytes.now a.self.now.n a.by a.pair c.requires.1 a.first a.count _ c.in_err-i.ensures.first refl nobody refl)

pub returns : goal.returns
unfolding stored_at
returns c =
    let a = c.args in
    find-here a.kind a.self.now.bytes.now a.self.now.n a.by a.pair c.requires.1 a.first a.count _ c.in_ok-i.ensures.first (λ z. omega (arith, c.in_ok-i.ensures.inside)) _
    (c.entry.ensures ∙ (λ k. stored_entry a.kind (c.raw.ensures.0 k) (c.raw.ensures.1 k)))
