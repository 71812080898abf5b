use Rattle.std.proofs.Common.{sym, ap, ◌∙◌, Bool, cond, eq-eqb, ne_eqb, ◌+◌}
use Rattle.keys.proofs.EntryLaws.{known-size}
use Rattle.keys.proofs.entry.size_of.Goals as goal

pub returns-then-family_of-eq4 : goal.returns-then-family_of-eq4
returns-then-family_of-eq4 c =
    let k = c.args.kind in
    sym (known-size k c.requires ∙ ap (λ (b : Bool). cond b 100 122 + k) (eq-eqb _ 4 (sym c.family_of.ensures ∙ c.if-family_of-eq4.true)))

pub returns-else-family_of-eq4 : goal.returns-else-family_of-eq4
returns-else-family_of-eq4 c =
    let k = c.args.kind in
    sym (known-size k c.requires ∙ ap (λ (b : Bool). cond b 100 122 + k) (ne_eqb _ 4 (λ e. c.if-family_of-eq4.false (c.family_of.ensures ∙ e))))
