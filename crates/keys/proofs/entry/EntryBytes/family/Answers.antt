use Rattle.std.proofs.Common.{ap, ◌∙◌}
use Rattle.keys.specs.Entry.{entry_of, selector_of_lem}
use Rattle.keys.specs.declared.entry.Entry.{Entry}
use Rattle.keys.proofs.entry.EntryBytes.family.Goals as goal

pub returns : goal.returns
unfolding entry_of selector_of_lem
returns c = c.family_of.ensures ∙ ap (λ (e : Entry). e.selector.family) c.self.view_is
