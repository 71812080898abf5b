use Rattle.std.proofs.Common.{◌≡◌, refl, sym, arith, ap, ◌∙◌, get_or}
use Rattle.keys.proofs.Bytes.{sides-room}
use Rattle.keys.specs.Entry.{family_of_lem, width, entry_of, selector_of_lem}
use Rattle.keys.specs.declared.entry.Entry.{Entry}
use Rattle.keys.proofs.entry.EntryBytes.selector.Goals as goal

pub side_of-requires : goal.side_of-requires
unfolding entry_of selector_of_lem
side_of-requires c =
    let k = get_or c.self.inside.bytes.now 0 0 in
    let f : c.family-family.result ≡ family_of_lem k = c.family-family.ensures ∙ sym (ap (λ (e : Entry). e.selector.family) c.self.view_is) in
    let r = sides-room k _ _ _ f refl c.self.invariant in
    (omega arith, omega arith)

pub overflow_add-width_of : goal.overflow_add-width_of
unfolding entry_of selector_of_lem
overflow_add-width_of c =
    let k = get_or c.self.inside.bytes.now 0 0 in
    let f : c.family-family.result ≡ family_of_lem k = c.family-family.ensures ∙ sym (ap (λ (e : Entry). e.selector.family) c.self.view_is) in
    omega (arith, sides-room k _ _ _ f c.width_of.ensures c.self.invariant)

pub side_of-requires-2 : goal.side_of-requires-2
unfolding entry_of selector_of_lem
side_of-requires-2 c =
    let k = get_or c.self.inside.bytes.now 0 0 in
    let f : c.family-family.result ≡ family_of_lem k = c.family-family.ensures ∙ sym (ap (λ (e : Entry). e.selector.family) c.self.view_is) in
    let r = sides-room k _ _ _ f c.width_of.ensures c.self.invariant in
    let w = c.width_of.ensures in
    (omega arith, omega arith)

pub returns : goal.returns
unfolding entry_of selector_of_lem
returns c =
    let k = get_or c.self.inside.bytes.now 0 0 in
    let v = ap (λ (e : Entry). e.selector) c.self.view_is in
    let f : c.family-family.result ≡ family_of_lem k = c.family-family.ensures ∙ sym (ap (λ (e : Entry). e.selector.family) c.self.view_is) in
    let w : c.width_of.result ≡ width (family_of_lem k) = c.width_of.ensures ∙ ap width f in
    cc (c.side_of.ensures, c.side_of-2.ensures)
