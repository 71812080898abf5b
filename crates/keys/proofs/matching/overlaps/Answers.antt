-- The families, the ports of both sides, then the addresses. The entry is whole, so that both sides lie in it.
use Rattle.std.proofs.Common.{◌≡◌, ℕ, ◌+◌, ◌&&◌, List, refl, sym, ap, ◌∙◌, arith, ne_eqb, get_or}
use Rattle.keys.proofs.Bytes.{room, sides-room}
use Rattle.keys.proofs.Tests.{and_no, and_yes, ports_meet_of, addresses_meet_of, overlap-is}
use Rattle.keys.specs.Entry.{family_of_lem, width, entry_of, selector_of_lem}
use Rattle.keys.specs.Match.{overlap}
use Rattle.keys.specs.declared.entry.Entry.{Entry}
use Rattle.keys.proofs.matching.overlaps.Goals.{then-ports_meet, else-ports_meet, then-ports_meet-2, else-ports_meet-2}
use Rattle.keys.proofs.matching.overlaps.Goals as goal

-- the family that the code computed is the kind's
family-is : (f : ℕ) (x : Entry) (e : List ℕ) → f ≡ x.selector.family → entry_of e ≡ x → f ≡ family_of_lem (get_or e 0 0)
unfolding entry_of selector_of_lem
family-is f x e q v = q ∙ sym (ap (λ (y : Entry). y.selector.family) v)

pub returns-then-family-other : goal.returns-then-family-other
unfolding overlap
returns-then-family-other c = rw (ne_eqb _ _ (λ z. c.if-family-other.true (c.family-family.ensures ∙ z)))

pub ports_meet-requires : goal.ports_meet-requires
ports_meet-requires c = omega (arith, room (get_or c.entry.inside.bytes.now 0 0) _ c.entry.invariant)

pub ports_meet-requires-then-ports_meet : goal.ports_meet-requires-then-ports_meet
ports_meet-requires-then-ports_meet c = omega (arith, room (get_or c.entry.inside.bytes.now 0 0) _ c.entry.invariant)

pub overflow_add-width_of : goal.overflow_add-width_of
overflow_add-width_of c =
    omega (arith, sides-room _ _ _ _ (family-is _ _ c.entry.inside.bytes.now c.family-family.ensures c.entry.view_is) c.width_of.ensures c.entry.invariant)

pub addresses_meet-requires : goal.addresses_meet-requires
addresses_meet-requires c =
    omega (arith, c.width_of.ensures, sides-room _ _ _ _ (family-is _ _ c.entry.inside.bytes.now c.family-family.ensures c.entry.view_is) c.width_of.ensures c.entry.invariant)

pub addresses_meet-requires-then-addresses_meet : goal.addresses_meet-requires-then-addresses_meet
addresses_meet-requires-then-addresses_meet c =
    omega (arith, sides-room _ _ _ _ (family-is _ _ c.entry.inside.bytes.now c.family-family.ensures c.entry.view_is) refl c.entry.invariant)

pub returns-then-addresses_meet : goal.returns-then-addresses_meet
unfolding entry_of
returns-then-addresses_meet c =
    let e = c.entry.inside.bytes.now in
    let b = c.args.b in
    let f = c.family-family.result in
    let P = ports_meet_of e 9 b.remote in
    let Q = ports_meet_of e 5 b.local in
    let A = addresses_meet_of e f (14 + width f) b.remote in
    let ports : c.if-ports_meet.value ≡ (P && Q) = elim c.if-ports_meet.branch [
      | then-ports_meet w ↦ and_yes P Q _ _ c.ports_meet.ensures w.if-ports_meet.true (w.value-is ∙ w.ports_meet-then-ports_meet.ensures)
      | else-ports_meet w ↦ and_no P Q _ _ c.ports_meet.ensures w.if-ports_meet.false w.value-is
    ] in
    let first : c.if-ports_meet-2.value ≡ ((P && Q) && A) = elim c.if-ports_meet-2.branch [
      | then-ports_meet-2 w ↦ and_yes (P && Q) A _ _ ports w.if-ports_meet-2.true (w.value-is ∙ w.addresses_meet.ensures ∙ ap (λ n. addresses_meet_of e f (14 + n) b.remote) w.width_of.ensures)
      | else-ports_meet-2 w ↦ and_no (P && Q) A _ _ ports w.if-ports_meet-2.false w.value-is
    ] in
    and_yes ((P && Q) && A) _ _ _ first c.if-addresses_meet.true c.addresses_meet-then-addresses_meet.ensures
    ∙ overlap-is e b f (family-is _ _ e c.family-family.ensures c.entry.view_is) c.if-family-other.false
    ∙ ap (λ (x : Entry). overlap x.selector b) c.entry.view_is

pub returns-else-addresses_meet : goal.returns-else-addresses_meet
unfolding entry_of
returns-else-addresses_meet c =
    let e = c.entry.inside.bytes.now in
    let b = c.args.b in
    let f = c.family-family.result in
    let P = ports_meet_of e 9 b.remote in
    let Q = ports_meet_of e 5 b.local in
    let A = addresses_meet_of e f (14 + width f) b.remote in
    let ports : c.if-ports_meet.value ≡ (P && Q) = elim c.if-ports_meet.branch [
      | then-ports_meet w ↦ and_yes P Q _ _ c.ports_meet.ensures w.if-ports_meet.true (w.value-is ∙ w.ports_meet-then-ports_meet.ensures)
      | else-ports_meet w ↦ and_no P Q _ _ c.ports_meet.ensures w.if-ports_meet.false w.value-is
    ] in
    let first : c.if-ports_meet-2.value ≡ ((P && Q) && A) = elim c.if-ports_meet-2.branch [
      | then-ports_meet-2 w ↦ and_yes (P && Q) A _ _ ports w.if-ports_meet-2.true (w.value-is ∙ w.addresses_meet.ensures ∙ ap (λ n. addresses_meet_of e f (14 + n) b.remote) w.width_of.ensures)
      | else-ports_meet-2 w ↦ and_no (P && Q) A _ _ ports w.if-ports_meet-2.false w.value-is
    ] in
    and_no ((P && Q) && A) (addresses_meet_of e f 13 b.local) _ _ first c.if-addresses_meet.false refl
    ∙ overlap-is e b f (family-is _ _ e c.family-family.ensures c.entry.view_is) c.if-family-other.false
    ∙ ap (λ (x : Entry). overlap x.selector b) c.entry.view_is
