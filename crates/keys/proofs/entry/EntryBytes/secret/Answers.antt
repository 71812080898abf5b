use Rattle.std.proofs.Common.{◌≡◌, ◌+◌, ◌-◌, arith, ◌∙◌, get_or}
use Rattle.keys.proofs.Bytes.{room, mac-named, mac-unnamed}
use Rattle.keys.specs.Entry.{extra, sides_end_of, mac_length_of, entry_of, secret_of_lem}
use Rattle.keys.proofs.entry.EntryBytes.secret.Goals.{then-extra_of-eq1, else-extra_of-eq1}
use Rattle.keys.proofs.entry.EntryBytes.secret.Goals as goal

pub bounds-self-inside-2 : goal.bounds-self-inside-2
bounds-self-inside-2 c = omega (arith, room (get_or c.self.inside.bytes.now 0 0) _ c.self.invariant)

pub overflow_add-at : goal.overflow_add-at
overflow_add-at c = omega (arith, c.sides_end-end.ensures, c.extra_of.ensures, room (get_or c.self.inside.bytes.now 0 0) _ c.self.invariant)

pub overflow_add-at-2 : goal.overflow_add-at-2
overflow_add-at-2 c = omega (arith, c.sides_end-end.ensures, c.extra_of.ensures, room (get_or c.self.inside.bytes.now 0 0) _ c.self.invariant)

pub overflow_add-at-3 : goal.overflow_add-at-3
overflow_add-at-3 c = omega (arith, c.sides_end-end.ensures, c.extra_of.ensures, room (get_or c.self.inside.bytes.now 0 0) _ c.self.invariant)

pub slice_bounds-copy_from_slice-end-2 : goal.slice_bounds-copy_from_slice-end-2
slice_bounds-copy_from_slice-end-2 c = omega (arith, c.sides_end-end.ensures, c.extra_of.ensures, room (get_or c.self.inside.bytes.now 0 0) _ c.self.invariant)

pub returns : goal.returns
unfolding entry_of secret_of_lem
returns c =
    let b = c.self.inside.bytes.now in
    let k = get_or b 0 0 in
    let at : c.sides_end-end.result + c.extra_of.result ≡ sides_end_of k + extra k = (λ i. c.sides_end-end.ensures i + c.extra_of.ensures i) in
    let n : c.sides_end-end.result + c.extra_of.result + 81 - (c.sides_end-end.result + c.extra_of.result + 1) ≡ 80 = omega arith in
    let e = c.sides_end-end.ensures in
    let x = c.extra_of-2.ensures in
    let m : c.if-extra_of-eq1.result ≡ mac_length_of k b = elim c.if-extra_of-eq1.branch [
      | then-extra_of-eq1 w ↦ w.result-is ∙ mac-named k b _ _ x w.if-extra_of-eq1.true e
      | else-extra_of-eq1 w ↦ w.result-is ∙ mac-unnamed k b _ _ x w.if-extra_of-eq1.false w.mac_bytes.ensures.number
    ] in
    cc (c.copy_from_slice.ensures.after)
