use Rattle.std.proofs.Common.{arith, ap, get_or}
use Rattle.keys.proofs.Bytes.{room}
use Rattle.keys.specs.Entry.{entry_of, ids_of}
use Rattle.keys.specs.declared.entry.Entry.{Entry}
use Rattle.keys.proofs.entry.EntryBytes.ids.Goals as goal

pub bounds-self-inside-3 : goal.bounds-self-inside-3
bounds-self-inside-3 c = omega (arith, room (get_or c.self.inside.bytes.now 0 0) _ c.self.invariant)

pub bounds-self-inside-4 : goal.bounds-self-inside-4
bounds-self-inside-4 c = omega (arith, room (get_or c.self.inside.bytes.now 0 0) _ c.self.invariant)

pub returns : goal.returns
unfolding entry_of ids_of
returns c = ap (λ (e : Entry). e.ids) c.self.view_is
