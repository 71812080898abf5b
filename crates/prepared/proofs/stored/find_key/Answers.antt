-- A table that does not fit has no entries.
use Rattle.std.proofs.Common.{rules, refl, sym, true, false, get_or}
use mir.Syntax.{w8}
use mir.Val.{Fits}
use Rattle.keys.specs.Table.{nobody, answers}
use Rattle.prepared.proofs.ScanSteps.{key-none, key-room, key-by}
use Rattle.prepared.proofs.stored.find_key.Goals as goal

pub returns-in_err-n : goal.returns-in_err-n
returns-in_err-n c = rw c.from_residual.ensures (key-none c.args.t.now false (sym c.in_err-n.ensures) refl (answers c.args.by c.args.pair) nobody refl)

pub invariant_of-stored : goal.invariant_of-stored
invariant_of-stored c =
    let e = c.in_ok-n.ensures in
    record {
      room = (key-room c.args.t.now true (sym e.0) refl _ _ e.1 e.2).0;
      octets = λ j. let f : Fits w8 (get_or c.args.t.now j 0) = search rules in f.fits;
    }

pub returns : goal.returns
returns c = let e = c.in_ok-n.ensures in key-by c.args.t.now true (sym e.0) refl _ _ e.1 e.2 (answers c.args.by c.args.pair) _ c.find.ensures
