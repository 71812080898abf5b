-- A table that does not fit has no entries.
use Rattle.std.proofs.Common.{rules, refl, sym, true, false, get_or}
use mir.Syntax.{w8}
use mir.Val.{Fits}
use Rattle.keys.specs.Table.{nobody, answers}
use Rattle.keys.specs.declared.table.By.TheVariants.{Any}
use Rattle.prepared.proofs.ScanSteps.{md5-none, md5-room, md5-by}
use Rattle.prepared.proofs.stored.find_md5.Goals as goal

pub returns-in_err-n : goal.returns-in_err-n
returns-in_err-n c = rw c.from_residual.ensures (md5-none c.args.t.now false (sym c.in_err-n.ensures) refl (answers Any c.args.pair) nobody refl)

pub invariant_of-stored : goal.invariant_of-stored
invariant_of-stored c =
    let e = c.in_ok-n.ensures in
    record {
      room = (md5-room c.args.t.now true (sym e.0) refl _ _ e.1 e.2).0;
      octets = λ j. let f : Fits w8 (get_or c.args.t.now j 0) = search rules in f.fits;
    }

pub returns : goal.returns
returns c = let e = c.in_ok-n.ensures in md5-by c.args.t.now true (sym e.0) refl _ _ e.1 e.2 (answers Any c.args.pair) _ c.find.ensures
