-- The bytes by `or` are zero exactly if each is.
use Rattle.std.proofs.Common.{rules, ap, ◌∙◌, eqb}
use Rattle.std.specs.Prelude.{bit_or}
use Rattle.std.proofs.lemmas.Iterator.{YieldsList-from_slice}
use Rattle.std.proofs.lemmas.Iterator.Consumers.{fold_from_yields_List}
use Rattle.keys.proofs.Tests.{zeros-fold}
use Rattle.keys.proofs.faults.all_zero.Goals as goal

pub returns : goal.returns
returns c =
    let e = fold_from_yields_List _ bit_or 0 c.fold.result c.fold.ensures.ran (YieldsList-from_slice c.args.bytes.now cc) (λ a x b q k. search rules) in
    ap (λ n. eqb n 0) e ∙ zeros-fold c.args.bytes.now 0
