use Rattle.std.proofs.Common.{rules, ◌≡◌, ◌∙◌, ◌+◌, ◌%◌, arith}
use Rattle.std.proofs.lemmas.Iterator.{YieldsList-from_slice}
use Rattle.std.proofs.lemmas.Iterator.Consumers.{fold_from_yields_List}
use Rattle.prepared.specs.Prepared.{octet_sum_of}
use Rattle.prepared.proofs.MarkLaws.{sum-fold}
use Rattle.prepared.proofs.mark.octet_sum.Goals as goal

pub returns : goal.returns
returns c =
    fold_from_yields_List _ (λ n x. (n + x) % 256) 0 c.fold.result c.fold.ensures.ran (YieldsList-from_slice c.args.s.now cc) (λ a x b q k. search rules)
    ∙ sum-fold c.args.s.now 0 (omega arith) ∙ (let e : (0 + octet_sum_of c.args.s.now) % 256 ≡ octet_sum_of c.args.s.now % 256 = omega arith in e)
