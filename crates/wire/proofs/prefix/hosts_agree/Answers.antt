-- `wire::prefix::hosts_agree` meets its contract.
use Rattle.wire.proofs.Words.{agree-second, agree-first}
use Rattle.wire.proofs.prefix.hosts_agree.Goals as goal

pub returns-then-load64 : goal.returns-then-load64
returns-then-load64 c =
    agree-second _ _ (λ i. (c.type_inv.a i).fits) (λ i. (c.type_inv.b i).fits) _ _ _ _ c.load64.ensures c.load64-2.ensures
    c.load64-then-load64.ensures c.load64-then-load64-2.ensures c.if-load64.true

pub returns-else-load64 : goal.returns-else-load64
returns-else-load64 c =
    agree-first _ _ (λ i. (c.type_inv.a i).fits) (λ i. (c.type_inv.b i).fits) _ _ c.load64.ensures c.load64-2.ensures c.if-load64.false
