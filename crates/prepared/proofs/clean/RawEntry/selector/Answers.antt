use Rattle.prepared.proofs.Laws.{selector-by}
use Rattle.prepared.proofs.clean.RawEntry.selector.Goals as goal

pub returns : goal.returns
returns c =
    let e = c.args.self.now in selector-by e.front e.back.now _ _ _ c.family_of-family.ensures c.side_of.ensures c.side_of-2.ensures
