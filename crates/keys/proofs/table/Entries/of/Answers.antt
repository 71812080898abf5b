use Rattle.keys.proofs.WalkLaws.{entries-few}
use Rattle.keys.proofs.table.Entries.of.Goals as goal

pub returns-clause-few : goal.returns-clause-few
returns-clause-few c = entries-few c.args.table.now
