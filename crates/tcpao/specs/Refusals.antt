-- What a call refuses with that gives no pass: the number of an outcome, and the entry beside it. A reader need not believe this: the calls
-- cite the crate `rules` alone.
use Rattle.tables.specs.declared.Refusal.{Refusal}
use Rattle.tables.specs.Tables.{no_index}
use Rattle.rules.specs.declared.Outcome.{Outcome}
use Rattle.rules.specs.declared.Outcome.TheVariants.{Good, Passed, Bad}

abbrev pub refusal_of : Outcome → Refusal
refusal_of (Bad n i) = record { number = n; index = i }
refusal_of (Good x r) = record { number = 0; index = no_index }
refusal_of Passed = record { number = 0; index = no_index }
