-- P1 to P12 hold: the statement of Examples.antt, by computing.
use Rattle.std.specs.Prelude.{refl}
use Rattle.wire.specs.Prefix.{agree}
use Rattle.keys.specs.Entry.{width}
use Rattle.keys.specs.Match.{meet, overlap}
use Rattle.rules.specs.Position.{position}
use Rattle.rules.specs.Answers.{place_answer}
use Rattle.rules.specs.Examples.{Examples}

pub examples : Examples
unfolding position place_answer agree width meet overlap
examples = refl
