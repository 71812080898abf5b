-- The digest stands at the front of its array: the law of Keyed.
use Rattle.std.proofs.Common.{arith, refl, rules, take, ap, ◌∙◌}
use Rattle.std.proofs.lemmas.Grind.{common_steps}
use Rattle.checks.proofs.Keyed.{padded_front}
use Rattle.checks.proofs.begun.by_md5.Goals as goal

pub returns : goal.returns
returns c = (
  grind (arith, common_steps),
  record {
    way = refl;
    bytes = refl;
    short = omega arith;
    carried = ap (take 16) c.padded.ensures ∙ padded_front 16 _ c.digest.ensures.size ∙ c.digest.ensures.bytes;
    mac = grind (arith, common_steps);
  },
)
