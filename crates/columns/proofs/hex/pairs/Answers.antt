use Rattle.std.proofs.Common.{◌≡◌, ◌-◌, ◌++◌, ◌∷◌, [], length, drop, take, arith, sym, length-drop}
use Rattle.std.proofs.lemmas.Grind.{common_steps}
use Rattle.std.proofs.lemmas.List.{take_all}
use Rattle.std.proofs.lemmas.Option.{cond_some}
use Rattle.columns.proofs.Spelling.{read_on, digits_on}
use Rattle.columns.proofs.hex.pairs.Goals as goal

pub loop-rest-preserved : goal.loop-rest-preserved
loop-rest-preserved g c =
    let rest = c.loop-rest.rest.now in
    let two = cond_some _ _ _ (sym c.in_ok-pair.ensures) in
    let behind : take (length rest - 2) (drop 2 rest) ≡ drop 2 rest = take_all _ (drop 2 rest) (omega (arith, length-drop 2 rest)) in
    let pushed : c.try_push.new.self.items ≡ c.loop-rest.out.items ++ c.in_ok-pair.field-0 ∷ [] = grind (arith, common_steps) in
    record {
      read = read_on _ rest c.loop-rest.out.items _ _ _ c.loop-rest.invariant.read (omega arith) (sym two.1) pushed behind;
      digits = digits_on _ rest _ c.loop-rest.invariant.digits (omega arith) two.0 behind;
      odd = grind (arith, common_steps);
      count = grind (arith, common_steps);
      room = grind (arith, common_steps);
    }
