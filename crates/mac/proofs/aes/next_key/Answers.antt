use Rattle.std.proofs.Common.{get_or, refl, rules}
use Rattle.mac.proofs.WordBytes.{next-key-bytes}
use Rattle.mac.proofs.aes.next_key.Goals as goal

pub returns : goal.returns
returns c =
    let k = c.args.k in
    next-key-bytes c.args.rcon c.sub_rot.result (get_or k 0 0) (get_or k 1 0) (get_or k 2 0) (get_or k 3 0) _ _ _ _
    (search rules) c.sub_rot.ensures refl refl refl refl
