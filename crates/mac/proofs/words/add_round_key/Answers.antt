use Rattle.std.proofs.Common.{get_or}
use Rattle.mac.specs.Aes.{columns, add_round_key_of}
use Rattle.mac.proofs.WordBytes.{xor_bytes}
use Rattle.mac.proofs.words.add_round_key.Goals as goal

pub returns : goal.returns
unfolding add_round_key_of
returns c =
    let a = c.args in
    λ i.
    columns (xor_bytes (get_or a.s 0 0) (get_or a.k 0 0) i) (xor_bytes (get_or a.s 1 0) (get_or a.k 1 0) i)
    (xor_bytes (get_or a.s 2 0) (get_or a.k 2 0) i) (xor_bytes (get_or a.s 3 0) (get_or a.k 3 0) i)
