use Rattle.std.proofs.Common.{arith, ap₂, get_or, ◌+◌, ◌%◌, ℕ}
use Rattle.compression.specs.Words.{add32}
use Rattle.compression.proofs.Ring.{next_in_ring}
use Rattle.compression.proofs.Sha256Compression.{S}
use Rattle.compression.proofs.sha256.Sha256Schedule.next.Goals as goal

pub returns : goal.returns
returns c =
    let w = c.args.w.now in
    let i = c.args.i in
    λ W h e. next_in_ring S _ _ W _ h (omega (arith, c.requires)) e
    (ap₂ (λ (x y : ℕ). add32 (add32 (add32 x (get_or w ((i + 9) % 16) 0)) y) (get_or w i 0)) c.sigma1.ensures c.sigma0.ensures)
