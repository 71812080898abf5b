-- `state::decode`: each field is read at its place; and a byte of a slice is below 256, which the round trip asks.
use Rattle.states.proofs.Parts.{state-read}
use Rattle.states.proofs.state.decode.Goals as goal

pub returns : goal.returns
returns c =
    let r = state-read c.args.bytes.now _ _ _ _ _ c.requires (λ i. (c.type_inv.bytes i).fits)
    c.conn_from.ensures c.words_from.ensures c.load64.ensures c.load64-2.ensures c.load64-3.ensures in
    record { state = r.0; back = r.1 }
