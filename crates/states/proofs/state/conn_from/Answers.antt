-- `state::conn_from`: each field is read at its place.
use Rattle.std.proofs.Common.{get_or}
use Rattle.states.specs.Layout.{stage_at, way_at, decode_connection}
use Rattle.states.proofs.Parts.{pair_read}
use Rattle.states.proofs.state.conn_from.Goals as goal

pub returns : goal.returns
unfolding decode_connection
returns c i =
    record {
      stage = get_or c.args.bytes.now stage_at 0;
      way = get_or c.args.bytes.now way_at 0;
      pair = pair_read c.args.bytes.now _ _ _ _ c.requires c.load16.ensures c.load16-2.ensures c.padded.ensures c.padded-2.ensures i;
      isn = c.load32.ensures i;
      peer_isn = c.load32-2.ensures i;
    }
