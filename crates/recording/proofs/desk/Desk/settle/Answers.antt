-- By the kind.
use Rattle.std.proofs.Common.{length, take, arith}
use Rattle.recording.proofs.Forms.{first-there, entry-fits, opening-fits, segment-fits}
use Rattle.recording.proofs.Settling.{settled-entry, settled-opening, settled-segment}
use Rattle.recording.proofs.desk.Desk.settle.Goals as goal

pub bounds-bytes-0 : goal.bounds-bytes-0
bounds-bytes-0 c = first-there c.args.self.stage c.args.bytes.now c.requires.0 c.requires.1

pub enter-requires : goal.enter-requires
enter-requires c = entry-fits c.args.self.stage c.args.bytes.now c.requires.0 c.requires.1 c.in-1.is

pub returns-in-1 : goal.returns-in-1
returns-in-1 c = settled-entry (take (length c.args.table.now)) c.args.bytes.now c.in-1.is c.enter.ensures

pub open-requires : goal.open-requires
open-requires c = opening-fits c.args.self.stage c.args.bytes.now c.requires.0 c.requires.1 (omega arith) c.in-2.is

pub returns-in-2 : goal.returns-in-2
returns-in-2 c = settled-opening (take (length c.args.table.now)) c.args.bytes.now (omega arith) c.in-2.is c.open.ensures

pub answer-requires : goal.answer-requires
answer-requires c = segment-fits c.args.self.stage c.args.bytes.now c.requires.0 c.requires.1 (omega arith) (omega arith)

pub returns-in_default : goal.returns-in_default
returns-in_default c =
    settled-segment (take (length c.args.table.now)) c.args.bytes.now (omega arith) (omega arith) c.answer.ensures
