use Rattle.std.proofs.Common.{◌+◌, ap}
use Rattle.keys.specs.declared.table.By.{By}
use Rattle.prepared.specs.Scan.{id_at}
use Rattle.prepared.proofs.ScanSteps.{none-close, none_named}
use Rattle.prepared.proofs.stored.Stored.some_in_block.Goals as goal

pub returns-in-Any : goal.returns-in-Any
returns-in-Any c =
    let s = c.args.self.now in
    none-close s.bytes.now s.n c.args.i c.args.w.now _ c.args.by _ _ c.column-bits.ensures.0 c.column-marks.ensures.0 c.some_can_match.ensures

pub returns-in-Send : goal.returns-in-Send
returns-in-Send c =
    let s = c.args.self.now in
    none_named s.bytes.now s.n c.args.i c.args.w.now _ c.args.by 4 c.in-Send.id _ _ _ (λ j. ap (λ (b : By). id_at b s.bytes.now s.n j) c.in-Send.is)
    c.column.ensures.0 c.column-bits.ensures.0 c.column-marks.ensures.0 c.some_named_can_match.ensures

pub returns-in-Recv : goal.returns-in-Recv
returns-in-Recv c =
    let s = c.args.self.now in
    none_named s.bytes.now s.n c.args.i c.args.w.now _ c.args.by (4 + s.n) c.in-Recv.id _ _ _ (λ j. ap (λ (b : By). id_at b s.bytes.now s.n j) c.in-Recv.is)
    c.column-in-Recv.ensures.0 c.column-bits.ensures.0 c.column-marks.ensures.0 c.some_named_can_match-in-Recv.ensures
