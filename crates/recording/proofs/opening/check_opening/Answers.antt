-- The first that applies.
use Rattle.std.proofs.Common.{get_or, ap, ◌∙◌, rules}
use Rattle.keys.specs.Table.{found_of}
use Rattle.tables.specs.declared.Refusal.{Refusal}
use Rattle.tables.specs.Tables.{Tables, send_entry, recv_entry}
use Rattle.rules.specs.declared.Outcome.TheVariants.{Bad}
use Rattle.recording.proofs.Openings.{none-there, refuses, gives-18, gives-refusal, gives-35-send, gives-35-recv, gives-good}
use Rattle.recording.proofs.opening.check_opening.Goals as goal
use Rattle.recording.proofs.opening.check_opening.Goals.{then-is_none-via-then-is_none, then-is_none-via-else-is_none+then-is_none-2}

pub returns-then-not-is_family : goal.returns-then-not-is_family
returns-then-not-is_family c =
    ap (λ (r : Refusal). Bad r.number r.index) c.of.ensures
    ∙ gives-18 c.args.table.now c.args.bytes.now _ c.open_pair-pair.ensures _ c.is_family.ensures (search rules)

pub returns-in-Err : goal.returns-in-Err
returns-in-Err c =
    ap (λ (r : Refusal). Bad r.number r.index) c.in_table.ensures
    ∙ gives-refusal c.args.table.now c.args.bytes.now _ c.open_pair-pair.ensures _ c.is_family.ensures (search rules) _ _ _
    c.load.ensures c.in-Err.is

pub returns-then-is_none : goal.returns-then-is_none
returns-then-is_none c =
    let a = c.args in
    let p = c.open_pair-pair.result in
    let b = c.of_bytes-tables.ensures in
    let s = c.find_send.ensures ∙ ap (λ (t : Tables). send_entry t p (get_or a.bytes.now 2 0)) b in
    ap (λ (r : Refusal). Bad r.number r.index) c.of-then-is_none.ensures
    ∙ elim c.then-is_none.branch [
      | then-is_none-via-then-is_none w ↦
          gives-35-send a.table.now a.bytes.now p c.open_pair-pair.ensures _ c.is_family.ensures (search rules) _ c.load.ensures
          (ap refuses c.in_default.is) (found_of c.find_send.result) s (none-there _ _ c.is_none.ensures ∙ w.if-is_none.true)
      | then-is_none-via-else-is_none+then-is_none-2 w ↦
          gives-35-recv a.table.now a.bytes.now p c.open_pair-pair.ensures _ c.is_family.ensures (search rules) _ c.load.ensures
          (ap refuses c.in_default.is) (found_of c.find_send.result) s (none-there _ _ c.is_none.ensures ∙ w.if-is_none.false)
          (found_of w.find_recv.result) (w.find_recv.ensures ∙ ap (λ (t : Tables). recv_entry t p (get_or a.bytes.now 3 0)) b)
          (none-there _ _ w.is_none-else-is_none.ensures ∙ w.if-is_none-2.true)
    ]

pub returns : goal.returns
returns c =
    let a = c.args in
    let p = c.open_pair-pair.result in
    let b = c.of_bytes-tables.ensures in
    gives-good a.table.now a.bytes.now p c.open_pair-pair.ensures _ c.is_family.ensures (search rules) _ c.load.ensures
    (ap refuses c.in_default.is) (found_of c.find_send.result)
    (c.find_send.ensures ∙ ap (λ (t : Tables). send_entry t p (get_or a.bytes.now 2 0)) b)
    (none-there _ _ c.is_none.ensures ∙ c.if-is_none.false) (found_of c.find_recv.result)
    (c.find_recv.ensures ∙ ap (λ (t : Tables). recv_entry t p (get_or a.bytes.now 3 0)) b)
    (none-there _ _ c.is_none-else-is_none.ensures ∙ c.if-is_none-2.false)
