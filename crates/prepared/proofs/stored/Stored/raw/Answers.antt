-- By what copying three parts into zeros gives.
use Rattle.std.proofs.Common.{rules, ◌≡◌, ◌∙◌, length}
use Rattle.prepared.proofs.MarkLaws.{front_by}
use Rattle.prepared.proofs.stored.Stored.raw.Goals as goal

pub returns : goal.returns
returns c =
    let s = c.args.self.now in
    let l : length c.address_of-a.result ≡ 16 = search rules in (
      c.new.ensures.0
          ∙ front_by s.bytes.now s.n c.args.i c.slot.result.bytes.now c.slot.ensures c.slot.result.long _ _ _ _ _ c.family_of.ensures c.address_of-a.ensures l c.copy_at.ensures
          c.copy_at-2.ensures c.copy_at-3.ensures,
      c.new.ensures.1 ∙ c.back.ensures.0,
    )
