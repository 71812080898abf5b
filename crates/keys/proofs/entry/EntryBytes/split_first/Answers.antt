use Rattle.std.proofs.Common.{◌≡◌, refl, sym, ap, ◌∙◌, arith, drop, take_all, length-drop}
use Rattle.std.specs.Prelude.{get_or}
use Rattle.keys.specs.Entry.{known_kind_of, size}
use Rattle.keys.proofs.WalkLaws.{sound-empty, sound-unknown, sound-cut, sound-is}
use Rattle.keys.proofs.entry.EntryBytes.split_first.Goals as goal

pub returns-in_err-kind : goal.returns-in_err-kind
returns-in_err-kind c = let e = c.in_err-kind.ensures.item.3 in rw c.from_residual.ensures (sound-empty c.args.table.now (omega arith))

pub returns-then-not-known_kind : goal.returns-then-not-known_kind
returns-then-not-known_kind c =
    sound-unknown c.args.table.now
    (ap known_kind_of (sym (c.in_ok-kind.ensures.item.3.1 0)) ∙ sym c.known_kind.ensures ∙ c.if-not-known_kind.true)

pub returns-then-table-n : goal.returns-then-table-n
returns-then-table-n c =
    let n = c.size_of-n.ensures ∙ ap size (c.in_ok-kind.ensures.item.3.1 0) in
    sound-cut c.args.table.now (omega arith)

pub returns : goal.returns
returns c =
    let t = c.args.table.now in
    let k = c.in_ok-kind.ensures.item.3.1 0 in
    let n : c.size_of-n.result ≡ size (get_or t 0 0) = c.size_of-n.ensures ∙ ap size k in
    let l = length-drop c.size_of-n.result t in (
      sound-is t (ap known_kind_of (sym k) ∙ sym c.known_kind.ensures ∙ c.if-not-known_kind.false) (omega arith),
      refl,
      take_all _ _ (omega arith) ∙ ap (λ m. drop m t) n,
    )
