-- What lent tables are, where they are not refused: entries that valid bytes could hold, and what is found among them proper.
use Rattle.std.specs.Prelude.{ℕ, ◌≡◌, refl, true, false, Ok, Err}
use Rattle.std.proofs.Common.{sym, ap, ◌∙◌, subst, arith}
use Rattle.keys.proofs.FormedLaws.{KeyProper, Md5Proper}
use Rattle.keys.specs.declared.entry.Pair.{Pair}
use Rattle.tables.specs.Tables.{Admitted, Tables, tables_of, send_entry, md5_entry}
use Rattle.tables.specs.Valid.{Held, ValidTables}
use Rattle.tables.proofs.ValidLaws.{valid-bytes, valid-apart, taken-held}
use Rattle.tables.proofs.SearchLaws.{send-proper, md5-proper}
use Rattle.rules.specs.Calls.{is_refused}
use Rattle.rules.specs.Lent.{Lent, tables}
use Rattle.rules.specs.Ends.{LentValid, LentApart}

pub lent-valid : LentValid
lent-valid b n z e =
    let h : tables_of b.form b.keys b.md5 ≡ tables_of 0 b.keys b.md5 = ap (λ (f : ℕ). tables_of f b.keys b.md5) z in
    subst ValidTables (sym h) (valid-bytes b.keys b.md5 n (ap (λ (t : Tables). t.answer) (sym h) ∙ e))

pub lent-apart : LentApart
lent-apart b n e a = valid-apart b.form b.keys b.md5 n e a

pub lent-taken : (b : Lent) → is_refused (tables b).answer ≡ false → Held (tables b)
lent-taken b e = go (tables b).answer refl
  where
    go : (o : Admitted) → (tables b).answer ≡ o → Held (tables b)
    go (Ok n) q = taken-held b.form b.keys b.md5 n q
    go (Err r) q = let z : ◌≡◌ {A = ℕ} 0 1 = cc (rw q at e) in absurd (omega arith)

-- so the entry that is found for a pair and a SendID, and the MD5 entry that is found for a pair

pub lent_found : (b : Lent) (p : Pair) (id : ℕ) → is_refused (tables b).answer ≡ false → (send_entry (tables b) p id).there ≡ true
    → KeyProper (send_entry (tables b) p id).entry
lent_found b p id t e = send-proper (lent-taken b t) p id e

pub lent-found-md5 : (b : Lent) (p : Pair) → is_refused (tables b).answer ≡ false → (md5_entry (tables b) p).there ≡ true
    → Md5Proper (md5_entry (tables b) p).entry
lent-found-md5 b p t e = md5-proper (lent-taken b t) p e
