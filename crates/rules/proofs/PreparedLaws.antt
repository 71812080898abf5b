-- Prepared tables, of every call: what a call gives is a function of what its tables mean.
use Rattle.std.specs.Prelude.{ℕ, ◌≡◌}
use Rattle.std.proofs.Common.{sym, ap, ◌∙◌, subst}
use Rattle.tables.specs.Tables.{Tables, tables_of}
use Rattle.tables.specs.Valid.{ValidTables}
use Rattle.tables.proofs.SameLaws.{prepared-same}
use Rattle.rules.specs.Calls.{judged, judged_syn, opened_passively, opened_actively, opened_actively_md5, asked, signed, output}
use Rattle.rules.specs.Lent.{tables}
use Rattle.rules.proofs.LentLaws.{lent-valid}
use Rattle.rules.specs.Prepared.{PreparedMeans, PreparedValid, SameCalls, PreparedCalls}

pub prepared-means : PreparedMeans
prepared-means b c p =
    let f = ap (λ (n : ℕ). tables_of n b.keys b.md5) p.bytes-form in
    (λ i. tables_of c.form (p.written i) (p.alone i))
    ∙ prepared-same c.form b.keys b.md5 p.count p.prepared-form p.keys-octets p.md5-octets
    (ap (λ (t : Tables). t.answer) (sym f) ∙ p.valid)
    ∙ sym f

pub prepared-valid : PreparedValid
prepared-valid b c p = subst ValidTables (sym (prepared-means b c p)) (lent-valid b p.count p.bytes-form p.valid)

same-calls : (t u : Tables) → t ≡ u → SameCalls t u
same-calls t u e =
    record {
      checks = ap (λ (x : Tables). x.answer) e;
      judges = λ a q. ap (λ (x : Tables). judged x a q) e;
      judges-syn = λ a strict. ap (λ (x : Tables). judged_syn x a strict) e;
      opens-passively = λ a isn strict. ap (λ (x : Tables). opened_passively x a isn strict) e;
      opens-actively = λ local remote lp rp isn id. ap (λ (x : Tables). opened_actively x local remote lp rp isn id) e;
      opens-actively-md5 = λ local remote lp rp isn. ap (λ (x : Tables). opened_actively_md5 x local remote lp rp isn) e;
      asks = λ id q. ap (λ (x : Tables). asked x id q) e;
      signs = λ s out q. (ap (λ (x : Tables). signed x s out q) e, ap (λ (x : Tables). output x s out q) e);
    }

pub prepared-calls : PreparedCalls
prepared-calls b c p = same-calls (tables c) (tables b) (prepared-means b c p)
