-- What holds of the tables t of some lent bytes: every value beside an answer's number fits its bits. Assumes nothing.
use Rattle.std.specs.Prelude.{ℕ, ◌<◌, ◌^◌, ◌≡◌, Bool, List}
use Rattle.std.proofs.Common.{sym, ap, ◌∙◌, subst}
use Rattle.tables.specs.Tables.{Tables, Admitted, tables_of}
use Rattle.rules.specs.Answers.{table_answer}
use Rattle.rules.specs.Connection.{Arrival}
use Rattle.rules.specs.Lent.{Lent}
use Rattle.rules.specs.Calls.{judged, judged_syn, opened_passively, opened_actively, opened_actively_md5, asked, signed}
use Rattle.rules.specs.Results.{Signed, Settled}
use Rattle.rules.specs.declared.Judged.{Judged}
use Rattle.rules.specs.declared.SynJudged.{SynJudged}
use Rattle.rules.specs.declared.State.{State}
use Rattle.boundary.specs.Word.{of_signed, of_settled}
use Rattle.boundary.specs.NumberLaws.{table_fits, judged-fits, judged_syn-fits, opened-fits, asked-fits, active-fits, active-md5-fits, signed-fits}

module _ (t : Tables) (form : ℕ) (k m : List ℕ) (e : t ≡ tables_of form k m) where
  abbrev lent : Lent
  lent = record { form = form; keys = k; md5 = m }

  pub table-value : (r : Admitted) → r ≡ t.answer → (table_answer r).value < 2 ^ 32
  table-value r p =
      subst (λ (x : Admitted). (table_answer x).value < 2 ^ 32) (sym (p ∙ ap (λ (u : Tables). u.answer) e)) (table_fits lent).value

  pub judged-index : (a : Arrival) (q : State) (j : Judged) → j ≡ judged t a q → j.index.entry < 2 ^ 32
  judged-index a q j p =
      subst (λ (x : Judged). x.index.entry < 2 ^ 32) (sym (p ∙ ap (λ (u : Tables). judged u a q) e)) (judged-fits lent a q).index

  pub syn-index : (a : Arrival) (strict : Bool) (j : SynJudged) → j ≡ judged_syn t a strict → j.index.entry < 2 ^ 32
  syn-index a strict j p =
      subst (λ (x : SynJudged). x.index.entry < 2 ^ 32) (sym (p ∙ ap (λ (u : Tables). judged_syn u a strict) e))
      (judged_syn-fits lent a strict).index

  pub opened-index : (a : Arrival) (isn : ℕ) (strict : Bool) (j : Judged) → j ≡ opened_passively t a isn strict → j.index.entry < 2 ^ 32
  opened-index a isn strict j p =
      subst (λ (x : Judged). x.index.entry < 2 ^ 32) (sym (p ∙ ap (λ (u : Tables). opened_passively u a isn strict) e))
      (opened-fits lent a isn strict).index

  pub active-value : (local remote : List ℕ) (local_port remote_port isn send_id : ℕ) (s : Settled)
      → s ≡ opened_actively t local remote local_port remote_port isn send_id → (of_settled s).value < 2 ^ 32
  active-value local remote local_port remote_port isn send_id s p =
      subst (λ (x : Settled). (of_settled x).value < 2 ^ 32)
      (sym (p ∙ ap (λ (u : Tables). opened_actively u local remote local_port remote_port isn send_id) e))
      (active-fits lent local remote local_port remote_port isn send_id).value

  pub active-md5-value : (local remote : List ℕ) (local_port remote_port isn : ℕ) (s : Settled)
      → s ≡ opened_actively_md5 t local remote local_port remote_port isn → (of_settled s).value < 2 ^ 32
  active-md5-value local remote local_port remote_port isn s p =
      subst (λ (x : Settled). (of_settled x).value < 2 ^ 32)
      (sym (p ∙ ap (λ (u : Tables). opened_actively_md5 u local remote local_port remote_port isn) e))
      (active-md5-fits lent local remote local_port remote_port isn).value

  pub asked-value : (id : ℕ) (q : State) (s : Settled) → s ≡ asked t id q → (of_settled s).value < 2 ^ 32
  asked-value id q s p =
      subst (λ (x : Settled). (of_settled x).value < 2 ^ 32) (sym (p ∙ ap (λ (u : Tables). asked u id q) e)) (asked-fits lent id q).value

  pub signed-value : (s out : List ℕ) (q : State) (r : Signed) → r ≡ signed t s out q → (of_signed r).value < 2 ^ 32
  signed-value s out q r p =
      subst (λ (x : Signed). (of_signed x).value < 2 ^ 32) (sym (p ∙ ap (λ (u : Tables). signed u s out q) e)) (signed-fits lent s out q).value
