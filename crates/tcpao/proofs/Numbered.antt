-- What a call returns has the number and the value that Answers.antt of `rules` names for it. Assumes nothing.
use Prim.Native.Nat.{ℕ}
use mathlib.Core.Path.{◌≡◌, ap, ◌∙◌}
use mathlib.Core.Bool.{Bool}
use mathlib.Core.List.{List}
use Rattle.tables.specs.Tables.{Admitted}
use Rattle.tables.specs.Tables.{Tables, tables_of}
use Rattle.rules.specs.declared.Judged.{Judged}
use Rattle.rules.specs.declared.SynJudged.{SynJudged}
use Rattle.rules.specs.Results.{Settled}
use Rattle.rules.specs.Results.{Signed}
use Rattle.rules.specs.declared.State.{State}
use Rattle.rules.specs.Connection.{Arrival}
use Rattle.rules.specs.Calls.{judged, judged_syn, opened_passively, opened_actively, opened_actively_md5, asked, signed}
use Rattle.rules.specs.Answers.{Answer, verdict_answer, signing_answer, done_answer, table_answer}
use Rattle.rules.specs.Answers.{table_number, judged_number, syn_number, opened_number, opened_md5_number, asked_number, signed_number}
use Rattle.rules.proofs.AnswerLaws as law

abbrev of_judged : Judged → Answer
of_judged j = verdict_answer j.verdict j.index

abbrev of_syn_judged : SynJudged → Answer
of_syn_judged c = verdict_answer c.verdict c.index

abbrev of_settled : Settled → Answer
of_settled s = done_answer s.answer s.index

abbrev of_signed : Signed → Answer
of_signed s = signing_answer s.answer s.index

pub judged-numbered : (t : Tables) (a : Arrival) (q : State) {r : Judged} → r ≡ judged t a q
    → (r ≡ judged t a q) × (of_judged r ≡ judged_number t a q)
judged-numbered t a q e = (e, ap of_judged e ∙ law.judged-number t a q)

pub syn-numbered : (t : Tables) (a : Arrival) (strict : Bool) {r : SynJudged} → r ≡ judged_syn t a strict
    → (r ≡ judged_syn t a strict) × (of_syn_judged r ≡ syn_number t a strict)
syn-numbered t a strict e = (e, ap of_syn_judged e ∙ law.syn-number t a strict)

pub passively-numbered : (t : Tables) (a : Arrival) (isn : ℕ) (strict : Bool) {r : Judged} → r ≡ opened_passively t a isn strict
    → (r ≡ opened_passively t a isn strict) × (of_judged r ≡ syn_number t a strict)
passively-numbered t a isn strict e = (e, ap of_judged e ∙ law.passively-number t a isn strict)

pub opened-numbered : (t : Tables) (local remote : List ℕ) (lp rp isn id : ℕ) {r : Settled} → r ≡ opened_actively t local remote lp rp isn id
    → (r ≡ opened_actively t local remote lp rp isn id) × (of_settled r ≡ opened_number t local remote lp rp id)
opened-numbered t local remote lp rp isn id e = (e, ap of_settled e ∙ law.opened-number t local remote lp rp isn id)

pub asked-numbered : (t : Tables) (id : ℕ) (q : State) {r : Settled} → r ≡ asked t id q
    → (r ≡ asked t id q) × (of_settled r ≡ asked_number t id q.conn)
asked-numbered t id q e = (e, ap of_settled e ∙ law.asked-number t id q)

pub signed-numbered : (t : Tables) (s out : List ℕ) (q : State) {r : Signed} → r ≡ signed t s out q → of_signed r ≡ signed_number t s out q
signed-numbered t s out q e = ap of_signed e ∙ law.signed-number t s out q

pub opened-md5-numbered : (t : Tables) (local remote : List ℕ) (lp rp isn : ℕ) {r : Settled} → r ≡ opened_actively_md5 t local remote lp rp isn
    → (r ≡ opened_actively_md5 t local remote lp rp isn) × (of_settled r ≡ opened_md5_number t local remote lp rp)
opened-md5-numbered t local remote lp rp isn e = (e, ap of_settled e ∙ law.opened-md5-number t local remote lp rp isn)

pub table-numbered : (form : ℕ) (k m : List ℕ) {r : Admitted} → r ≡ (tables_of form k m).answer
    → (r ≡ (tables_of form k m).answer) × (table_answer r ≡ table_number (tables_of form k m))
table-numbered form k m e = (e, ap table_answer e ∙ law.table-number (record { form = form; keys = k; md5 = m }))
