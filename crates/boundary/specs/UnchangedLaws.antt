-- A call that is refused leaves every buffer as it was, but for the count, and a SYN that is only passed leaves the empty state: the
-- statements of Unchanged.antt, proved. Assumes of a state buffer that its bytes are below 256.
use Rattle.std.specs.Prelude.{ℕ, ◌≡◌, refl, Bool, true, false, cond, ◌&&◌, List, length, replicate}
use Rattle.std.proofs.Common.{ap, ◌∙◌, arith, eqb-true}
use Rattle.octets.specs.Each.{Octets}
use Rattle.tables.specs.Preparing.{prepare_output}
use Rattle.rules.specs.declared.State.{State}
use Rattle.rules.specs.Connection.{arrival_of, is_open_of, is_counted, empty}
use Rattle.rules.specs.Calls.{opened_actively, opened_actively_md5, asked, signed, output}
use Rattle.rules.specs.Lent.{tables}
use Rattle.rules.specs.History.{judge, sign, ask}
use Rattle.rules.specs.Refusals.{on, by_verdict, by_signing, one_more_of}
use Rattle.rules.proofs.RefusalLaws.{refusal, passed-empty}
use Rattle.rules.proofs.GivenNumberLaws.{judge-never-passes}
use Rattle.states.specs.Layout.{is_state_of, state_bytes, decode_of, word_bytes, rows, joined, encode_of}
use Rattle.states.specs.LayoutLaws.{encode-decode}
use Rattle.boundary.specs.Exports.{changed, state_after, settles, opens, state_where, strictly}
use Rattle.boundary.specs.Exports.{prepare_export, open_passive_export, open_active_export, open_active_md5_export, judge_export, sign_export, ask_export}
use Rattle.boundary.specs.Unchanged.{OtherLength, passively, PassivelyRefused, PassivelyPassed, ActivelyRefused, ActivelyMd5Refused}
use Rattle.boundary.specs.Unchanged.{PrepareRefused, judging, JudgeRefused, JudgePassesNone, SignRefused, AskRefused}

pub other_length : OtherLength
unfolding changed
other_length b x y h = rw h

-- an opening that did not open
closed : (b : List ℕ) (q : State) (o : Bool) → o ≡ false → state_where b o q ≡ b
unfolding changed
closed b q o e = go (is_state_of b) refl
  where
    go : (c : Bool) → is_state_of b ≡ c → state_where b o q ≡ b
    go true p = rw (p, e)
    go false p = rw p

-- every byte of the empty state is zero
empty-zeros : encode_of empty ≡ replicate state_bytes 0
unfolding encode_of joined rows word_bytes
empty-zeros = refl

-- one that wrote the empty state
cleared : (b : List ℕ) (q : State) (o : Bool) → is_state_of b ≡ true → o ≡ true → q ≡ empty → state_where b o q ≡ replicate state_bytes 0
unfolding changed
cleared b q o h e p = rw (h, e) (ap encode_of p ∙ empty-zeros)

pub passively-refused : PassivelyRefused
unfolding open_passive_export
passively-refused t source destination segment isn setting b n e =
    closed b (passively t source destination segment isn setting).state _ (ap settles e)

pub passively-passed : PassivelyPassed
unfolding open_passive_export
passively-passed t source destination segment isn setting b h e =
    cleared b (passively t source destination segment isn setting).state _ h (ap settles e)
    (passed-empty t (arrival_of source destination segment) isn (strictly setting) e)

pub actively-refused : ActivelyRefused
unfolding open_active_export
actively-refused t local remote local_port remote_port isn send_id b n e =
    closed b (opened_actively t local remote local_port remote_port isn send_id).state _ (ap opens e)

pub actively-md5-refused : ActivelyMd5Refused
unfolding open_active_md5_export
actively-md5-refused t local remote local_port remote_port isn b n e =
    closed b (opened_actively_md5 t local remote local_port remote_port isn).state _ (ap opens e)

-- a state that is left alone is written as the bytes that it was read from
alike : (b : List ℕ) → Octets b → (q : State) (c : Bool) (m : State) → q ≡ cond c m (decode_of b) → state_after b q ≡ state_where b c m
unfolding changed
alike b o q c m e = go (is_state_of b) c refl refl
  where
    go : (d k : Bool) → is_state_of b ≡ d → c ≡ k → state_after b q ≡ state_where b c m
    go false k p r = rw p
    go true true p r = rw (p, r) (ap encode_of (rw r at e))
    go true false p r = rw (p, r) (ap encode_of (rw r at e) ∙ encode-decode b (eqb-true (length b) state_bytes p) o)

kept : (b : List ℕ) → Octets b → (q : State) → q ≡ decode_of b → state_after b q ≡ b
kept b o q e = alike b o q false q e ∙ closed b q false refl

pub prepare-refused : PrepareRefused
unfolding prepare_export prepare_output
prepare-refused k m out n i e = rw e

pub judge-refused : JudgeRefused
unfolding judge_export
judge-refused b o t source destination segment n e =
    let r = refusal (on (judge t (arrival_of source destination segment)) (decode_of b)) n (ap by_verdict e) in
    alike b o (judging b t source destination segment).state
    (is_open_of (decode_of b).conn && is_counted n) (one_more_of n (decode_of b)) r.state

pub judge-passes-none : JudgePassesNone
judge-passes-none b o t source destination segment e =
    let z : ◌≡◌ {A = ℕ} 0 1 = cc (rw e at (judge-never-passes (tables t) (arrival_of source destination segment) (decode_of b))) in
    omega arith

pub sign-refused : SignRefused
unfolding changed sign_export
sign-refused b o t s out n e =
    let u = refusal (on (sign t s out) (decode_of b)) n (ap by_signing e) in
    (kept b o (signed (tables t) s out (decode_of b)).state u.state, go (is_state_of b) refl u.output)
  where
    go : (c : Bool) → is_state_of b ≡ c → output (tables t) s out (decode_of b) ≡ out → changed b (output (tables t) s out (decode_of b)) out ≡ out
    go true p u = rw p u
    go false p u = rw p

pub ask-refused : AskRefused
unfolding ask_export
ask-refused b o t id n e = kept b o (asked (tables t) id (decode_of b)).state (refusal (on (ask t id) (decode_of b)) n e).state
