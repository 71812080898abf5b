-- `boundary::calls::sign` meets its contract.
use Rattle.std.proofs.Common.{◌≡◌, ◌<◌, ◌^◌, not, sym, ap, ◌∙◌, subst, rules}
use Rattle.std.specs.Prelude.{Result}
use Rattle.tables.specs.declared.Refusal.{Refusal}
use Rattle.rules.specs.Answers.{signing_answer}
use Rattle.rules.specs.Calls.{signed, output}
use Rattle.rules.specs.Results.{Signed, signed_as}
use Rattle.rules.specs.declared.SignedSegment.{SignedSegment}
use Rattle.states.specs.Layout.{decode_of, encode_of}
use Rattle.boundary.specs.Word.{word, of_signed}
use Rattle.boundary.specs.Exports.{sign_export, writes}
use Rattle.boundary.proofs.Exported.{unchanged, made, other, whole, refused, done}
use Rattle.boundary.proofs.Lends.{signed-value}
use Rattle.boundary.proofs.calls.sign.Goals as goal

pub returns-then-not-is_state : goal.returns-then-not-is_state
unfolding sign_export
returns-then-not-is_state c =
    let a = c.args in
    let h = other a.state.now _ c.is_state.ensures (ap not c.if-not-is_state.true) in
    let q = decode_of a.state.now in
    let r =
    refused of_signed (λ (s : Signed). encode_of s.state) a.state.now (signed a.tables.now a.segment.now a.out.now q) _ h c.word.ensures in
    let o = unchanged a.state.now (output a.tables.now a.segment.now a.out.now q) a.out.now h in
    λ i. writes (r.0 i) (r.1 i) (o i)

pub decode-held-requires : goal.decode-held-requires
decode-held-requires c = whole c.args.state.now _ c.is_state.ensures (ap not c.if-not-is_state.false)

pub put-requires : goal.put-requires
put-requires c = whole c.args.state.now _ c.is_state.ensures (ap not c.if-not-is_state.false)

pub overflow_cast-signed : goal.overflow_cast-signed
unfolding signing_answer
overflow_cast-signed c =
    let v = signed-value _ _ _ _ c.parts.ensures _ _ _ _ c.sign.ensures.answer in
    let h : c.in-Ok.signed.len < 2 ^ 32 =
    subst (λ (r : Result SignedSegment Refusal). (of_signed (signed_as c.decode-held.result r)).value < 2 ^ 32) c.in-Ok.is v in
    search rules

pub of_refusal-requires : goal.of_refusal-requires
unfolding signing_answer
of_refusal-requires c =
    subst (λ (r : Result SignedSegment Refusal). (of_signed (signed_as c.decode-held.result r)).value < 2 ^ 32) c.in-Err.is
    (signed-value _ _ _ _ c.parts.ensures _ _ _ _ c.sign.ensures.answer)

pub returns-in-Ok : goal.returns-in-Ok
unfolding sign_export signing_answer
returns-in-Ok c =
    let a = c.args in
    let h = whole a.state.now _ c.is_state.ensures (ap not c.if-not-is_state.false) in
    let q = decode_of a.state.now in
    let old = c.decode-held.result in
    let r =
    done of_signed (λ (s : Signed). encode_of s.state) a.state.now (signed a.tables.now a.segment.now a.out.now q) (signed_as old c.sign.result)
    _ _ h
    (c.sign.ensures.answer ∙ ap (signed a.tables.now a.segment.now a.out.now) c.decode-held.ensures.state)
    (c.word-in-Ok.ensures ∙ ap (λ (x : Result SignedSegment Refusal). word (of_signed (signed_as old x))) (sym c.in-Ok.is))
    (c.put.ensures ∙ ap (λ (x : Result SignedSegment Refusal). encode_of (signed_as old x).state) (sym c.in-Ok.is)) in
    let o =
    c.sign.ensures.storage
    ∙ (ap (output a.tables.now a.segment.now a.out.now) c.decode-held.ensures.state
    ∙ made a.state.now (output a.tables.now a.segment.now a.out.now q) a.out.now h) in
    λ i. writes (r.0 i) (r.1 i) (o i)

pub returns-in-Err : goal.returns-in-Err
unfolding sign_export signing_answer
returns-in-Err c =
    let a = c.args in
    let h = whole a.state.now _ c.is_state.ensures (ap not c.if-not-is_state.false) in
    let q = decode_of a.state.now in
    let old = c.decode-held.result in
    let r =
    done of_signed (λ (s : Signed). encode_of s.state) a.state.now (signed a.tables.now a.segment.now a.out.now q) (signed_as old c.sign.result)
    _ _ h
    (c.sign.ensures.answer ∙ ap (signed a.tables.now a.segment.now a.out.now) c.decode-held.ensures.state)
    (c.of_refusal.ensures ∙ ap (λ (x : Result SignedSegment Refusal). word (of_signed (signed_as old x))) (sym c.in-Err.is))
    (sym c.decode-held.ensures.back ∙ ap (λ (x : Result SignedSegment Refusal). encode_of (signed_as old x).state) (sym c.in-Err.is)) in
    let o =
    c.sign.ensures.storage
    ∙ (ap (output a.tables.now a.segment.now a.out.now) c.decode-held.ensures.state
    ∙ made a.state.now (output a.tables.now a.segment.now a.out.now q) a.out.now h) in
    λ i. writes (r.0 i) (r.1 i) (o i)
