-- A number is that of the same tests under the entry found.
use Rattle.std.proofs.Common.{◌≡◌, ℕ, Bool, Err, cond, sym, ap, ◌∙◌}
use Rattle.octets.specs.Tests.{checked}
use Rattle.wire.specs.declared.header.Header.{Header}
use Rattle.keys.specs.declared.entry.Secret.{Secret}
use Rattle.keys.specs.Table.{Found, found_of}
use Rattle.rules.specs.Segment.{option_bytes, md5_option_bytes}
use Rattle.rules.specs.Connection.{is_md5_of}
use Rattle.rules.specs.Calls.{added_on_lem}
use Rattle.rules.specs.declared.Outcome.{Outcome}
use Rattle.rules.specs.declared.State.{State}
use Rattle.checks.specs.GroupLaws.{and-err}
use Rattle.checks.specs.SignGroups.{sign_lines, signed, granted_of}
use Rattle.checks.proofs.Keyed.{there_is}
use Rattle.checks.proofs.Judging.{err-is}
use Rattle.checks.proofs.signing.grant.Goals as goal

refused : (room : ℕ) (f : Found) (q : State) (h : Header) {n : ℕ} {there : Bool} {e : Outcome} → n ≡ added_on_lem q.conn f.entry
    → there ≡ f.there → Err e ≡ signed room n there q h → Err e ≡ granted_of room f q h
refused room f q h {n = n} {there = there} {e = e} adds is k =
    let gives : checked (sign_lines room (added_on_lem q.conn f.entry) f.there q h) ≡ Err e =
    (λ i. checked (sign_lines room (sym adds i) (sym is i) q h)) ∙ and-err (checked (sign_lines room n there q h)) _ (sym k) in
    rw gives

pub returns-in_err-position : goal.returns-in_err-position
returns-in_err-position c =
    let a = c.args in
    let adds =
    c.added_on-added.ensures
    ∙ ap (λ (s : Secret). cond (is_md5_of a.state.conn) md5_option_bytes (option_bytes s.mac_bytes)) c.secret_of-secret.ensures in
    err-is c.from_residual.result c.in_err-position.field-0.0 c.from_residual.ensures
    ∙ refused a.room (found_of a.found) a.state a.header adds (c.is_some.ensures ∙ sym (there_is a.found)) c.in_err-position.ensures
