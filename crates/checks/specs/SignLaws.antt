-- Signing's tests one part behind another are the definition's. Assumes nothing.
use Rattle.std.specs.Prelude.{ℕ, ◌≡◌, List, length, Ok, Err}
use Rattle.std.proofs.Common.{◌∙◌, ap}
use Rattle.wire.specs.Header.{sequence, header_of_lem}
use Rattle.keys.specs.Table.{Found}
use Rattle.tables.specs.Tables.{Tables}
use Rattle.rules.specs.declared.Outcome.{Outcome}
use Rattle.rules.specs.declared.Outcome.TheVariants.{Good}
use Rattle.rules.specs.declared.State.{State}
use Rattle.octets.specs.Tests.{Test, first, checked}
use Rattle.octets.specs.TestLaws.{checked-passed, checked-given}
use Rattle.rules.specs.Connection.{place_on_lem, value}
use Rattle.rules.specs.Calls.{outgoing, added_on_lem, check_sign}
use Rattle.checks.specs.SignGroups.{input_tests, sign_lines, granted_of}
use Rattle.checks.specs.GroupLaws.{and-err, and-ok}
use Rattle.checks.specs.declared.signing.Granted.{Granted}

module _ (t : Tables) (s : List ℕ) (room : ℕ) (q : State) where
  -- the outcome where no test applies
  abbrev good : Outcome
  good = Good (value (place_on_lem q.conn q.sent (sequence s))) q.ask_id

  abbrev lines : Found → List (Test Outcome)
  lines f = sign_lines room (added_on_lem q.conn f.entry) f.there q (header_of_lem (length s) s)

  -- the input decides
  pub at-input : {e : Outcome} → checked (input_tests t s q.conn) ≡ Err e → check_sign t s room q ≡ e
  unfolding check_sign
  at-input n = checked-given (input_tests t s q.conn) (first (lines (outgoing t q)) good) n

  module _ (none : checked (input_tests t s q.conn) ≡ Ok tt) where
    -- it leaves it to the rest, under the entry that signs
    behind : check_sign t s room q ≡ first (lines (outgoing t q)) good
    unfolding check_sign
    behind = checked-passed (input_tests t s q.conn) (first (lines (outgoing t q)) good) none

    pub at-signing : {e : Outcome} → granted_of room (outgoing t q) q (header_of_lem (length s) s) ≡ Err e → check_sign t s room q ≡ e
    at-signing n = behind ∙ checked-given (lines (outgoing t q)) good (and-err (checked (lines (outgoing t q))) _ n)

    pub may-sign : {g : Granted} → granted_of room (outgoing t q) q (header_of_lem (length s) s) ≡ Ok g → check_sign t s room q ≡ Good g.position q.ask_id
    may-sign n =
        let k = and-ok (checked (lines (outgoing t q))) _ n in
        behind ∙ checked-passed (lines (outgoing t q)) good k.0 ∙ ap (λ (g : Granted). Good g.position q.ask_id) k.1
