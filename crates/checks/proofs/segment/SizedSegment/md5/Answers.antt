-- The option lies in the header: the law of Keyed.
use Rattle.std.proofs.Common.{◌≡◌, ◌≤◌, true, rules}
use mathlib.Core.Path.{subst}
use Rattle.wire.specs.Header.{header_end_of, well_sized_of}
use Rattle.rules.specs.Segment.{md5}
use Rattle.checks.proofs.Keyed.{lies_md5}
use Rattle.checks.proofs.segment.SizedSegment.md5.Goals as goal

pub returns-clause-place : goal.returns-clause-place
returns-clause-place c =
    let here : c.unwrap_or_default.result.md5 ≡ md5 c.args.self.now = search rules in
    lies_md5 c.args.self.now
    (subst (λ s. well_sized_of s ≡ true) c.self.view_is c.self.invariant.0)
    (subst (λ s. header_end_of s ≤ 60) c.self.view_is c.self.invariant.1)
    here
