-- From one candidate to the next there is no hit.
use Rattle.std.proofs.Common.{rules, ◌≡◌, refl, length, get_or}
use mir.Syntax.{w8}
use mir.Val.{Fits}
use Rattle.octets.specs.Each.{Octets}
use Rattle.prepared.proofs.ScanSteps.{search-here, search-next, search-over}
use Rattle.prepared.proofs.stored.Stored.search.Goals as goal

pub returns-then-matches_at-clause-first : goal.returns-then-matches_at-clause-first
returns-then-matches_at-clause-first c =
    let s = c.args.self.now in
    let p = c.args.pair in
    let ro : Octets p.remote = λ j. let f : Fits w8 (get_or p.remote j 0) = search rules in f.fits in
    let lo : Octets p.local = λ j. let f : Fits w8 (get_or p.local j 0) = search rules in f.fits in
    let l : length p.remote ≡ 16 = search rules in
    search-here s.bytes.now s.n c.args.by p s.octets s.room ro l lo c.loop-i.invariant.1 c.of-wanted.result c.of-wanted.ensures c.requires.1 c.in-Some.ensures.first c.in-Some.ensures.inside _
    c.matches_at.ensures c.if-matches_at.true

pub loop-i-preserved : goal.loop-i-preserved
loop-i-preserved c =
    let s = c.args.self.now in
    let p = c.args.pair in
    let ro : Octets p.remote = λ j. let f : Fits w8 (get_or p.remote j 0) = search rules in f.fits in
    let lo : Octets p.local = λ j. let f : Fits w8 (get_or p.local j 0) = search rules in f.fits in
    let l : length p.remote ≡ 16 = search rules in (
      c.of-wanted.ensures,
      search-next s.bytes.now s.n c.args.by p s.octets s.room ro l lo c.loop-i.invariant.1 c.of-wanted.result c.of-wanted.ensures c.requires.1 c.in-Some.ensures.first c.in-Some.ensures.inside _
          c.matches_at.ensures c.if-matches_at.false,
    )

pub returns-clause-first : goal.returns-clause-first
returns-clause-first c =
    let s = c.args.self.now in
    let p = c.args.pair in
    let ro : Octets p.remote = λ j. let f : Fits w8 (get_or p.remote j 0) = search rules in f.fits in
    let lo : Octets p.local = λ j. let f : Fits w8 (get_or p.local j 0) = search rules in f.fits in
    let l : length p.remote ≡ 16 = search rules in
    search-over s.bytes.now s.n c.args.by p s.octets s.room ro l lo c.loop-i.invariant.1 c.of-wanted.result c.of-wanted.ensures c.requires.1 c.in_default.ensures.first refl
