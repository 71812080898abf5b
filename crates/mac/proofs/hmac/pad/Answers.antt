use Rattle.std.proofs.Common.{◌≡◌, length, ◌∙◌, ap, rules}
use Rattle.mac.specs.BlocksLaws.{chained-one}
use Rattle.mac.specs.HashContexts.{parts_of}
use Rattle.mac.proofs.hmac.pad.Goals as goal

pub returns : goal.returns
returns c =
    let H = parts_of c.args.hash in
    let long : length c.xored-p.result ≡ 64 = search rules in
    c.compress_all.ensures ∙ chained-one H c.xored-p.result long c.initial.ensures ∙ ap (H.compress H.initial) c.xored-p.ensures
