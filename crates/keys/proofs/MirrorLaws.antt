-- Laws of mirrored entries: seen from the other end they are mirrored too, and only the socket pair counts.
use Rattle.std.specs.Prelude.{true, ◌≡◌}
use Rattle.std.proofs.Common.{sym, ◌∙◌}
use Rattle.keys.specs.Match.{same_pair}
use Rattle.keys.proofs.MatchLaws.{matches-same}
use Rattle.keys.specs.Mirror.{Mirror}
use Rattle.keys.specs.declared.entry.Entry.{Entry}
use Rattle.keys.specs.declared.entry.Pair.{Pair}

pub mirror-turned : (p q : Pair) (e f : Entry) → Mirror p q e f → Mirror q p f e
mirror-turned p q e f m =
    record {
      here = m.there;
      there = m.here;
      sent = sym m.received;
      received = sym m.sent;
      flags = sym m.flags;
      local_hidden = sym m.remote-hidden;
      remote-hidden = sym m.local_hidden;
      algorithm = sym m.algorithm;
      mac = sym m.mac;
      key = sym m.key;
    }

pub mirror-same : (p q p' q' : Pair) (e f : Entry) → same_pair p p' ≡ true → same_pair q q' ≡ true → Mirror p q e f → Mirror p' q' e f
mirror-same p q p' q' e f here there m =
    record {
      here = sym (matches-same e.selector p p' here) ∙ m.here;
      there = sym (matches-same f.selector q q' there) ∙ m.there;
      sent = m.sent;
      received = m.received;
      flags = m.flags;
      local_hidden = m.local_hidden;
      remote-hidden = m.remote-hidden;
      algorithm = m.algorithm;
      mac = m.mac;
      key = m.key;
    }
