-- Entries that mirror each other: document 01, "Key table (house bytes)", "Two entries mirror each other on a connection if ..",
-- and document 02, Ticket 10.
use Rattle.std.specs.Prelude.{◌%◌, true, ◌≡◌}
use Rattle.keys.specs.Entry.{local_hidden_of, remote_hidden, key_of}
use Rattle.keys.specs.Match.{matches}
use Rattle.keys.specs.declared.entry.Entry.{Entry}
use Rattle.keys.specs.declared.entry.Pair.{Pair}

-- of the connection whose pair e's end holds as p, and f's end as q
pub record Mirror (p q : Pair) (e f : Entry) : Type 0 where
  -- "each matches the pair as its own end holds it"
  pub here : matches e.selector p ≡ true
  pub there : matches f.selector q ≡ true
  -- "SendID and RecvID are exchanged"
  pub sent : e.ids.send ≡ f.ids.recv
  pub received : e.ids.recv ≡ f.ids.send
  -- "and flags, algorithm and key, with whatever later requests add to them, agree"; document 02, Ticket 10: "the two new bits are
  -- exchanged, and only the first bit agrees"
  pub flags : e.secret.flags % 2 ≡ f.secret.flags % 2
  pub local_hidden : local_hidden_of e.secret ≡ remote_hidden f.secret
  pub remote-hidden : remote_hidden e.secret ≡ local_hidden_of f.secret
  pub algorithm : e.secret.algorithm ≡ f.secret.algorithm
  pub mac : e.secret.mac_bytes ≡ f.secret.mac_bytes
  pub key : key_of e.secret ≡ key_of f.secret
