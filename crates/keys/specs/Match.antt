-- Whom an entry matches, and when two entries clash: document 01, "Key table (house bytes)", and RFC 5925, section 3.1.
-- Only the family's bytes of an address are looked at, whatever prefix length an entry has: `fixed`. The family is compared and no more,
-- so that a pair of a family other than 4 and 6 matches no entry of any table.
use Rattle.std.specs.Prelude.{ℕ, ◌*◌, max, min, Bool, true, ◌&&◌, ◌||◌, List, [], ◌∷◌, leb, eqb}
use Rattle.wire.specs.Prefix.{agree}
use Rattle.keys.specs.Entry.{width}
use Rattle.keys.specs.declared.entry.Side.{Side}
use Rattle.keys.specs.declared.entry.Selector.{Selector}
use Rattle.keys.specs.declared.entry.Ids.{Ids}
use Rattle.keys.specs.declared.entry.Entry.{Entry}
use Rattle.keys.specs.declared.entry.Pair.{Pair}

abbrev pub every : List Bool → Bool
every [] = true
every (b ∷ l) = b && every l

-- how many of an address's first bits a prefix length fixes: no more than an address of the family has
abbrev pub fixed : ℕ → ℕ → ℕ
fixed f bits = min bits (8 * width f)

-- "the ports lie in the ranges and, on each side, the first prefix-length bits agree"
abbrev pub holding : ℕ → Side → ℕ → List ℕ → List Bool
holding f s port address = leb s.low port ∷ leb port s.high ∷ agree (fixed f s.bits) s.address address ∷ []

unfoldable pub holds : ℕ → Side → ℕ → List ℕ → Bool
holds f s port address = every (holding f s port address)

-- "An entry matches a socket pair of its family when .." both sides hold
abbrev pub matching : Selector → Pair → List Bool
matching s p =
    eqb s.family p.family
    ∷ holds s.family s.local p.local_port p.local
    ∷ holds s.family s.remote p.remote_port p.remote ∷ []

unfoldable pub matches : Selector → Pair → Bool
matches s p = every (matching s p)

-- two pairs are the same socket pair: the bytes of an address field that the family does not use mean nothing
abbrev pub sameness : Pair → Pair → List Bool
sameness p q =
    eqb p.family q.family
    ∷ eqb p.local_port q.local_port
    ∷ eqb p.remote_port q.remote_port
    ∷ agree (8 * width p.family) p.local q.local
    ∷ agree (8 * width p.family) p.remote q.remote ∷ []

unfoldable pub same_pair : Pair → Pair → Bool
same_pair p q = every (sameness p q)

-- two sides have a port and an address in common: the test by which the loader finds "a socket pair .. that two entries both match"
abbrev pub meeting : ℕ → Side → Side → List Bool
meeting f a b =
    leb (max a.low b.low) (min a.high b.high)
    ∷ agree (min (fixed f a.bits) (fixed f b.bits)) a.address b.address ∷ []

unfoldable pub meet : ℕ → Side → Side → Bool
meet f a b = every (meeting f a b)

-- the remote side first: it mostly tells entries apart
abbrev pub overlapping : Selector → Selector → List Bool
overlapping a b =
    eqb a.family b.family ∷ meet a.family a.remote b.remote ∷ meet a.family a.local b.local ∷ []

unfoldable pub overlap : Selector → Selector → Bool
overlap a b = every (overlapping a b)

-- "they share SendID or share RecvID"
unfoldable pub share : Ids → Ids → Bool
share a b = eqb a.send b.send || eqb a.recv b.recv

unfoldable pub clash : Entry → Entry → Bool
clash e f = share e.ids f.ids && overlap e.selector f.selector
