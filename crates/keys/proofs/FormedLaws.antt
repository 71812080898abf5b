-- What an entry's fields are that is given none of 13 to 16.
use Rattle.std.specs.Prelude.{ℕ, zero, suc, ◌*◌, ◌≤◌, Bool, true, false, not, ◌≡◌, refl, List, [], ◌∷◌, ◌++◌, ◌⊎◌, length, drop, eqb}
use Rattle.std.proofs.Common.{sym, ap, ◌∙◌, inl, inr, arith, eqb-true, ltb-false}
use Rattle.std.proofs.lemmas.Bool.{eqb-false, not-true, not-false}
use Rattle.octets.specs.Each.{Each}
use Rattle.octets.specs.Tests.{Test}
use Rattle.wire.specs.Prefix.{clear_past_of}
use Rattle.keys.specs.Algorithm.{mac_bytes_of}
use Rattle.keys.specs.Entry.{body, width, mac_length_of, secret_of_lem, entry_of, Item, item, sound, items, entries_of, entries}
use Rattle.keys.proofs.EntryLaws.{Shape}
use Rattle.keys.proofs.FaultLaws.{listed-sound}
use Rattle.keys.proofs.LoadLaws.{valid-formed, refused-conflicting, conflicting-refused}
use Rattle.keys.proofs.MatchLaws.{and-true}
use Rattle.keys.proofs.PlaceLaws.{each_at}
use Rattle.keys.specs.Table.{zeros, port_range_tests, side_tests, master_key_tests, loaded}
use Rattle.keys.specs.Clash.{Family, Passed, Formed, Listed, Sound, Md5RefusedBoth, Md5BothRefused}
use Rattle.keys.specs.declared.entry.Entry.{Entry}
use Rattle.keys.specs.declared.table.TableKind.{TableKind}
use Rattle.keys.specs.declared.table.TableKind.TheVariants.{Keys, Md5}
use Rattle.std.specs.Prelude.{Ok}

-- the tests that both tables have
abbrev own_of : Entry → List (Test ℕ)
own_of e =
    port_range_tests e.selector
    ++ (side_tests e.selector.family e.selector.local ++ (side_tests e.selector.family e.selector.remote ++ master_key_tests e.secret))

-- of an entry of either table

pub record Proper (e : Entry) : Type 0 where
  pub family : Family e.selector.family
  pub key-low : 1 ≤ e.secret.key_len
  pub key-high : e.secret.key_len ≤ 80
  pub key : length e.secret.key ≡ 80
  pub padding : zeros (drop e.secret.key_len e.secret.key) ≡ true
  pub local-ports : e.selector.local.low ≤ e.selector.local.high
  pub remote-ports : e.selector.remote.low ≤ e.selector.remote.high
  pub local-bits : e.selector.local.bits ≤ 8 * width e.selector.family
  pub remote-bits : e.selector.remote.bits ≤ 8 * width e.selector.family
  pub local-clear : clear_past_of e.selector.local.bits e.selector.local.address ≡ true
  pub remote-clear : clear_past_of e.selector.remote.bits e.selector.remote.address ≡ true

behind : (kind : TableKind) (e : Entry) → Formed kind e → Passed (own_of e)
behind Keys e f = f.1.1.1.1.1
behind Md5 e f = f.1.1.1.1

pub proper-of : (kind : TableKind) (e : Entry) → Shape e → Formed kind e → Proper e
proper-of kind e s f =
    let p = behind kind e f in
    let q = p.1.1 in
    let r = q.1.1 in
    let k = r.1.1 in
    record {
      family = s.family;
      key-low = ltb-false e.secret.key_len 1 k.0;
      key-high = ltb-false 80 e.secret.key_len k.1.0;
      key = s.key;
      padding = not-false _ k.1.1.0;
      local-ports = ltb-false e.selector.local.high e.selector.local.low p.0;
      remote-ports = ltb-false e.selector.remote.high e.selector.remote.low p.1.0;
      local-bits = ltb-false (8 * width e.selector.family) e.selector.local.bits q.0;
      remote-bits = ltb-false (8 * width e.selector.family) e.selector.remote.bits r.0;
      local-clear = not-false _ q.1.0;
      remote-clear = not-false _ r.1.0;
    }

-- of an entry of the key table

pub record KeyProper (e : Entry) : Type 0 where
  pub flags : e.secret.flags ≤ 7
  pub algorithm : (e.secret.algorithm ≡ 1) ⊎ ((e.secret.algorithm ≡ 2) ⊎ (e.secret.algorithm ≡ 3))
  pub mac-low : 4 ≤ e.secret.mac_bytes
  pub mac-high : e.secret.mac_bytes ≤ 16

one_of_three : (a : ℕ) → 1 ≤ a → a ≤ 3 → (a ≡ 1) ⊎ ((a ≡ 2) ⊎ (a ≡ 3))
one_of_three a h k = go (eqb a 1) (eqb a 2) refl refl
  where
    go : (x y : Bool) → eqb a 1 ≡ x → eqb a 2 ≡ y → (a ≡ 1) ⊎ ((a ≡ 2) ⊎ (a ≡ 3))
    go true y p q = inl (eqb-true a 1 p)
    go false true p q = inr (inl (eqb-true a 2 q))
    go false false p q = let u = eqb-false a 1 p in let v = eqb-false a 2 q in inr (inr (omega arith))

pub key-proper : (e : Entry) → Formed Keys e → KeyProper e
key-proper e f =
    let m = f.1.1.1 in
    record {
      flags = ltb-false 7 e.secret.flags f.0;
      algorithm = one_of_three e.secret.algorithm (ltb-false e.secret.algorithm 1 f.1.0) (ltb-false 3 e.secret.algorithm f.1.1.0);
      mac-low = ltb-false e.secret.mac_bytes 4 m.0;
      mac-high = ltb-false 16 e.secret.mac_bytes m.1.0;
    }

-- of an entry of the MD5 table

pub record Md5Proper (e : Entry) : Type 0 where
  pub flags : e.secret.flags ≡ 0
  pub algorithm : e.secret.algorithm ≡ 19
  pub send : e.ids.send ≡ 0
  pub recv : e.ids.recv ≡ 0

pub md5-proper : (e : Entry) → Formed Md5 e → Md5Proper e
md5-proper e f =
    let a = ltb-false 0 e.secret.flags f.0 in
    let b = ltb-false 0 e.ids.send f.1.1.0 in
    let c = ltb-false 0 e.ids.recv f.1.1.1.0 in
    record {
      flags = omega arith;
      algorithm = eqb-true e.secret.algorithm 19 (not-false _ f.1.0);
      send = omega arith;
      recv = omega arith;
    }

-- both IDs of its entries are 0, so that two that match one pair are in conflict

pub md5-refused-both : Md5RefusedBoth
md5-refused-both limit i t o e =
    let c = refused-conflicting Md5 limit i t o e in
    let d = c.conflict in
    record {
      earlier = c.earlier;
      later = c.later;
      one = c.one;
      two = c.two;
      at-earlier = c.at-earlier;
      at-later = c.at-later;
      order = c.order;
      pair = d.pair;
      is-pair = d.is-pair;
      first = d.first;
      second = d.second;
    }

pub md5-both-refused : Md5BothRefused
md5-both-refused limit t w c =
    let a = md5-proper c.one (each_at (Formed Md5) w.formed c.at-earlier) in
    let b = md5-proper c.two (each_at (Formed Md5) w.formed c.at-later) in
    conflicting-refused Md5 limit t w
    (record {
      earlier = c.earlier;
      later = c.later;
      one = c.one;
      two = c.two;
      at-earlier = c.at-earlier;
      at-later = c.at-later;
      order = c.order;
      conflict = record { pair = c.pair; is-pair = c.is-pair; first = c.first; second = c.second; shared = inl (a.send ∙ sym b.send) };
    })

-- the digest's length: kinds 4 and 6 have the algorithm's

abbrev Plain : Item → Type 0
Plain x = x.extended ≡ false → x.entry.secret.mac_bytes ≡ mac_bytes_of x.entry.secret.algorithm

plain-mac : (s : List ℕ) → Plain (item s)
unfolding item entry_of secret_of_lem mac_length_of
plain-mac s h = rw h

items-plain : (n : ℕ) (t : List ℕ) → Each Plain (items n t)
unfolding items
items-plain n [] = tt
items-plain (suc n) (b ∷ t) = items-plain n t
items-plain zero (b ∷ t) = go (sound (item (b ∷ t))) refl (items-plain (body b) t)
  where
    go : (c : Bool) → sound (item (b ∷ t)) ≡ c → Each Plain (items (body b) t) → Each Plain (items 0 (b ∷ t))
    go true e ih = rw e (plain-mac (b ∷ t), ih)
    go false e ih = rw e (plain-mac (b ∷ t), tt)

abbrev Digest : Entry → Type 0
Digest e = e.secret.mac_bytes ≡ 16

digest-of : (x : Item) → Plain x → Listed Md5 x → Formed Md5 x.entry → Digest x.entry
unfolding mac_bytes_of
digest-of x p k f =
    p (not-true _ (and-true x.kind-known (not x.extended) k).1) ∙ ap mac_bytes_of (md5-proper x.entry f).algorithm

digests : (l : List Item) → Each Plain l → Sound Md5 l → Each (Formed Md5) (entries_of l) → Each Digest (entries_of l)
unfolding entries_of
digests [] p s f = tt
digests (x ∷ l) p s f =
    let y = listed-sound Md5 x s.0 s.1 in
    let g : Formed Md5 x.entry × Each (Formed Md5) (entries_of l) = rw y at f in
    rw y (digest-of x p.0 s.0 g.0, digests l p.1 s.2 g.1)

pub md5-digests : (limit n : ℕ) (t : List ℕ) → loaded Md5 limit t ≡ Ok n → Each Digest (entries t)
md5-digests limit n t e =
    let w = (valid-formed Md5 limit n t e).0 in
    digests (items 0 t) (items-plain 0 t) w.sound w.formed
