-- The clash exactly: two entries overlap exactly if a socket pair exists that both match (document 01, "Key table"; RFC 5925, section 3.1), with the pair.
-- That the pair is one (`IsPair`) is asked of the entries' fields (`Fields`), which every entry that bytes mean has (proofs/EntryLaws.antt); nothing else is assumed.
use Rattle.std.specs.Prelude.{ℕ, ◌*◌, ◌<◌, max, min, Bool, true, false, cond, ◌&&◌, ◌||◌, ◌≡◌, List, [], ◌∷◌, ◌⊎◌, length, leb, eqb}
use Rattle.std.proofs.Math.Path.{refl, sym}
use Rattle.std.proofs.Common.{◌∙◌, inl, inr, ⊎_elim, arith}
use borrow.Author.Tests.{eq-eqb, eqb-true, le-leb, leb-true, leb-false}
use Rattle.octets.specs.Each.{Octets}
use Rattle.wire.specs.Prefix.{agree}
use Rattle.wire.specs.PrefixLaws.{agree_refl, agree-sym, agree-meet}
use Rattle.keys.specs.Entry.{width}
use Rattle.keys.specs.Match.{every, fixed, holding, holds, matching, matches, sameness, same_pair, meeting, meet, overlapping, overlap, share, clash}
pub use Rattle.keys.specs.Clash.{Family, IsPair, Conflict}
use Rattle.keys.specs.declared.entry.Side.{Side}
use Rattle.keys.specs.declared.entry.Selector.{Selector}
use Rattle.keys.specs.declared.entry.Ids.{Ids}
use Rattle.keys.specs.declared.entry.Entry.{Entry}
use Rattle.keys.specs.declared.entry.Pair.{Pair}

-- lists of tests

abbrev pub Every : List Bool → Type 0
Every [] = Unit {0}
Every (b ∷ l) = (b ≡ true) × Every l

pub every_true : (l : List Bool) → every l ≡ true → Every l
every_true [] e = tt
every_true (true ∷ l) e = (refl, every_true l e)
every_true (false ∷ l) e = let z : ◌≡◌ {A = ℕ} 0 1 = cc in absurd (omega arith)

pub true-every : (l : List Bool) → Every l → every l ≡ true
true-every [] e = refl
true-every (b ∷ l) e = rw e.0 (true-every l e.1)

pub or-true : (a b : Bool) → (a || b) ≡ true → (a ≡ true) ⊎ (b ≡ true)
or-true true b e = inl refl
or-true false b e = inr e

pub and-true : (a b : Bool) → (a && b) ≡ true → (a ≡ true) × (b ≡ true)
and-true true b e = (refl, e)
and-true false b e = let z : ◌≡◌ {A = ℕ} 0 1 = cc in absurd (omega arith)

-- what the fields of an entry are, whatever bytes it was read from
pub record SideFields (s : Side) : Type 0 where
  pub low : s.low < 65536
  pub high : s.high < 65536
  pub sixteen : length s.address ≡ 16
  pub octets : Octets s.address

pub record Fields (s : Selector) : Type 0 where
  pub family : Family s.family
  pub local : SideFields s.local
  pub remote : SideFields s.remote

-- one side of two entries

-- the address of the longer prefix
abbrev longer : ℕ → ℕ → List ℕ → List ℕ → List ℕ
longer n m a b = cond (leb n m) b a

longer-is : (P : List ℕ → Type 0) (n m : ℕ) (a b : List ℕ) → P a → P b → P (longer n m a b)
longer-is P n m a b pa pb = go (leb n m) refl
  where
    go : (c : Bool) → leb n m ≡ c → P (longer n m a b)
    go true q = rw q pb
    go false q = rw q pa

longer-agrees : (n m : ℕ) (a b : List ℕ) → agree (min n m) a b ≡ true → (agree n a (longer n m a b) ≡ true) × (agree m b (longer n m a b) ≡ true)
longer-agrees n m a b e = go (leb n m) refl
  where
    go : (c : Bool) → leb n m ≡ c → (agree n a (longer n m a b) ≡ true) × (agree m b (longer n m a b) ≡ true)
    go true q = let h = leb-true n m q in let i : min n m ≡ n = omega arith in (rw q (rw i at e), rw q (agree_refl m b))
    go false q = let h = leb-false n m q in let i : min n m ≡ m = omega arith in (rw q (agree_refl n a), rw q (agree-sym m a b (rw i at e)))

module _ (f : ℕ) (a b : Side) where
  meet-found : (port : ℕ) (x : List ℕ) → holds f a port x ≡ true → holds f b port x ≡ true → meet f a b ≡ true
  unfolding holds meet
  meet-found port x ha hb =
      let p = every_true (holding f a port x) ha in
      let q = every_true (holding f b port x) hb in
      let p0 = leb-true a.low port p.0 in
      let p1 = leb-true port a.high p.1.0 in
      let q0 = leb-true b.low port q.0 in
      let q1 = leb-true port b.high q.1.0 in
      true-every (meeting f a b) (
        le-leb (max a.low b.low) (min a.high b.high) (omega arith),
        (
          agree-meet (fixed f a.bits) (fixed f b.bits) a.address b.address x p.1.1.0 q.1.1.0,
          tt,
        ),
      )

  abbrev common_port : ℕ
  common_port = max a.low b.low

  abbrev common_address : List ℕ
  common_address = longer (fixed f a.bits) (fixed f b.bits) a.address b.address

  meet-holds : meet f a b ≡ true → (holds f a common_port common_address ≡ true) × (holds f b common_port common_address ≡ true)
  unfolding holds meet
  meet-holds e =
      let m = every_true (meeting f a b) e in
      let h = leb-true (max a.low b.low) (min a.high b.high) m.0 in
      let g = longer-agrees (fixed f a.bits) (fixed f b.bits) a.address b.address m.1.0 in (
        true-every (holding f a common_port common_address)
            (le-leb a.low common_port (omega arith), (le-leb common_port a.high (omega arith), (g.0, tt))),
        true-every (holding f b common_port common_address)
            (le-leb b.low common_port (omega arith), (le-leb common_port b.high (omega arith), (g.1, tt))),
      )

  common-is : SideFields a → SideFields b → (common_port < 65536) × (length common_address ≡ 16) × Octets common_address
  common-is fa fb =
      let n = fixed f a.bits in
      let m = fixed f b.bits in
      let k = fa.low in
      let l = fb.low in (
        omega arith,
        longer-is (λ x. length x ≡ 16) n m a.address b.address fa.sixteen fb.sixteen,
        longer-is Octets n m a.address b.address fa.octets fb.octets,
      )

-- both sides

module _ (s r : Selector) where
  -- the pair that two overlapping entries both match
  abbrev pub witness : Pair
  witness =
      record {
        family = s.family;
        local_port = common_port s.family s.local r.local;
        remote_port = common_port s.family s.remote r.remote;
        local = common_address s.family s.local r.local;
        remote = common_address s.family s.remote r.remote;
      }

  pub overlap-matches : overlap s r ≡ true → (matches s witness ≡ true) × (matches r witness ≡ true)
  unfolding matches overlap
  overlap-matches e =
      let o = every_true (overlapping s r) e in
      let k : s.family ≡ r.family = eqb-true _ _ o.0 in
      let l = meet-holds s.family s.local r.local o.1.1.0 in
      let m = meet-holds s.family s.remote r.remote o.1.0 in (
        true-every (matching s witness) (eq-eqb s.family s.family refl, (l.0, (m.0, tt))),
        true-every (matching r witness) (eq-eqb _ _ (sym k), (rw (sym k) l.1, (rw (sym k) m.1, tt))),
      )

  pub witness-is : Fields s → Fields r → IsPair witness
  witness-is fs fr =
      let l = common-is s.family s.local r.local fs.local fr.local in
      let m = common-is s.family s.remote r.remote fs.remote fr.remote in
      record {
        family = fs.family;
        local-port = l.0;
        remote-port = m.0;
        local-length = l.1;
        remote-length = m.1;
        local-octets = l.2;
        remote-octets = m.2;
      }

  -- a pair that both match is a reason to overlap
  pub overlap-found : (p : Pair) → matches s p ≡ true → matches r p ≡ true → overlap s r ≡ true
  unfolding matches overlap
  overlap-found p ms mr =
      let a = every_true (matching s p) ms in
      let b = every_true (matching r p) mr in
      let k : r.family ≡ s.family = eqb-true _ _ b.0 ∙ sym (eqb-true _ _ a.0) in
      true-every (overlapping s r) (
        eq-eqb _ _ (sym k),
        (
          meet-found s.family s.remote r.remote p.remote_port p.remote a.1.1.0 (rw k at b.1.1.0),
          (
            meet-found s.family s.local r.local p.local_port p.local a.1.0 (rw k at b.1.0),
            tt,
          ),
        ),
      )

-- entries

share-is : (a b : Ids) → share a b ≡ true → (a.send ≡ b.send) ⊎ (a.recv ≡ b.recv)
unfolding share
share-is a b e = ⊎_elim (λ q. inl (eqb-true a.send b.send q)) (λ q. inr (eqb-true a.recv b.recv q)) (or-true (eqb a.send b.send) _ e)

shared : (a b : Ids) → (a.send ≡ b.send) ⊎ (a.recv ≡ b.recv) → share a b ≡ true
unfolding share
shared a b (inl q) = rw (eq-eqb a.send b.send q)
shared a b (inr q) = or-second (eqb a.send b.send) (eq-eqb a.recv b.recv q)
  where
    or-second : (x : Bool) {y : Bool} → y ≡ true → (x || y) ≡ true
    or-second true h = refl
    or-second false h = h

-- the clash test holds exactly of entries in conflict
pub clash-conflict : (e f : Entry) → Fields e.selector → Fields f.selector → clash e f ≡ true → Conflict e f
unfolding clash
clash-conflict e f fe ff c =
    let h = and-true (share e.ids f.ids) _ c in
    let m = overlap-matches e.selector f.selector h.1 in
    record {
      pair = witness e.selector f.selector;
      is-pair = witness-is e.selector f.selector fe ff;
      first = m.0;
      second = m.1;
      shared = share-is e.ids f.ids h.0;
    }

pub clash-of : (e f : Entry) (p : Pair) → matches e.selector p ≡ true → matches f.selector p ≡ true → (e.ids.send ≡ f.ids.send) ⊎ (e.ids.recv ≡ f.ids.recv) → clash e f ≡ true
unfolding clash
clash-of e f p me mf h = rw (shared e.ids f.ids h) (overlap-found e.selector f.selector p me mf)

pub conflict-clash : (e f : Entry) → Conflict e f → clash e f ≡ true
conflict-clash e f c = clash-of e f c.pair c.first c.second c.shared

-- the same socket pair is matched by the same entries

holds_same : (f : ℕ) (s : Side) (m n : ℕ) (a b : List ℕ) → m ≡ n → agree (8 * width f) a b ≡ true → holds f s m a ≡ true → holds f s n b ≡ true
unfolding holds
holds_same f s m n a b e g h =
    let p = every_true (holding f s m a) h in
    let k : min (fixed f s.bits) (8 * width f) ≡ fixed f s.bits = omega arith in
    true-every (holding f s n b) (
      rw e at p.0,
      (
        rw e at p.1.0,
        (
          rw k at (agree-meet (fixed f s.bits) (8 * width f) s.address b a p.1.1.0 (agree-sym (8 * width f) a b g)),
          tt,
        ),
      ),
    )

matches-by : (s : Selector) (p q : Pair) → same_pair p q ≡ true → matches s p ≡ true → matches s q ≡ true
unfolding matches same_pair
matches-by s p q e m =
    let a = every_true (sameness p q) e in
    let b = every_true (matching s p) m in
    let k : s.family ≡ p.family = eqb-true _ _ b.0 in
    true-every (matching s q) (
      eq-eqb s.family q.family (k ∙ eqb-true _ _ a.0),
      (
        holds_same s.family s.local _ _ p.local q.local (eqb-true _ _ a.1.0) (rw k a.1.1.1.0) b.1.0,
        (
          holds_same s.family s.remote _ _ p.remote q.remote (eqb-true _ _ a.1.1.0) (rw k a.1.1.1.1.0) b.1.1.0,
          tt,
        ),
      ),
    )

pub same_refl : (p : Pair) → same_pair p p ≡ true
unfolding same_pair
same_refl p =
    true-every (sameness p p) (
      eq-eqb p.family p.family refl,
      (
        eq-eqb p.local_port p.local_port refl,
        (
          eq-eqb p.remote_port p.remote_port refl,
          (agree_refl (8 * width p.family) p.local, (agree_refl (8 * width p.family) p.remote, tt)),
        ),
      ),
    )

pub same-sym : (p q : Pair) → same_pair p q ≡ true → same_pair q p ≡ true
unfolding same_pair
same-sym p q e =
    let a = every_true (sameness p q) e in
    let k : p.family ≡ q.family = eqb-true _ _ a.0 in
    true-every (sameness q p) (
      eq-eqb q.family p.family (sym k),
      (
        eq-eqb q.local_port p.local_port (sym (eqb-true _ _ a.1.0)),
        (
          eq-eqb q.remote_port p.remote_port (sym (eqb-true _ _ a.1.1.0)),
          (
            rw k at (agree-sym (8 * width p.family) p.local q.local a.1.1.1.0),
            (
              rw k at (agree-sym (8 * width p.family) p.remote q.remote a.1.1.1.1.0),
              tt,
            ),
          ),
        ),
      ),
    )

pub matches-same : (s : Selector) (p q : Pair) → same_pair p q ≡ true → matches s p ≡ matches s q
matches-same s p q e = go (matches s p) (matches s q) (matches-by s p q e) (matches-by s q p (same-sym p q e))
  where
    go : (a b : Bool) → (a ≡ true → b ≡ true) → (b ≡ true → a ≡ true) → a ≡ b
    go true b f g = sym (f refl)
    go false true f g = g refl
    go false false f g = refl
