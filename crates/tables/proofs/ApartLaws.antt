-- Tables that are apart by the loader's tests are those that are so by socket pairs. A prepared table's entries are each held by valid
-- bytes, so the pair that two of them would both match is one. Assumes nothing but that the prepared table's bytes are below 256.
use Rattle.std.specs.Prelude.{ℕ, Bool, true, false, ◌≡◌, refl, List}
use Rattle.std.proofs.Common.{subst, arith}
use Rattle.octets.specs.Each.{Each, Octets}
use Rattle.keys.specs.Clash.{NoConflict}
use Rattle.keys.proofs.EntryLaws.{entries-fields}
use Rattle.keys.specs.Match.{overlap, clash}
use Rattle.keys.proofs.MatchLaws.{Fields, witness, witness-is, overlap-matches, overlap-found, clash-conflict, conflict-clash}
use Rattle.keys.specs.Places.{At}
use Rattle.keys.specs.declared.entry.Entry.{Entry}
use Rattle.keys.specs.declared.table.TableKind.{TableKind}
use Rattle.prepared.specs.Form.{HeldBy}
use Rattle.prepared.specs.HoldLaws.{keys-held, md5s-held}
use Rattle.tables.specs.Tables.{Tables, prepared_tables}
use Rattle.tables.specs.Valid.{NoClash, NoneCrossed, ApartByPairs, ApartPairs}

abbrev FieldsOf : Entry → Type 0
FieldsOf e = Fields e.selector

held-fields : (kind : TableKind) (e : Entry) → HeldBy kind e → FieldsOf e
held-fields kind e h = (subst (Each FieldsOf) h.2 (entries-fields h.0 h.3)).0

-- a list without conflicts, of entries whose fields are known, has no clash

abbrev AllFields : List Entry → Type 0
AllFields l = (i : ℕ) (e : Entry) → At l i e → FieldsOf e

no-clash : (l : List Entry) → AllFields l → NoConflict l → NoClash l
no-clash l g n i j e f p q h = go (clash e f) refl
  where
    go : (b : Bool) → clash e f ≡ b → clash e f ≡ false
    go true c = absurd (n i j e f p q h (clash-conflict e f (g i e p) (g j f q) c))
    go false c = c

none-overlap : (t : Tables) → AllFields t.keys → AllFields t.md5s → NoneCrossed t → (i j : ℕ) (e f : Entry)
    → At t.keys i e → At t.md5s j f → overlap e.selector f.selector ≡ false
none-overlap t g h n i j e f p q = go (overlap e.selector f.selector) refl
  where
    go : (b : Bool) → overlap e.selector f.selector ≡ b → overlap e.selector f.selector ≡ false
    go true c =
        let m = overlap-matches e.selector f.selector c in
        let w = witness-is e.selector f.selector (g i e p) (h j f q) in
        absurd (n i j e f (witness e.selector f.selector) p q w m.0 m.1)
    go false c = c

key-fields : (b m : List ℕ) → Octets b → AllFields (prepared_tables b m).keys
unfolding prepared_tables
key-fields b m o i e p = held-fields _ e (keys-held b i e o p)

md5-fields : (b m : List ℕ) → Octets b → AllFields (prepared_tables b m).md5s
unfolding prepared_tables
md5-fields b m o i e p = held-fields _ e (md5s-held b i e o p)

pub apart-by-pairs : ApartByPairs
apart-by-pairs b m o k l n =
    let t = prepared_tables b m in
    let g = key-fields b m o in
    let h = md5-fields b m o in
    record { keys = no-clash t.keys g k; md5s = no-clash t.md5s h l; uncrossed = none-overlap t g h n }

-- the other way: a pair that two entries match is a reason for the test to hold

no-conflict : (l : List Entry) → NoClash l → NoConflict l
no-conflict l n i j e f p q h c = let z : ◌≡◌ {A = ℕ} 0 1 = cc (conflict-clash e f c, n i j e f p q h) in omega arith

pub apart-pairs : ApartPairs
apart-pairs t a = (no-conflict t.keys a.keys, no-conflict t.md5s a.md5s, none)
  where
    none : NoneCrossed t
    none i j e f p x y w r s =
        let z : ◌≡◌ {A = ℕ} 0 1 = cc (overlap-found e.selector f.selector p r s, a.uncrossed i j e f x y) in omega arith
