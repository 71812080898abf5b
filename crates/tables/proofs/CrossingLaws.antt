-- What tables are refused with; 45 exactly. Assumes nothing but, where it says `Octets`, that the bytes are below 256.
use Rattle.std.specs.Prelude.{ℕ, ◌+◌, Bool, true, false, ◌≡◌, refl, List}
use Rattle.std.proofs.Common.{sym, ap, ◌∙◌, subst, arith}
use Rattle.octets.specs.Each.{Octets}
use Rattle.keys.specs.Entry.{entries}
use Rattle.keys.proofs.EntryLaws.{entries-fields}
use Rattle.keys.proofs.FoundLaws.{found_first, found_before, found-there, any-there, any-of}
use Rattle.keys.proofs.LoadLaws.{refused-low}
use Rattle.keys.proofs.MatchLaws.{Fields, witness, witness-is, overlap-matches, overlap-found}
use Rattle.keys.proofs.PlaceLaws.{each_at}
use Rattle.keys.specs.Table.{loaded, hit, meets, meets_any_of}
use Rattle.keys.specs.declared.entry.Entry.{Entry}
use Rattle.keys.specs.declared.table.TableKind.TheVariants.{Keys, Md5}
use Rattle.keys.specs.Table.{Loaded}
use Rattle.keys.specs.Table.{Found}
use Rattle.std.specs.Prelude.{Ok, Err}
use Rattle.tables.specs.Tables.{max_entries, md5_index, crossing, besides, admitted}
use Rattle.tables.specs.Crossing.{Crossed, Alone, CrossedAt, RefusedCrossed, CrossedRefused, KeysRefused, Md5Refused, BothTaken}
use Rattle.tables.specs.declared.Index.{Index}
use Rattle.tables.specs.Tables.{Admitted, refused_with}

-- the test by which 45 is given holds of an MD5 entry exactly if it is crossed

abbrev FieldsOf : Entry → Type 0
FieldsOf e = Fields e.selector

meets-crossed : (k : List ℕ) (e : Entry) → Octets k → FieldsOf e → meets_any_of (entries k) e ≡ true → Crossed k e
unfolding meets_any_of
meets-crossed k e o f h =
    let r = any-there (meets e.selector) (entries k) h in
    let m = overlap-matches r.1.selector e.selector r.3 in
    record {
      place = r.0;
      other = r.1;
      at_place = r.2;
      pair = witness r.1.selector e.selector;
      is-pair = witness-is r.1.selector e.selector (each_at FieldsOf (entries-fields k o) r.2) f;
      first = m.0;
      second = m.1;
    }

crossed-meets : (k : List ℕ) (e : Entry) → Crossed k e → meets_any_of (entries k) e ≡ true
unfolding meets_any_of
crossed-meets k e c =
    any-of (meets e.selector) c.at_place
    (overlap-found c.other.selector e.selector c.pair c.first c.second)

-- where 45 comes from

record Refusal (k m : List ℕ) (x : Index) : Type 0 where
  keys : Alone Keys k
  md5s : Alone Md5 m
  there : (crossing (entries k) (entries m)).there ≡ true
  index : md5_index (crossing (entries k) (entries m)).index ≡ x

abbrev number_in : Admitted → ℕ
number_in (Ok n) = 0
number_in (Err r) = r.number

abbrev index_in : Admitted → Index
index_in (Ok n) = md5_index 0
index_in (Err r) = r.index

refusal-of : (k m : List ℕ) (x : Index) → admitted k m ≡ refused_with 45 x → Refusal k m x
unfolding admitted besides
refusal-of k m x e = go (loaded Keys max_entries k) (loaded Md5 max_entries m) (crossing (entries k) (entries m)).there refl refl refl
  where
    go : (a b : Loaded) (c : Bool) → loaded Keys max_entries k ≡ a → loaded Md5 max_entries m ≡ b
        → (crossing (entries k) (entries m)).there ≡ c → Refusal k m x
    go (Err f) b c p q r =
        let l = refused-low Keys max_entries f.number f.index k p in
        let z : f.number ≡ 45 = ap number_in (rw p at e) in
        absurd (omega arith)
    go (Ok i) (Err f) c p q r =
        let l = refused-low Md5 max_entries f.number f.index m q in
        let z : f.number ≡ 45 = ap number_in (rw (p, q) at e) in
        absurd (omega arith)
    go (Ok i) (Ok j) false p q r = let z : ◌≡◌ {A = ℕ} 0 1 = cc (rw (p, q, r) at e) in absurd (omega arith)
    go (Ok i) (Ok j) true p q r =
        let f : refused_with 45 (md5_index (crossing (entries k) (entries m)).index) ≡ refused_with 45 x = rw (p, q, r) at e in
        record { keys = (i, p); md5s = (j, q); there = r; index = ap index_in f }

pub refused-crossed : RefusedCrossed
refused-crossed k m x ok om e =
    let f = refusal-of k m x e in
    let r = found-there (meets_any_of (entries k)) (entries m) 0 f.there in
    let w : 0 + r.0 ≡ r.0 = omega arith in
    let z : x.entry ≡ r.0 = sym (ap (λ (y : Index). y.entry) f.index) ∙ ap (λ (y : Found). y.index) r.4 ∙ w in (
      sym (ap (λ (y : Index). y.table) f.index),
      subst (CrossedAt k m) (sym z)
          (record {
            keys = f.keys;
            md5s = f.md5s;
            entry = r.1;
            at_entry = r.2;
            crossed = meets-crossed k r.1 ok (each_at FieldsOf (entries-fields m om) r.2) r.3;
            before =
                λ j g a h c. (
                let n = found_before (meets_any_of (entries k)) 0 r.0 r.1 a r.4 h in
                let y : ◌≡◌ {A = ℕ} 0 1 = cc (n, crossed-meets k g c) in
                omega arith);
          }),
    )

pub crossed-refused : CrossedRefused
unfolding admitted besides
crossed-refused k m i ok om c =
    rw (c.keys.1, c.md5s.1, first)
    (ap (λ (n : ℕ). refused_with 45 (md5_index n)) (let z : 0 + i ≡ i = omega arith in z))
  where
    clear : (f : Entry) → FieldsOf f → (Crossed k f → ⊥) → (b : Bool) → meets_any_of (entries k) f ≡ b → meets_any_of (entries k) f ≡ false
    clear f g n true q = absurd (n (meets-crossed k f ok g q))
    clear f g n false q = q

    first : crossing (entries k) (entries m) ≡ hit (0 + i) c.entry
    first =
        found_first (meets_any_of (entries k)) 0 c.at_entry (crossed-meets k c.entry c.crossed)
        (λ j f a h. clear f (each_at FieldsOf (entries-fields m om) a) (c.before j f a h) (meets_any_of (entries k) f) refl)

-- the order

pub keys-refused : KeysRefused
unfolding admitted
keys-refused k m n i e = rw e

pub md5-refused : Md5Refused
unfolding admitted besides
md5-refused k m c n i e f = rw (e, f)

pub both-taken : BothTaken
unfolding admitted besides
both-taken k m c d ok om e f n = go (crossing (entries k) (entries m)).there refl
  where
    go : (b : Bool) → (crossing (entries k) (entries m)).there ≡ b → admitted k m ≡ Ok c
    go true q =
        let r = found-there (meets_any_of (entries k)) (entries m) 0 q in
        absurd (n r.0 r.1 r.2 (meets-crossed k r.1 ok (each_at FieldsOf (entries-fields m om) r.2) r.3))
    go false q = rw (e, f, q)
