-- Prepared tables: what they mean is what the bytes mean that they were prepared from; 44 exactly.
use Rattle.std.specs.Prelude.{ℕ, ◌+◌, ◌*◌, Bool, true, false, ◌&&◌, ◌≡◌, refl, List, [], ◌++◌, length, take, drop, leb, eqb}
use Rattle.std.proofs.Common.{sym, ap, ◌∙◌, inl, inr, arith, length-append, length-drop, take_at, drop_at, ne_eqb, le-leb, leb-true, leb-false}
use Rattle.std.proofs.lemmas.Bool.{eqb-false, lt-leb}
use Rattle.keys.specs.Entry.{entries}
use Rattle.keys.proofs.LoadLaws.{refused-low}
use Rattle.keys.specs.Table.{loaded}
use Rattle.keys.specs.declared.table.TableKind.TheVariants.{Keys, Md5}
use Rattle.keys.specs.Table.{Loaded}
use Rattle.std.specs.Prelude.{Ok, Err}
use Rattle.prepared.specs.Prepared.{key_count_of, md5_count, fits}
use Rattle.prepared.specs.ImageLaws.{prepared-read, image-length}
use Rattle.tables.specs.Tables.{Tables, no_index, max_entries, crossing, besides, admitted, prepared_answer, prepared_tables, tables_of}
use Rattle.tables.specs.Preparing.{prepared_of, prepared_length, prepare_answer, prepare_output}
use Rattle.tables.proofs.ValidLaws.{admitted-taken, valid-count, other-form}
use Rattle.tables.specs.Same.{PreparedSame, WrittenSame, size_of, PrepareWrites, PrepareRefuses, PrepareShort, PrepareDone, Unfit}
use Rattle.tables.specs.Same.{BytesAnswer, OtherForms, RefusedUnfit, UnfitRefused, BytesNot44}
use Rattle.tables.specs.Tables.{Admitted}
use Rattle.tables.specs.Tables.{refused_with}

pub prepared-same : PreparedSame
unfolding prepared_tables prepared_answer
prepared-same form k m n z ok om e =
    let t = admitted-taken k m n e in
    let r = prepared-read k m n t.md5s.0 ok om t.keys t.md5s.1 in
    let c = (valid-count 0 k m n e).0 in
    let a : prepared_answer (prepared_of k m) [] ≡ admitted k m = rw r.fitting (ap Ok (r.count ∙ sym c) ∙ sym e) in
    rw (ne_eqb form 0 z) (λ i. record { answer = a i; keys = r.keys i; md5s = r.md5s i })

-- what is written is there, at the output's front
pub written_same : WrittenSame
unfolding prepare_answer prepare_output
written_same form k m out size z ok om e = go (admitted k m) (leb (prepared_length k m) (length out)) refl refl
  where
    go : (o : Admitted) (b : Bool) → admitted k m ≡ o → leb (prepared_length k m) (length out) ≡ b
        → tables_of form (take size (prepare_output k m out)) [] ≡ tables_of 0 k m
    go (Err r) b p q = let y : ◌≡◌ {A = ℕ} 0 1 = cc (rw p at e) in absurd (omega arith)
    go (Ok n) false p q = let y : ◌≡◌ {A = ℕ} 0 1 = cc (rw (p, q) at e) in absurd (omega arith)
    go (Ok n) true p q =
        let f : Ok (prepared_length k m) ≡ Ok size = rw (p, q) at e in
        let y : prepared_length k m ≡ size = cc in
        let l = image-length k m in
        let w : prepare_output k m out ≡ prepared_of k m ++ drop (length (prepared_of k m)) out = rw (p, q) in
        ap (λ (s : List ℕ). tables_of form s [])
        (ap (take size) w ∙ take_at (prepared_of k m) (drop (length (prepared_of k m)) out) size (l ∙ y))
        ∙ prepared-same form k m n z ok om p

-- what preparing answers and writes

pub prepare-refuses : PrepareRefuses
unfolding prepare_answer
prepare-refuses k m room n i e = rw e

pub prepare-short : PrepareShort
unfolding prepare_answer
prepare-short k m room n e h = rw (e, lt-leb (prepared_length k m) room h)

pub prepare-done : PrepareDone
unfolding prepare_answer
prepare-done k m room n e h = rw (e, le-leb (prepared_length k m) room h)

pub prepare-writes : PrepareWrites
unfolding prepare_answer prepare_output
prepare-writes k m out n e = go (admitted k m) (leb (prepared_length k m) (length out)) refl refl
  where
    s : List ℕ
    s = prepared_of k m

    go : (o : Admitted) (b : Bool) → admitted k m ≡ o → leb (prepared_length k m) (length out) ≡ b
        → (n ≡ size_of k m) × (take n (prepare_output k m out) ≡ prepared_of k m) × (drop n (prepare_output k m out) ≡ drop n out)
        × (length (prepare_output k m out) ≡ length out)
    go (Err r) b p q = let y : ◌≡◌ {A = ℕ} 0 1 = cc (rw p at e) in absurd (omega arith)
    go (Ok j) false p q = let y : ◌≡◌ {A = ℕ} 0 1 = cc (rw (p, q) at e) in absurd (omega arith)
    go (Ok j) true p q =
        let f : Ok (prepared_length k m) ≡ Ok n = rw (p, q) at e in
        let y : prepared_length k m ≡ n = cc in
        let l = image-length k m in
        let w : prepare_output k m out ≡ s ++ drop (length s) out = rw (p, q) in
        let z : length s ≡ n = l ∙ y in
        let r = leb-true (prepared_length k m) (length out) q in
        let d = length-drop (length s) out in (
          sym y,
          ap (take n) w ∙ take_at s (drop (length s) out) n z,
          ap (drop n) w ∙ drop_at s (drop (length s) out) n z ∙ ap (λ (i : ℕ). drop i out) z,
          ap length w ∙ length-append s (drop (length s) out) ∙ (omega (arith, d, z, y, r)),
        )

-- the forms

pub bytes-answer : BytesAnswer
bytes-answer k m = (refl, refl, refl)

pub other-forms : OtherForms
other-forms form other b m z w = other-form form b m z ∙ sym (other-form other b m w)

-- 44

refused-of : (b m : List ℕ) → (prepared_tables b m).answer ≡ refused_with 44 no_index → Unfit b m
unfolding prepared_tables prepared_answer fits
refused-of b m e = go (leb (key_count_of b) max_entries) (leb (md5_count b) max_entries) (eqb (length b) (4 + 129 * (key_count_of b + md5_count b))) (eqb (length m) 0) refl refl refl refl
  where
    go : (x y z w : Bool) → leb (key_count_of b) max_entries ≡ x → leb (md5_count b) max_entries ≡ y
        → eqb (length b) (4 + 129 * (key_count_of b + md5_count b)) ≡ z → eqb (length m) 0 ≡ w → Unfit b m
    go false y z w p q r s = inl (leb-false (key_count_of b) max_entries p)
    go true false z w p q r s = inr (inl (leb-false (md5_count b) max_entries q))
    go true true false w p q r s = inr (inr (inl (eqb-false _ _ r)))
    go true true true false p q r s = let n = eqb-false (length m) 0 s in inr (inr (inr (omega arith)))
    go true true true true p q r s = let y : ◌≡◌ {A = ℕ} 0 1 = cc (rw (p, q, r, s) at e) in absurd (omega arith)

and-false : (b : Bool) → (b && false) ≡ false
and-false true = refl
and-false false = refl

pub refused-unfit : RefusedUnfit
refused-unfit form b m z e = refused-of b m (sym (ap (λ (t : Tables). t.answer) (other-form form b m z)) ∙ e)

unfit-of : (b m : List ℕ) → Unfit b m → (prepared_tables b m).answer ≡ refused_with 44 no_index
unfolding prepared_tables prepared_answer fits
unfit-of b m (inl h) = rw (lt-leb _ _ h)
unfit-of b m (inr (inl h)) = rw (lt-leb _ _ h, and-false (leb (key_count_of b) max_entries))
unfit-of b m (inr (inr (inl h))) =
    rw (ne_eqb _ _ h, and-false (leb (md5_count b) max_entries), and-false (leb (key_count_of b) max_entries))
unfit-of b m (inr (inr (inr h))) = rw (ne_eqb (length m) 0 (λ e. omega arith), and-false (fits b))

pub unfit-refused : UnfitRefused
unfit-refused form b m z u = ap (λ (t : Tables). t.answer) (other-form form b m z) ∙ unfit-of b m u

abbrev number_in : Admitted → ℕ
number_in (Ok n) = 0
number_in (Err r) = r.number

pub bytes-not-44 : BytesNot44
unfolding admitted besides
bytes-not-44 k m x e = go (loaded Keys max_entries k) (loaded Md5 max_entries m) (crossing (entries k) (entries m)).there refl refl refl
  where
    go : (a b : Loaded) (c : Bool) → loaded Keys max_entries k ≡ a → loaded Md5 max_entries m ≡ b
        → (crossing (entries k) (entries m)).there ≡ c → ⊥
    go (Err f) (Ok j) c p q r =
        let l = refused-low Keys max_entries f.number f.index k p in
        let z : f.number ≡ 44 = ap number_in (rw p at e) in
        omega arith
    go (Err f) (Err f2) c p q r =
        let l = refused-low Keys max_entries f.number f.index k p in
        let z : f.number ≡ 44 = ap number_in (rw p at e) in
        omega arith
    go (Ok i) (Err f) c p q r =
        let l = refused-low Md5 max_entries f.number f.index m q in
        let z : f.number ≡ 44 = ap number_in (rw (p, q) at e) in
        omega arith
    go (Ok i) (Ok j) false p q r = let z : ◌≡◌ {A = ℕ} 0 1 = cc in omega arith
    go (Ok i) (Ok j) true p q r = let z : ◌≡◌ {A = ℕ} 45 44 = ap number_in (rw (p, q, r) at e) in omega arith
