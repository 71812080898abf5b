-- The steps of checking the tables and of preparing: what one has answered, and what follows.
use Rattle.std.specs.Prelude.{ℕ, ◌+◌, ◌≤◌, ◌<◌, ◌≡◌, refl, Bool, List, [], ◌∷◌, ◌++◌, length, drop, is_some, Option, Some, None, Ok, Err}
use Rattle.std.proofs.Common.{sym, ap, ◌∙◌, arith}
use Rattle.std.proofs.Math.Seq.{paste, take-length}
use borrow.Author.Tests.{le-leb, lt-leb}
use native.Mathlib.Nat.{zero-add}
use Rattle.keys.proofs.FoundLaws.{any_found}
use Rattle.keys.specs.Entry.{items, entries_of, entries}
use Rattle.keys.specs.Table.{loaded_from, loaded, nobody, Found, found, found_of, any_of}
use Rattle.keys.specs.declared.entry.Entry.{Entry}
use Rattle.keys.specs.declared.table.Hit.{Hit}
use Rattle.prepared.specs.Prepared.{prepared_bytes}
use Rattle.prepared.specs.ImageLaws.{image-length}
use Rattle.tables.specs.Tables.{refused_with, no_index, max_entries, besides, admitted}
use Rattle.tables.specs.Preparing.{prepared_of, prepared_length, prepare_answer, prepare_output}
use Rattle.tables.proofs.ValidLaws.{valid-count}
use Rattle.tables.specs.declared.Refusal.{Refusal}

-- an MD5 table of no bytes refuses nothing
pub besides_empty : (k m : List ℕ) (n : ℕ) → length m ≡ 0 → Ok n ≡ besides k m n
unfolding besides loaded loaded_from items entries_of found nobody
besides_empty k [] n h = refl
besides_empty k (x ∷ m) n h = absurd (omega arith)

-- a search finds an entry where one answers
pub any_is : (test : Entry → Bool) (l : List Entry) (h : Option Hit) → found_of h ≡ found test 0 l → is_some h ≡ any_of test l
unfolding nobody
any_is test l (Some h) e = ap (λ (x : Found). x.there) e ∙ sym (any_found test l 0)
any_is test l None e = ap (λ (x : Found). x.there) e ∙ sym (any_found test l 0)

-- what preparing answers and writes

module _ (k m out : List ℕ) where
  pub prepare-refused : (r : Refusal) → admitted k m ≡ Err r
      → (Err r ≡ prepare_answer k m (length out)) × (out ≡ prepare_output k m out)
  unfolding prepare_answer prepare_output
  prepare-refused r e = (rw e, rw e)

  -- n key entries and j MD5 entries
  module _ (n j : ℕ) (e : admitted k m ≡ Ok n) (c : j ≡ length (entries m)) where
    pub prepare-counts : (n ≡ length (entries k)) × (j ≡ length (entries m)) × (n ≤ max_entries) × (j ≤ max_entries)
    prepare-counts = let v = valid-count 0 k m n e in (v.0, c, v.1, omega (arith, c, v.2))

    size_is : prepared_bytes (n + j) ≡ prepared_length k m
    size_is = let v = prepare-counts.0 in ap prepared_bytes (λ i. v i + c i)

    pub prepare-short : length out < prepared_bytes (n + j)
        → (refused_with 37 no_index ≡ prepare_answer k m (length out)) × (out ≡ prepare_output k m out)
    unfolding prepare_answer prepare_output
    prepare-short h =
        let z = size_is in
        let l = lt-leb (prepared_length k m) (length out) (omega (arith, h, z)) in
        (rw (e, l), rw (e, l))

    pub prepare-done : (o : List ℕ) → prepared_bytes (n + j) ≤ length out → o ≡ paste out 0 (prepared_of k m) (prepared_bytes (n + j))
        → (Ok (prepared_bytes (n + j)) ≡ prepare_answer k m (length out)) × (o ≡ prepare_output k m out)
    unfolding prepare_answer prepare_output
    prepare-done o h q =
        let z = size_is in
        let l = le-leb (prepared_length k m) (length out) (omega (arith, h, z)) in
        let s = prepared_of k m in
        let p : paste out 0 s (length s) ≡ s ++ drop (length s) out
        = ap (λ (a : List ℕ). a ++ drop (0 + length s) out) (take-length s) ∙ ap (λ (a : ℕ). s ++ drop a out) (zero-add (length s)) in
        (rw (e, l) (ap Ok z), rw (e, l) (q ∙ ap (λ (a : ℕ). paste out 0 s a) (z ∙ sym (image-length k m)) ∙ p))
