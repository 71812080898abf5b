-- The opening record: the fields that were read, and the first number that applies.
use Rattle.std.proofs.Common.{◌≡◌, ℕ, Bool, true, false, not, List, get_or, refl, sym, ap, ◌∙◌}
use Rattle.keys.specs.declared.entry.Pair.{Pair}
use Rattle.keys.specs.declared.table.TableKind.TheVariants.{Keys}
use Rattle.keys.specs.Table.{Loaded}
use Rattle.keys.specs.Table.{fault}
use Rattle.keys.specs.Table.{Found, found_of, nobody}
use Rattle.keys.specs.declared.table.Hit.{Hit}
use Rattle.keys.specs.Entry.{is_family_of}
use Rattle.keys.specs.Table.{loaded}
use Rattle.std.specs.Prelude.{Ok, Option, Some, None, is_some}
use Rattle.tables.specs.Tables.{no_index, key_index, after_table, send_entry, recv_entry}
use Rattle.rules.specs.declared.Outcome.TheVariants.{Good, Bad}
use Rattle.rules.specs.Calls.{is_refused}
use Rattle.recording.specs.Recording.{open_pair_of, open_outcome_of, send_id_of, ask_id_of, desk_entries, desk_tables, desk_answer}

-- a search that finds nothing
pub none-there : (r : Option Hit) (x : Bool) → is_some r ≡ not x → not (found_of r).there ≡ x
unfolding nobody
none-there (Some h) true e = let z : true ≡ false = e in cc
none-there (Some h) false e = refl
none-there None true e = refl
none-there None false e = let z : false ≡ true = e in cc

-- 18, the table's number, 35, 35

abbrev pub refuses : Loaded → Bool
refuses l = is_refused (after_table key_index l Ok)

module _ (t b : List ℕ) (p : Pair) (pe : p ≡ open_pair_of b) where
  family-is : (f : Bool) → f ≡ is_family_of p.family → is_family_of (open_pair_of b).family ≡ f
  family-is f e = sym (e ∙ ap (λ (x : Pair). is_family_of x.family) pe)

  pub gives-18 : (f : Bool) → f ≡ is_family_of p.family → not f ≡ true → Bad 18 no_index ≡ open_outcome_of t b
  unfolding open_outcome_of
  gives-18 f e h = rw (family-is f e, h)

  module _ (f : Bool) (fe : f ≡ is_family_of p.family) (h : not f ≡ false) where
    pub gives-refusal : (l : Loaded) (n i : ℕ) → l ≡ loaded Keys desk_entries t → l ≡ fault n i → Bad n (key_index i) ≡ open_outcome_of t b
    unfolding open_outcome_of
    gives-refusal l n i le q = rw (family-is f fe, h, sym le, q)

    module _ (l : Loaded) (le : l ≡ loaded Keys desk_entries t) (v : refuses l ≡ false) (s : Found) (se : s ≡ send_entry (desk_tables t) p (get_or b 2 0)) where
      sends : (send_entry (desk_tables t) (open_pair_of b) (send_id_of b)).there ≡ s.there
      sends = sym (ap (λ (x : Found). x.there) (se ∙ ap (λ (x : Pair). send_entry (desk_tables t) x (send_id_of b)) pe))

      valid : is_refused (desk_answer t) ≡ false
      valid = ap refuses (sym le) ∙ v

      pub gives-35-send : not s.there ≡ true → Bad 35 no_index ≡ open_outcome_of t b
      unfolding open_outcome_of
      gives-35-send k = rw (family-is f fe, h, valid, sends, k)

      module _ (k : not s.there ≡ false) (r : Found) (re : r ≡ recv_entry (desk_tables t) p (get_or b 3 0)) where
        recvs : (recv_entry (desk_tables t) (open_pair_of b) (ask_id_of b)).there ≡ r.there
        recvs = sym (ap (λ (x : Found). x.there) (re ∙ ap (λ (x : Pair). recv_entry (desk_tables t) x (ask_id_of b)) pe))

        pub gives-35-recv : not r.there ≡ true → Bad 35 no_index ≡ open_outcome_of t b
        unfolding open_outcome_of
        gives-35-recv m = rw (family-is f fe, h, valid, sends, k, recvs, m)

        pub gives-good : not r.there ≡ false → Good 0 0 ≡ open_outcome_of t b
        unfolding open_outcome_of
        gives-good m = rw (family-is f fe, h, valid, sends, k, recvs, m)
