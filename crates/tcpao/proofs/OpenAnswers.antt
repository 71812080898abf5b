-- What an active opening and asking answer: document 01, "A connection's life" and numbers 19 and 35.
use Prim.Native.Nat.{ℕ, ◌≤◌}
use mathlib.Core.Path.{◌≡◌, refl, sym, ap, ◌∙◌, subst}
use mathlib.Core.Bool.{Bool, true, false, not, ◌&&◌}
use mathlib.Core.List.{List, [], ◌∷◌, ◌++◌}
use native.Mathlib.Omega.{arith}
use lib.ListN.{length}
use lib.Dec.{eqb}
use borrow.Author.Tests.{eqb-true, not-false}
use Rattle.std.specs.Prelude.{Result, Ok, Err}
use Rattle.std.specs.Result.{result_and, MatchResult, IsErr, IsErrAnd}
use Rattle.keys.specs.declared.entry.Pair.{Pair}
use Rattle.keys.specs.declared.entry.Entry.{Entry}
use Rattle.keys.specs.Table.{Found}
use Rattle.keys.proofs.MatchLaws.{and-true}
use Rattle.tables.specs.Tables.{Tables, send_entry, md5_entry}
use Rattle.tables.specs.declared.Refusal.{Refusal}
use Rattle.rules.specs.declared.Outcome.{Outcome}
use Rattle.rules.specs.declared.Outcome.TheVariants.{Good, Passed, Bad}
use Rattle.rules.specs.declared.State.{State}
use Rattle.rules.specs.Results.{settled_as}
use Rattle.octets.specs.Tests.{Test, test, first, checked}
use Rattle.octets.specs.TestLaws.{each_gives, checked-append, checked-none, checked-passed, checked-given, checked-gives}
use Rattle.rules.proofs.JudgeLaws.{is_bad, refusal-bad}
use Rattle.rules.specs.Connection.{sized, pair_of_lem, opening, empty, with_asked_of}
use Rattle.rules.specs.Calls.{refuse, unrefused, address_tests, table_tests, ask_tests, settled_by_lem, opened_actively}
use Rattle.rules.specs.Calls.{open_tests, opened_actively_md5, asked}
use Rattle.checks.specs.GroupLaws.{and-err, and-ok}
use Rattle.tcpao.specs.Refusals.{refusal_of}

-- addresses that 19 lets by have at most 16 bytes
pub small : (a b : List ℕ) → checked (address_tests a b) ≡ Ok tt → (length a ≤ 16) × (length b ≤ 16)
small a b e = go (eqb (length a) 4 && eqb (length b) 4) refl (not-false (sized a b) (checked-none (address_tests a b) e).0)
  where
    go : (p : Bool) → (eqb (length a) 4 && eqb (length b) 4) ≡ p → sized a b ≡ true → (length a ≤ 16) × (length b ≤ 16)
    go true q h = let k = and-true _ _ q in (omega (arith, eqb-true (length a) 4 k.0), omega (arith, eqb-true (length b) 4 k.1))
    go false q h = let k = and-true (eqb (length a) 16) (eqb (length b) 16) (rw q at h) in (omega (arith, eqb-true (length a) 16 k.0), omega (arith, eqb-true (length b) 16 k.1))

-- a number that was given leaves the state
refused-as : (old new : State) (o : Outcome) → is_bad o ≡ true → settled_as old (Err (refusal_of o)) ≡ settled_by_lem o old new
refused-as old new (Good x r) e = let z : ◌≡◌ {A = ℕ} 0 1 = cc in absurd (omega arith)
refused-as old new Passed e = let z : ◌≡◌ {A = ℕ} 0 1 = cc in absurd (omega arith)
refused-as old new (Bad n i) e = refl

-- and where none was, the new state is given
module _ (l : List (Test Outcome)) (bad : each_gives is_bad l ≡ true) (old new : State) where
  pub settles-err : {o : Outcome} → checked l ≡ Err o → settled_as old (Err (refusal_of o)) ≡ settled_by_lem (first l unrefused) old new
  settles-err {o} e =
      refused-as old new o (checked-gives is_bad l bad e) ∙ ap (λ (o : Outcome). settled_by_lem o old new) (sym (checked-given l unrefused e))

  pub settles-ok : checked l ≡ Ok tt → settled_as old (Ok new) ≡ settled_by_lem (first l unrefused) old new
  settles-ok e = ap (λ (o : Outcome). settled_by_lem o old new) (sym (checked-passed l unrefused e))

-- what `map_err` and `?` hand on of an error
abbrev pub Mapped : {A : Type 0} → Result A Outcome → Result A Refusal → Type 0
Mapped s r = MatchResult s (λ x. r ≡ Ok x) (λ e. IsErrAnd r (λ y. y ≡ refusal_of e))

pub mapped-err : {A : Type 0} (s : Result A Outcome) (r : Result A Refusal) (x : Refusal) → Mapped s r → r ≡ Err x
    → (o : Outcome) × (s ≡ Err o) × (x ≡ refusal_of o)
mapped-err (Ok a) r x m e = let q : Ok a ≡ Err x = sym m ∙ e in let z : ◌≡◌ {A = ℕ} 0 1 = cc in absurd (omega arith)
mapped-err (Err o) (Ok a) x m e = absurd m
mapped-err (Err o) (Err y) x m e = let q : x ≡ y = cc in (o, refl, q ∙ m)

pub mapped-ok : {A : Type 0} (s : Result A Outcome) (r : Result A Refusal) (x : A) → Mapped s r → r ≡ Ok x → s ≡ Ok x
mapped-ok (Ok a) r x m e = let z : Ok a ≡ Ok x = sym m ∙ e in let q : a ≡ x = cc in ap Ok q
mapped-ok (Err o) (Ok a) x m e = absurd m
mapped-ok (Err o) (Err y) x m e = cc

pub err-is : {A E : Type 0} (r : Result A E) (x : E) → IsErr r × IsErrAnd r (λ e. e ≡ x) → r ≡ Err x
err-is (Ok a) x h = absurd h.1
err-is (Err e) x h = ap Err h.1

-- an active opening, under the entry that was found; what it gives where a test applies, and where none does
module _ (t : Tables) (local remote : List ℕ) (f : Found) (new : State) where
  abbrev lines : List (Test Outcome)
  lines = open_tests t local remote f

  abbrev keyed : List (Test Outcome)
  keyed = table_tests t ++ (test (refuse 35) (not f.there) ∷ [])

  bad : each_gives is_bad lines ≡ true
  bad = rw (refusal-bad t.answer)

  abbrev Opens : Result State Refusal → Type 0
  Opens r = settled_as empty r ≡ settled_by_lem (first lines unrefused) empty new

  pub at-sizes : {o : Outcome} → checked (address_tests local remote) ≡ Err o → Opens (Err (refusal_of o))
  at-sizes {o} n =
      settles-err lines bad empty new
      (checked-append (address_tests local remote) keyed ∙ ap (λ (r : Result Unit Outcome). result_and r (checked keyed)) n)

  module _ (sizes : checked (address_tests local remote) ≡ Ok tt) where
    behind : checked lines ≡ checked keyed
    behind = checked-append (address_tests local remote) keyed ∙ ap (λ (r : Result Unit Outcome). result_and r (checked keyed)) sizes

    pub at-key : {o : Outcome} → result_and (checked keyed) (Ok f.entry) ≡ Err o → Opens (Err (refusal_of o))
    at-key {o} n = settles-err lines bad empty new (behind ∙ and-err (checked keyed) f.entry n)

    pub opens : {e : Entry} → result_and (checked keyed) (Ok f.entry) ≡ Ok e → Opens (Ok new)
    opens n = settles-ok lines bad empty new (behind ∙ (and-ok (checked keyed) f.entry n).0)

-- the pair is that of the addresses, and the entry is searched for it
module _ (t : Tables) (local remote : List ℕ) (lp rp : ℕ) (find : Pair → Found) (make : Pair → Entry → State) where
  abbrev pair : Pair
  pair = pair_of_lem local remote lp rp

  abbrev pub Opened : Result State Refusal → Type 0
  Opened r = Opens t local remote (find pair) (make pair (find pair).entry) r

  -- 19
  pub sizes-err : {s : Result Unit Outcome} {m : Result Unit Refusal} {x : Refusal} (r : Result State Refusal) → s ≡ checked (address_tests local remote)
      → Mapped s m → m ≡ Err x → IsErr r × IsErrAnd r (λ e. e ≡ x) → Opened r
  sizes-err {s} {m} {x} r es em e h =
      let k = mapped-err s m x em e in
      subst Opened (sym (err-is r x h ∙ ap Err k.2))
      (at-sizes t local remote (find pair) (make pair (find pair).entry) (sym es ∙ k.1))

  module _ (sizes : checked (address_tests local remote) ≡ Ok tt) {p : Pair} (pairs : p ≡ pair) {f : Found} (is : f ≡ find p)
      {s : Result Entry Outcome} (keys : s ≡ result_and (checked (table_tests t ++ (test (refuse 35) (not f.there) ∷ []))) (Ok f.entry)) where
    found : f ≡ find pair
    found = is ∙ ap find pairs

    keys-is : s ≡ result_and (checked (keyed t local remote (find pair) (make pair (find pair).entry))) (Ok (find pair).entry)
    keys-is = keys ∙ ap (λ (f : Found). result_and (checked (table_tests t ++ (test (refuse 35) (not f.there) ∷ []))) (Ok f.entry)) found

    pub key-err : {m : Result Entry Refusal} {x : Refusal} (r : Result State Refusal) → Mapped s m → m ≡ Err x → IsErr r × IsErrAnd r (λ e. e ≡ x) → Opened r
    key-err {m} {x} r maps e h =
        let k = mapped-err s m x maps e in
        subst Opened (sym (err-is r x h ∙ ap Err k.2))
        (at-key t local remote (find pair) (make pair (find pair).entry) sizes (sym keys-is ∙ k.1))

    pub key-ok : {m : Result Entry Refusal} {e : Entry} → Mapped s m → m ≡ Ok e → {new : State} → new ≡ make p e → Opened (Ok new)
    key-ok {m} {e} maps q {new} en =
        let k = sym keys-is ∙ mapped-ok s m e maps q in
        let same = (and-ok (checked (keyed t local remote (find pair) (make pair (find pair).entry))) (find pair).entry k).1 in
        subst Opened (ap Ok (sym (en ∙ (λ i. make (pairs i) (sym same i)))))
        (opens t local remote (find pair) (make pair (find pair).entry) sizes k)

-- by TCP-AO and by MD5 the definition's
abbrev pub by-id : Tables → ℕ → Pair → Found
by-id t id p = send_entry t p id

abbrev pub with-ids : ℕ → ℕ → Pair → Entry → State
with-ids isn id p e = opening 0 p isn id e.ids.recv

abbrev pub with-none : ℕ → Pair → Entry → State
with-none isn p e = opening 1 p isn 0 0

pub actively : (t : Tables) (local remote : List ℕ) (lp rp isn id : ℕ) (r : Result State Refusal)
    → Opened t local remote lp rp (by-id t id) (with-ids isn id) r → settled_as empty r ≡ opened_actively t local remote lp rp isn id
unfolding opened_actively
actively t local remote lp rp isn id r e = e

pub actively-md5 : (t : Tables) (local remote : List ℕ) (lp rp isn : ℕ) (r : Result State Refusal)
    → Opened t local remote lp rp (md5_entry t) (with-none isn) r → settled_as empty r ≡ opened_actively_md5 t local remote lp rp isn
unfolding opened_actively_md5
actively-md5 t local remote lp rp isn r e = e

-- asking
module _ (t : Tables) (id : ℕ) (q : State) where
  asks-bad : each_gives is_bad (ask_tests t id q.conn) ≡ true
  asks-bad = rw (refusal-bad t.answer)

  pub ask-err : {s : Result Unit Outcome} {m : Result Unit Refusal} {x : Refusal} (r : Result State Refusal) → s ≡ checked (ask_tests t id q.conn)
      → Mapped s m → m ≡ Err x → IsErr r × IsErrAnd r (λ e. e ≡ x) → settled_as q r ≡ asked t id q
  unfolding asked
  ask-err {s} {m} {x} r es em e h =
      let k = mapped-err s m x em e in
      ap (settled_as q) (err-is r x h ∙ ap Err k.2)
      ∙ settles-err (ask_tests t id q.conn) asks-bad q (with_asked_of id q) (sym es ∙ k.1)

  pub ask-ok : {s : Result Unit Outcome} {m : Result Unit Refusal} → s ≡ checked (ask_tests t id q.conn) → Mapped s m → m ≡ Ok tt
      → {new : State} → new ≡ with_asked_of id q → settled_as q (Ok new) ≡ asked t id q
  unfolding asked
  ask-ok {s} {m} es em e {new} en =
      ap (λ (n : State). settled_as q (Ok n)) en
      ∙ settles-ok (ask_tests t id q.conn) asks-bad q (with_asked_of id q) (sym es ∙ mapped-ok s m tt em e)
