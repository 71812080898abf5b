-- Laws of the loader's tests: which number they give, and what it means that they give none.
use Rattle.std.specs.Prelude.{ℕ, ◌≤◌, Bool, true, false, cond, not, ◌≡◌, refl, List, [], ◌∷◌, ◌++◌, eqb, leb, Ok, Err}
use Rattle.std.proofs.Common.{sym, ap, ◌∙◌, arith, eq-eqb, leb-true}
use Rattle.std.proofs.lemmas.Bool.{not-false}
use Rattle.octets.specs.Tests.{Test, test, first, checked}
use Rattle.octets.specs.TestLaws.{NoneApplies, each_gives, first-none, first-append, first_past, first_passes, none-applied, none-split}
use Rattle.keys.specs.Entry.{Item, sound}
use Rattle.keys.specs.Table.{number_of, clashing, kind_listed_of, own_tests, item_tests}
use Rattle.keys.specs.Clash.{Passed}
use Rattle.keys.proofs.MatchLaws.{and-true}
use Rattle.keys.specs.declared.table.TableKind.{TableKind}
use Rattle.keys.specs.declared.table.TableKind.TheVariants.{Keys, Md5}
use Rattle.keys.specs.declared.entry.Entry.{Entry}

-- a number other than n; no test gives n
abbrev other : ℕ → ℕ → Bool
other n m = not (eqb m n)

abbrev pub lacks : ℕ → List (Test ℕ) → Bool
lacks n l = each_gives (other n) l

pub number_past : (a b : List (Test ℕ)) → NoneApplies a → number_of (a ++ b) ≡ number_of b
unfolding number_of
number_past a b p = first_past a b 0 p

-- 0 is given only where no test applies
pub number-none : (l : List (Test ℕ)) → lacks 0 l ≡ true → number_of l ≡ 0 → NoneApplies l
unfolding number_of
number-none l k e = none-applied (other 0) l 0 k (ap (other 0) e)

-- the same tests as a `Result`: an error is the number, and none applies where there is no error

pub checked-number : (l : List (Test ℕ)) (n : ℕ) → checked l ≡ Err n → number_of l ≡ n
unfolding number_of
checked-number [] n e = let z : ◌≡◌ {A = ℕ} 0 1 = cc in absurd (omega arith)
checked-number (x ∷ l) n e = go x.applies refl (checked-number l n)
  where
    go : (c : Bool) → x.applies ≡ c → (checked l ≡ Err n → first l 0 ≡ n) → cond x.applies x.gives (first l 0) ≡ n
    go true q ih = let r : checked (x ∷ l) ≡ Err x.gives = rw q in let z : Err x.gives ≡ Err n = sym r ∙ e in rw q (let y : x.gives ≡ n = cc in y)
    go false q ih = rw q (ih (rw q at e))

pub checked-none : (l : List (Test ℕ)) → checked l ≡ Ok tt → NoneApplies l
checked-none [] e = tt
checked-none (x ∷ l) e = go x.applies refl (checked-none l)
  where
    go : (c : Bool) → x.applies ≡ c → (checked l ≡ Ok tt → NoneApplies l) → (x.applies ≡ false) × NoneApplies l
    go true q ih = let z : ◌≡◌ {A = ℕ} 0 1 = cc (rw q at e) in absurd (omega arith)
    go false q ih = (q, ih (rw q at e))

pub none-checked : (l : List (Test ℕ)) → NoneApplies l → checked l ≡ Ok tt
none-checked [] p = refl
none-checked (x ∷ l) p = rw p.0 (none-checked l p.1)

pub checked-past : (a b : List (Test ℕ)) → NoneApplies a → checked (a ++ b) ≡ checked b
checked-past [] b p = refl
checked-past (x ∷ a) b p = rw p.0 (checked-past a b p.1)

pub checked-given : (a b : List (Test ℕ)) (n : ℕ) → checked a ≡ Err n → checked (a ++ b) ≡ Err n
checked-given [] b n e = let z : ◌≡◌ {A = ℕ} 0 1 = cc in absurd (omega arith)
checked-given (x ∷ a) b n e = go x.applies refl (checked-given a b n)
  where
    go : (c : Bool) → x.applies ≡ c → (checked a ≡ Err n → checked (a ++ b) ≡ Err n) → cond x.applies (Err x.gives) (checked (a ++ b)) ≡ Err n
    go true q ih = rw q (rw q at e)
    go false q ih = rw q (ih (rw q at e))

-- an error is a number that some test gives
pub checked-some : (l : List (Test ℕ)) (n : ℕ) → lacks 0 l ≡ true → checked l ≡ Err n → n ≡ 0 → ⊥
checked-some l n k e z =
    let r : checked l ≡ Ok tt = none-checked l (number-none l k (checked-number l n e ∙ z)) in
    let s : Err n ≡ Ok tt = sym e ∙ r in
    let y : ◌≡◌ {A = ℕ} 0 1 = cc in omega arith

-- a number that only the last test has is given if no other test applies and the last does
pub last-given : (n : ℕ) (b : Bool) (l : List (Test ℕ)) → lacks n l ≡ true → (n ≡ 0 → ⊥) → number_of (l ++ (test n b ∷ [])) ≡ n
    → NoneApplies l × (b ≡ true)
unfolding number_of
last-given n b l k z e = (none, go b refl)
  where
    whole : first l (cond b n 0) ≡ n
    whole = sym (first-append l (test n b ∷ []) 0) ∙ e

    none : NoneApplies l
    none = none-applied (other n) l (cond b n 0) k (ap (other n) whole ∙ ap not (eq-eqb n n refl))

    go : (c : Bool) → b ≡ c → b ≡ true
    go true q = q
    go false q = absurd (z (sym (sym (first-none l (cond b n 0) none) ∙ whole) ∙ ap (λ (c : Bool). cond c n 0) q))

pub given-last : (n : ℕ) (b : Bool) (l : List (Test ℕ)) → NoneApplies l → number_of (l ++ (test n b ∷ [])) ≡ cond b n 0
unfolding number_of
given-last n b l p = number_past l (test n b ∷ []) p

-- the tests of either kind of table

pub item-lacks : (kind : TableKind) (before : List Entry) (x : Item) → lacks 0 (item_tests kind before x) ≡ true
item-lacks Keys before x = refl
item-lacks Md5 before x = refl

pub own-lacks : (kind : TableKind) (x : Item) → lacks 17 (own_tests kind x) ≡ true
own-lacks Keys x = refl
own-lacks Md5 x = refl

-- no number is above 17
abbrev low : ℕ → Bool
low n = leb n 17

pub item-low : (kind : TableKind) (before : List Entry) (x : Item) → each_gives low (item_tests kind before x) ≡ true
item-low Keys before x = refl
item-low Md5 before x = refl

pub number-low : (l : List (Test ℕ)) → each_gives low l ≡ true → number_of l ≤ 17
unfolding number_of
number-low l h = leb-true (first l 0) 17 (first_passes low l 0 h refl)

-- an entry to which none of its tests applies, in the statements' words
pub none_passed : (l : List (Test ℕ)) → NoneApplies l → Passed l
none_passed [] p = tt
none_passed (x ∷ l) p = (p.0, none_passed l p.1)

pub passed_none : (l : List (Test ℕ)) → Passed l → NoneApplies l
passed_none [] p = tt
passed_none (x ∷ l) p = (p.0, passed_none l p.1)

pub listed-known : (kind : TableKind) (x : Item) → kind_listed_of kind x ≡ true → x.kind-known ≡ true
listed-known Keys x h = h
listed-known Md5 x h = (and-true x.kind-known (not x.extended) h).0

pub listed-sound : (kind : TableKind) (x : Item) → kind_listed_of kind x ≡ true → x.whole ≡ true → sound x ≡ true
listed-sound kind x k w = rw (listed-known kind x k, w)

-- an item to which none of 11, 10 and 13 to 17 applies is there whole, and of a known kind
pub item-good : (kind : TableKind) (before : List Entry) (x : Item) → number_of (item_tests kind before x) ≡ 0 → sound x ≡ true
item-good kind before x e =
    let p = (none-split (own_tests kind x) (test 17 (clashing x.entry before) ∷ []) (number-none (item_tests kind before x) (item-lacks kind before x) e)).0 in
    listed-sound kind x (not-false _ p.0) (not-false _ p.1.0)
