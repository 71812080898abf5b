-- What a search of valid tables finds, and what it says that one finds something or nothing.
use Rattle.std.specs.Prelude.{ℕ, ◌+◌, ◌<◌, Bool, true, false, ◌≡◌, refl, List, ◌⊎◌, ltb}
use Rattle.std.proofs.Common.{sym, ap, ◌∙◌, subst, inl, inr, arith, eq-eqb, eqb-true, ltb-true, ltb-false}
use Rattle.keys.proofs.FormedLaws.{KeyProper, Md5Proper}
use Rattle.keys.proofs.FoundLaws.{found_first, found-only, found-there, found_none, found-nobody, any-there, answers-parts, answers_of}
use Rattle.keys.proofs.FoundLaws.{any-of as any-passing}
use Rattle.keys.specs.Match.{matches, clash}
use Rattle.keys.proofs.MatchLaws.{clash-of, overlap-found}
use Rattle.keys.specs.Places.{At}
use Rattle.keys.specs.Table.{nobody, found, has_id_of, answers}
use Rattle.keys.specs.declared.entry.Ids.{Ids}
use Rattle.keys.specs.declared.entry.Entry.{Entry}
use Rattle.keys.specs.declared.entry.Pair.{Pair}
use Rattle.keys.specs.declared.table.By.{By}
use Rattle.keys.specs.declared.table.By.TheVariants.{Any, Send, Recv}
use Rattle.keys.specs.Table.{Found}
use Rattle.tables.specs.Tables.{Tables, send_entry, recv_entry, md5_entry}
pub use Rattle.tables.specs.Search.{hit, Named, Holder}
use Rattle.tables.specs.Search.{AnswerUnique, SendFound, RecvFound, Md5Found, SendFirst, RecvFirst, Md5First, Uncrossed}
use Rattle.tables.specs.Search.{SendHolder, RecvHolder, Md5Holder, SendNone, RecvNone, Md5None, AnyHolder, AnyOf}
use Rattle.tables.specs.Valid.{NoClash, Digest16, Held, ValidTables}
use Rattle.tables.proofs.ValidLaws.{valid-key, valid-md5, valid-digest}

-- at most one entry answers

-- entries that clash either way stand at one place
one_place : (l : List Entry) → NoClash l → (i j : ℕ) (e f : Entry) → At l i e → At l j f → clash e f ≡ true → clash f e ≡ true → i ≡ j
one_place l apart i j e f a b h k = go (ltb i j) (ltb j i) refl refl
  where
    go : (x y : Bool) → ltb i j ≡ x → ltb j i ≡ y → i ≡ j
    go true y q r = let z : ◌≡◌ {A = ℕ} 0 1 = cc (h, apart i j e f a b (ltb-true i j q)) in absurd (omega arith)
    go false true q r = let z : ◌≡◌ {A = ℕ} 0 1 = cc (k, apart j i f e b a (ltb-true j i r)) in absurd (omega arith)
    go false false q r = let u = ltb-false i j q in let w = ltb-false j i r in omega arith

same_id : (by : By) → Named by → (a b : Ids) → has_id_of by a ≡ true → has_id_of by b ≡ true → (a.send ≡ b.send) ⊎ (a.recv ≡ b.recv)
same_id Any n a b h k = absurd n
same_id (Send id) n a b h k = inl (eqb-true a.send id h ∙ sym (eqb-true b.send id k))
same_id (Recv id) n a b h k = inr (eqb-true a.recv id h ∙ sym (eqb-true b.recv id k))

both-clash : (by : By) (p : Pair) (e f : Entry) → Named by → answers by p e ≡ true → answers by p f ≡ true → clash e f ≡ true
both-clash by p e f n h k =
    let a = answers-parts by p e h in
    let b = answers-parts by p f k in
    clash-of e f p a.1 b.1 (same_id by n e.ids f.ids a.0 b.0)

pub answer-unique : AnswerUnique
answer-unique t by p i j e f v n a b h k =
    one_place t.keys v.apart.keys i j e f a b (both-clash by p e f n h k) (both-clash by p f e n k h)

-- both IDs of MD5 entries are 0
md5-clash : {t : Tables} {i j : ℕ} {e f : Entry} (v : ValidTables t) (p : Pair) → At t.md5s i e → At t.md5s j f
    → matches e.selector p ≡ true → matches f.selector p ≡ true → clash e f ≡ true
md5-clash {e = e} {f = f} v p a b h k = clash-of e f p h k (inl ((valid-md5 v.held a).send ∙ sym (valid-md5 v.held b).send))

-- so a search finds the entry that answers

answer-found : (t : Tables) (by : By) (p : Pair) {i : ℕ} {e : Entry} → ValidTables t → Named by → At t.keys i e → answers by p e ≡ true
    → found (answers by p) 0 t.keys ≡ hit i e
answer-found t by p {i} {e} v n a h = found-only (answers by p) a h (λ j f b k. answer-unique t by p j i f e v n b a k h)

pub send-found : SendFound
send-found t p id i e v a m s = answer-found t (Send id) p v tt a (answers_of (Send id) p e (eq-eqb e.ids.send id s) m)

pub recv-found : RecvFound
recv-found t p id i e v a m s = answer-found t (Recv id) p v tt a (answers_of (Recv id) p e (eq-eqb e.ids.recv id s) m)

pub md5-found : Md5Found
md5-found t p i e v a m =
    found-only (answers Any p) a (answers_of Any p e refl m)
    (λ j f b k.
    let n = (answers-parts Any p f k).1 in
    one_place t.md5s v.apart.md5s j i f e b a (md5-clash v p b a n m) (md5-clash v p a b m n))

-- the first that answers, in any tables

first_of : (l : List Entry) (by : By) (p : Pair) {i : ℕ} {e : Entry} → At l i e → answers by p e ≡ true
    → ((j : ℕ) (f : Entry) → At l j f → j < i → answers by p f ≡ true → ⊥) → found (answers by p) 0 l ≡ hit i e
first_of l by p {i} {e} a h n =
    found_first (answers by p) 0 a h (λ j f b k. none f (n j f b k) (answers by p f) refl)
    ∙ ap (λ (m : ℕ). hit m e) (let z : 0 + i ≡ i = omega arith in z)
  where
    none : (f : Entry) → (answers by p f ≡ true → ⊥) → (b : Bool) → answers by p f ≡ b → answers by p f ≡ false
    none f n true q = absurd (n q)
    none f n false q = q

pub send-first : SendFirst
send-first t p id i e a m s n =
    first_of t.keys (Send id) p a (answers_of (Send id) p e (eq-eqb e.ids.send id s) m)
    (λ j f b k h. let r = answers-parts (Send id) p f h in n j f b k r.1 (eqb-true f.ids.send id r.0))

pub recv-first : RecvFirst
recv-first t p id i e a m s n =
    first_of t.keys (Recv id) p a (answers_of (Recv id) p e (eq-eqb e.ids.recv id s) m)
    (λ j f b k h. let r = answers-parts (Recv id) p f h in n j f b k r.1 (eqb-true f.ids.recv id r.0))

pub md5-first : Md5First
md5-first t p i e a m n =
    first_of t.md5s Any p a (answers_of Any p e refl m) (λ j f b k h. n j f b k (answers-parts Any p f h).1)

-- what a search finds, in any tables

found-holder : (l : List Entry) (by : By) (p : Pair) → (found (answers by p) 0 l).there ≡ true
    → Holder l p (found (answers by p) 0 l) × (has_id_of by (found (answers by p) 0 l).entry.ids ≡ true)
found-holder l by p h =
    let r = found-there (answers by p) l 0 h in
    let a = answers-parts by p r.1 r.3 in
    let z : r.0 ≡ 0 + r.0 = omega arith in
    subst (λ (x : Found). Holder l p x × (has_id_of by x.entry.ids ≡ true)) (sym r.4)
    (record { place = subst (λ (n : ℕ). At l n r.1) z r.2; matched = a.1 }, a.0)

pub send-holder : SendHolder
send-holder t p id h = let r = found-holder t.keys (Send id) p h in (r.0, eqb-true _ _ r.1)

pub recv-holder : RecvHolder
recv-holder t p id h = let r = found-holder t.keys (Recv id) p h in (r.0, eqb-true _ _ r.1)

pub md5-holder : Md5Holder
md5-holder t p h = (found-holder t.md5s Any p h).0

-- nothing found: no entry of the table answers

none_of : (l : List Entry) (by : By) (p : Pair) {i : ℕ} {e : Entry} → (found (answers by p) 0 l).there ≡ false → At l i e
    → answers by p e ≡ true → ⊥
none_of l by p h a y = let z : ◌≡◌ {A = ℕ} 0 1 = cc (found_none (answers by p) 0 h a, y) in omega arith

pub send-none : SendNone
send-none t p id i e h a m s = none_of t.keys (Send id) p h a (answers_of (Send id) p e (eq-eqb e.ids.send id s) m)

pub recv-none : RecvNone
recv-none t p id i e h a m s = none_of t.keys (Recv id) p h a (answers_of (Recv id) p e (eq-eqb e.ids.recv id s) m)

pub md5-none : Md5None
md5-none t p i e h a m = none_of t.md5s Any p h a (answers_of Any p e refl m)

module _ (t : Tables) (p : Pair) where
  pub send-nobody : (id : ℕ) → (send_entry t p id).there ≡ false → send_entry t p id ≡ nobody
  send-nobody id h = found-nobody (answers (Send id) p) t.keys 0 h

  pub recv-nobody : (id : ℕ) → (recv_entry t p id).there ≡ false → recv_entry t p id ≡ nobody
  recv-nobody id h = found-nobody (answers (Recv id) p) t.keys 0 h

  pub md5-nobody : (md5_entry t p).there ≡ false → md5_entry t p ≡ nobody
  md5-nobody h = found-nobody (answers Any p) t.md5s 0 h

-- an entry that matches the pair is there to be matched

pub any-of : AnyOf
any-of t p i e a m = any-passing (answers Any p) a (answers_of Any p e refl m)

pub any-holder : AnyHolder
any-holder t p h = let r = any-there (answers Any p) t.keys h in (r.0, r.1, r.2, (answers-parts Any p r.1 r.3).1)

-- the two tables of valid tables share no pair

pub uncrossed : Uncrossed
uncrossed t p i e v a m = go (md5_entry t p).there refl
  where
    go : (b : Bool) → (md5_entry t p).there ≡ b → (md5_entry t p).there ≡ false
    go false q = q
    go true q =
        let h = md5-holder t p q in
        let f = (md5_entry t p).entry in
        let o = overlap-found e.selector f.selector p m h.matched in
        let z : ◌≡◌ {A = ℕ} 0 1 = cc (v.apart.uncrossed i (md5_entry t p).index e f a h.place, o) in
        absurd (omega arith)

-- what is found among entries that valid bytes could hold

module _ {t : Tables} (v : Held t) (p : Pair) where
  pub send-proper : (id : ℕ) → (send_entry t p id).there ≡ true → KeyProper (send_entry t p id).entry
  send-proper id h = valid-key v (send-holder t p id h).0.place

  pub recv-proper : (id : ℕ) → (recv_entry t p id).there ≡ true → KeyProper (recv_entry t p id).entry
  recv-proper id h = valid-key v (recv-holder t p id h).0.place

  pub md5-proper : (md5_entry t p).there ≡ true → Md5Proper (md5_entry t p).entry
  md5-proper h = valid-md5 v (md5-holder t p h).place

  pub md5-digest : (md5_entry t p).there ≡ true → Digest16 (md5_entry t p).entry
  md5-digest h = valid-digest v (md5-holder t p h).place
