-- Laws for writing: parts put one behind the other, and the walk over a table's entries that puts a part of each.
use Prim.Native.Nat.{ℕ, suc, ◌+◌, ◌*◌, ◌≤◌}
use mathlib.Core.Path.{◌≡◌, refl, sym, ap, ◌∙◌, subst}
use mathlib.Core.List.{List, [], ◌∷◌, ◌++◌, append_assoc, append-nil}
use native.Mathlib.Omega.{arith}
use lib.ListN.{length, get_or, take, drop, length-append}
use lib.Seq.{paste, paste-zero, take-paste, drop-paste, take-length, drop-drop}
use Rattle.octets.specs.Octets.{bytes16}
use Rattle.keys.specs.Entry.{entries}
use Rattle.keys.specs.declared.entry.Entry.{Entry}
use Rattle.prepared.specs.Prepared.{send_part, recv_part, bits_part, mark_of, mark_part, stored_address_of, ports_part, slot, back, joined, columns, image, prepared_bytes}
use Rattle.prepared.specs.Parts.{part_bytes_of, part_of, put}
use Rattle.prepared.specs.declared.image.Part.{Part}

-- a run of bytes, and the next one right behind it
put_on : (o s v : List ℕ) (at j : ℕ) → at ≤ length o → j ≡ at + length s → put (put o at s) j v ≡ put o at (s ++ v)
put_on o s v at j h je =
    (λ i. put (put o at s) (je i) v)
    ∙ (λ i. (take-paste o at s (length s) h (omega arith) i ++ take-length v i) ++ rest i)
    ∙ (λ i. append_assoc (take at o) (take-length s i) v i ++ drop (at + length (s ++ v)) o)
    ∙ sym (λ i. (take at o ++ take-length (s ++ v) i) ++ drop (at + length (s ++ v)) o)
  where
    rest : drop (at + length s + length v) (put o at s) ≡ drop (at + length (s ++ v)) o
    rest =
        let l = length-append s v in
        sym (drop-drop (length v) (at + length s) (put o at s)) ∙ ap (drop (length v)) (drop-paste o at s (length s) h (omega arith)) ∙ drop-drop (length v) (at + length s) o
        ∙ ap (λ (k : ℕ). drop k o) (let q : at + length s + length v ≡ at + length (s ++ v) = omega arith in q)

put_next : (o s v x y : List ℕ) (at j : ℕ) → at ≤ length o → j ≡ at + length s → x ≡ put o at s → y ≡ put x j v → y ≡ put o at (s ++ v)
put_next o s v x y at j h je xe ye = ye ∙ ap (λ (l : List ℕ). put l j v) xe ∙ put_on o s v at j h je

pub put_three : (o a b c x y z : List ℕ) (at i j : ℕ) → at ≤ length o → i ≡ at + length a → j ≡ i + length b → x ≡ put o at a → y ≡ put x i b → z ≡ put y j c
    → z ≡ put o at (a ++ (b ++ c))
put_three o a b c x y z at i j h ie je xe ye ze =
    let l = length-append a b in
    put_next o (a ++ b) c y z at j h (omega arith) (put_next o a b x y at i h ie xe ye) ze ∙ ap (put o at) (append_assoc a b c)

-- the parts of an entry

pub ports-by : (e : Entry) (a b c d : List ℕ) → a ≡ bytes16 e.selector.remote.low → b ≡ bytes16 e.selector.remote.high
    → c ≡ bytes16 e.selector.local.low → d ≡ bytes16 e.selector.local.high
    → (get_or a 0 0 ∷ get_or a 1 0 ∷ get_or b 0 0 ∷ get_or b 1 0 ∷ get_or c 0 0 ∷ get_or c 1 0 ∷ get_or d 0 0 ∷ get_or d 1 0 ∷ []) ≡ ports_part e
unfolding ports_part
ports-by e a b c d ae be ce de =
    λ i. get_or (ae i) 0 0 ∷ get_or (ae i) 1 0 ∷ get_or (be i) 0 0 ∷ get_or (be i) 1 0 ∷ get_or (ce i) 0 0 ∷ get_or (ce i) 1 0 ∷ get_or (de i) 0 0 ∷ get_or (de i) 1 0 ∷ []

module _ (e : Entry) (o z : List ℕ) (at : ℕ) where
  pub put-slot : (a p : List ℕ) → a ≡ stored_address_of e.selector.family e.selector.remote.address → length a ≡ 15 → p ≡ ports_part e → length p ≡ 8
      → z ≡ put o at ((e.selector.family ∷ []) ++ (a ++ p)) → (z ≡ put o at (slot e)) × (length (slot e) ≡ 24)
  unfolding slot
  put-slot a p ae la pe lp ze =
      let s : (e.selector.family ∷ []) ++ (a ++ p) ≡ slot e = λ i. e.selector.family ∷ (ae i ++ pe i) in
      let l = length-append a p in
      let n : length ((e.selector.family ∷ []) ++ (a ++ p)) ≡ 24 = omega arith in (ze ∙ ap (put o at) s, sym (ap length s) ∙ n)

  pub put_back : length e.selector.local.address ≡ 16 → length e.secret.key ≡ 80
      → z
      ≡ put o at
      ((e.secret.flags ∷ e.secret.algorithm ∷ e.secret.mac_bytes ∷ e.secret.key_len ∷ e.selector.local.bits ∷ [])
      ++ (e.selector.local.address ++ e.secret.key))
      → (z ≡ put o at (back e)) × (length (back e) ≡ 101)
  unfolding back
  put_back l k ze = let a = length-append e.selector.local.address e.secret.key in (ze, omega arith)

  pub mark-put : (x : ℕ) → x ≡ mark_of e.selector.family e.selector.remote.address → z ≡ put o at (x ∷ [])
      → (z ≡ put o at (mark_part e)) × (length (mark_part e) ≡ 1)
  mark-put x xe ze = (ze ∙ ap (λ (y : ℕ). put o at (y ∷ [])) xe, refl)

-- one of the six
module _ (p q : Part) where
  pub part_room : (at n : ℕ) → p ≡ q → at + part_bytes_of p ≤ n → at + part_bytes_of q ≤ n
  part_room at n e h = subst (λ (x : Part). at + part_bytes_of x ≤ n) e h

  pub part-put : (e : Entry) (o z : List ℕ) (at : ℕ) → p ≡ q → (z ≡ put o at (part_of q e)) × (length (part_of q e) ≡ part_bytes_of q)
      → (z ≡ put o at (part_of p e)) × (length (part_of p e) ≡ part_bytes_of p)
  part-put e o z at pq h = subst (λ (x : Part). (z ≡ put o at (part_of x e)) × (length (part_of x e) ≡ part_bytes_of x)) (sym pq) h

-- the parts of entries, one after another

joined-append : (f : Entry → List ℕ) (a b : List Entry) → joined f (a ++ b) ≡ joined f a ++ joined f b
unfolding joined
joined-append f [] b = refl
joined-append f (e ∷ a) b = ap (λ (s : List ℕ). f e ++ s) (joined-append f a b) ∙ sym (append_assoc (f e) (joined f a) (joined f b))

-- the parts of these entries are put, k bytes each, and `to` is where they end
abbrev pub Put : (f : Entry → List ℕ) (k : ℕ) (l : List Entry) (o : List ℕ) (at to : ℕ) (out : List ℕ) → Type 0
Put f k l o at to out = (out ≡ put o at (joined f l)) × (length (joined f l) ≡ k * length l) × (to ≡ at + k * length l)

put_one : (f : Entry → List ℕ) (k : ℕ) (e : Entry) (o z : List ℕ) (at s : ℕ) → s ≡ k → (z ≡ put o at (f e)) × (length (f e) ≡ k)
    → Put f k (e ∷ []) o at (at + s) z
unfolding joined
put_one f k e o z at s se h =
    let n = append-nil (f e) in
    let l = ap length n in
    let b = h.1 in (h.0 ∙ ap (put o at) (sym n), omega arith, omega arith)

-- those of m right behind those of k: so the walk goes on, and so the second table follows the first
put-more : (f : Entry → List ℕ) (s : ℕ) (k m : List Entry) (o x y : List ℕ) (at i j : ℕ) → at ≤ length o
    → Put f s k o at i x → Put f s m x i j y → Put f s (k ++ m) o at j y
put-more f s k m o x y at i j h a b =
    let p = joined-append f k m in
    let l = ap length p ∙ length-append (joined f k) (joined f m) in
    let d : s * length (k ++ m) ≡ s * length k + s * length m = ap (λ (n : ℕ). s * n) (length-append k m) ∙ omega arith in
    let la = a.1 in
    let ie = a.2 in
    let lb = b.1 in
    let je = b.2 in (
      put_next o (joined f k) (joined f m) x y at i h (omega arith) a.0 b.0 ∙ ap (put o at) (sym p),
      omega arith,
      omega arith,
    )

-- the walk: the parts of the entries that it has passed are put, and `rest` are left
pub record Putting (f : Entry → List ℕ) (k : ℕ) (t o : List ℕ) (at to : ℕ) (rest : List Entry) (out : List ℕ) : Type 0 where
  pub passed : List Entry
  pub all : passed ++ rest ≡ entries t
  pub same : length out ≡ length o
  pub done : Put f k passed o at to out

pub putting-start : (f : Entry → List ℕ) (k : ℕ) (t o : List ℕ) (at : ℕ) (l : List Entry) → l ≡ entries t → Putting f k t o at at l o
unfolding joined
putting-start f k t o at l e = record { passed = []; all = e; same = refl; done = (paste-zero o at [], omega arith, omega arith) }

module _ {f : Entry → List ℕ} {k : ℕ} {t o : List ℕ} {at to : ℕ} {rest : List Entry} {out : List ℕ} (w : Putting f k t o at to rest out) where
  module _ (e : Entry) (r : List Entry) (n : rest ≡ e ∷ r) where
    next : w.passed ++ (e ∷ r) ≡ entries t
    next = ap (λ (l : List Entry). w.passed ++ l) (sym n) ∙ w.all

    pub putting-room : at + k * length (entries t) ≤ length o → (to + k ≤ length out) × (to + k ≤ length o)
    putting-room h =
        let p = length w.passed in
        let l = length r in
        let q : length (entries t) ≡ p + suc l = sym (ap length next) ∙ length-append w.passed _ in
        let a : at + k * (p + suc l) ≤ length o = subst (λ (j : ℕ). at + k * j ≤ length o) q h in
        let m : k * (p + suc l) ≡ k * p + k + k * l = omega arith in
        let s = w.same in
        let d = w.done.2 in (omega arith, omega arith)

    pub putting-next : at + k * length (entries t) ≤ length o → (s : ℕ) (new : List ℕ) → s ≡ k
        → length new ≡ length out → (new ≡ put out to (f e)) × (length (f e) ≡ k) → Putting f k t o at (to + s) r new
    putting-next h s new se ln pe =
        let a = w.passed in
        let end = w.done.2 in
        let room = putting-room h in
        record {
          passed = a ++ (e ∷ []);
          all = append_assoc a (e ∷ []) _ ∙ next;
          same = ln ∙ w.same;
          done = put-more f k a (e ∷ []) o out new at to (to + s) (omega arith) w.done (put_one f k e out new to s se pe);
        }

-- both tables: as many bytes as the entries of both have

abbrev Both : (f : Entry → List ℕ) (s : ℕ) (k m : List Entry) (o : List ℕ) (at to : ℕ) (out : List ℕ) → Type 0
Both f s k m o at to out =
    (out ≡ put o at (joined f (k ++ m))) × (length (joined f (k ++ m)) ≡ s * (length k + length m)) × (to ≡ at + s * (length k + length m))

module _ (f : Entry → List ℕ) (s : ℕ) (k m : List Entry) (o : List ℕ) (at : ℕ) (room : at + s * (length k + length m) ≤ length o) where
  pub both_first : at + s * length k ≤ length o
  both_first = let d : s * (length k + length m) ≡ s * length k + s * length m = omega arith in omega arith

  module _ (x : List ℕ) (j : ℕ) (xe : Put f s k o at j x) (lx : length x ≡ length o) where
    pub both-second : j + s * length m ≤ length x
    both-second =
        let d : s * (length k + length m) ≡ s * length k + s * length m = omega arith in
        let je = xe.2 in omega arith

    pub both-put : (y : List ℕ) (r : ℕ) → Put f s m x j r y → Both f s k m o at r y
    both-put y r ye =
        let p = put-more f s k m o x y at j r (omega arith) xe ye in
        let l = length-append k m in (p.0, p.1 ∙ ap (λ (n : ℕ). s * n) l, p.2 ∙ ap (λ (n : ℕ). at + s * n) l)

-- the whole

put_four : (o a b c d x y z w : List ℕ) (at i j g : ℕ) → at ≤ length o → j ≤ length y → i ≡ at + length a → j ≡ i + length b → g ≡ j + length c
    → x ≡ put o at a → y ≡ put x i b → z ≡ put y j c → w ≡ put z g d → w ≡ put o at (a ++ (b ++ (c ++ d)))
put_four o a b c d x y z w at i j g h hy ie je ge xe ye ze we =
    put_three o a b (c ++ d) x y w at i j h ie je xe ye (put_next y c d z w j g hy ge ze we)

-- y has the counts, and the columns come next
module _ (k m : List Entry) (n l : ℕ) (nk : n ≡ length k) (lm : l ≡ length m) (o y : List ℕ) (room : prepared_bytes (n + l) ≤ length o) (ly : length y ≡ length o)
    {p q r s : List ℕ} {f g h i : ℕ} (pe : Both send_part 1 k m y 4 f p) (qe : Both recv_part 1 k m p f g q) (re : Both bits_part 1 k m q g h r)
    (se : Both mark_part 1 k m r h i s) (lq : length q ≡ length o) where
  put-columns : (s ≡ put y 4 (columns (k ++ m))) × (length (columns (k ++ m)) ≡ 4 * (n + l)) × (i ≡ 4 + 4 * (n + l))
  unfolding columns
  put-columns =
      let a = joined send_part (k ++ m) in
      let b = joined recv_part (k ++ m) in
      let c = joined bits_part (k ++ m) in
      let d = joined mark_part (k ++ m) in
      let la = pe.1 in
      let lb = qe.1 in
      let lc = re.1 in
      let ld = se.1 in
      let fe = pe.2 in
      let ge = qe.2 in
      let he = re.2 in
      let ie = se.2 in
      let u = length-append c d in
      let v = length-append b (c ++ d) in
      let w = length-append a (b ++ (c ++ d)) in (
        put_four y a b c d p q r s 4 f g h (omega arith) (omega arith) (omega arith) (omega arith) (omega arith) pe.0 qe.0 re.0 se.0,
        omega arith,
        omega arith,
      )

  pub put-image : length s ≡ length o → {a b x z w : List ℕ} {j e : ℕ} → a ≡ bytes16 n → b ≡ bytes16 l → x ≡ put o 0 a → y ≡ put x 2 b → Both slot 24 k m s i j z
      → Both back 101 k m z j e w → w ≡ paste o 0 (image k m) (prepared_bytes (n + l))
  unfolding image
  put-image ls {a} {b} {x} {z} {w} {j} {e} ae be xe ye ze we =
      let la : length a ≡ 2 = ap length ae in
      let lb : length b ≡ 2 = ap length be in
      let lab = length-append a b in
      let C = columns (k ++ m) in
      let S = joined slot (k ++ m) in
      let B = joined back (k ++ m) in
      let lc = put-columns.1 in
      let ie = put-columns.2 in
      let lz = ze.1 in
      let je = ze.2 in
      let lw = we.1 in
      let counts : y ≡ put o 0 (a ++ b) = put_next o a b x y 0 2 (omega arith) (omega arith) xe ye in
      let rest : w ≡ put s i (S ++ B) = put_next s S B z w i j (omega arith) (omega arith) ze.0 we.0 in
      let all : w ≡ put o 0 ((a ++ b) ++ (C ++ (S ++ B))) = put_three o (a ++ b) C (S ++ B) y s w 0 4 i (omega arith) (omega arith) (omega arith) counts put-columns.0 rest in
      let im : (a ++ b) ++ (C ++ (S ++ B)) ≡ image k m = append_assoc a b (C ++ (S ++ B)) ∙ (λ t. (ae ∙ ap bytes16 nk) t ++ ((be ∙ ap bytes16 lm) t ++ (C ++ (S ++ B)))) in
      let u = length-append S B in
      let v = length-append C (S ++ B) in
      let li : length ((a ++ b) ++ (C ++ (S ++ B))) ≡ prepared_bytes (n + l) = length-append (a ++ b) (C ++ (S ++ B)) ∙ omega arith in
      all ∙ (λ t. paste o 0 (im t) (li t))
