-- What the loops over numbers of eight bytes need, and the parts of a state put together.
use Rattle.std.proofs.Common.{◌≡◌, ℕ, zero, suc, ◌+◌, ◌-◌, ◌*◌, ◌<◌, ◌≤◌, List, [], ◌∷◌, ◌++◌, length, get_or, take, drop, set, replicate, sym, refl, ap, ◌∙◌, append_assoc, append-nil, add-one, arith, length-append, length-drop, length-take, take_all, drop-drop, take-suc-set, take_at, take-add, drop_at}
use lib.Seq.{paste, take-paste, drop-paste, take-length, set_at}
use Rattle.octets.specs.Octets.{get16, bytes64}
use Rattle.keys.specs.Entry.{padded}
use Rattle.octets.specs.Each.{Octets}
use Rattle.rules.specs.Connection.{slots}
use Rattle.rules.specs.declared.Connection.{Connection}
use Rattle.states.specs.Layout.{family_at, send_id_at, ask_id_at, local_port_at, remote_port_at, local_at, remote_at_lem, sent_at, seen_at, accepted_at, drops_at, way_at, state_bytes, get64, words_at_lem, word_bytes, decode_pair, decode_connection, decode_of, encode_of}
use Rattle.states.specs.LayoutLaws.{encode-decode}
use Rattle.states.specs.WordLaws.{length-words}

-- Reading.

snoc : (n : ℕ) (b : List ℕ) (at : ℕ) → words_at_lem (suc n) b at ≡ words_at_lem n b at ++ (get64 b (at + 8 * n) ∷ [])
unfolding words_at_lem
snoc zero b at = ap (λ (k : ℕ). get64 b k ∷ []) (let e : at ≡ at + 8 * 0 = omega arith in e)
snoc (suc n) b at =
    ap (λ (l : List ℕ). get64 b at ∷ l) (snoc n b (at + 8))
    ∙ ap (λ (k : ℕ). get64 b at ∷ (words_at_lem n b (at + 8) ++ (get64 b k ∷ []))) (let e : at + 8 + 8 * n ≡ at + 8 * suc n = omega arith in e)

pub one-read : (d b : List ℕ) (i v at : ℕ) → i < length d → take i d ≡ words_at_lem i b at → v ≡ get64 b (at + 8 * i) → take (i + 1) (set d i v) ≡ words_at_lem (i + 1) b at
one-read d b i v at h p q = rw (add-one, snoc, ← p, ← q) (take-suc-set d i v h)

pub all_read : (d b : List ℕ) (i n at : ℕ) → i ≡ n → length d ≡ n → take i d ≡ words_at_lem i b at → d ≡ words_at_lem n b at
all_read d b i n at e l p = sym (take_all i d (omega arith)) ∙ p ∙ ap (λ (k : ℕ). words_at_lem k b at) e

-- Writing.

word_at : (l : List ℕ) (i : ℕ) → i < length l → take 8 (drop (8 * i) (word_bytes l)) ≡ bytes64 (get_or l i 0)
unfolding word_bytes
word_at [] i h = absurd (omega arith)
word_at (x ∷ l) zero h = refl
word_at (x ∷ l) (suc i) h =
    let e : 8 * suc i ≡ 8 + 8 * i = omega arith in
    ap (λ (k : ℕ). take 8 (drop k (bytes64 x ++ word_bytes l))) e
    ∙ ap (take 8) (sym (drop-drop (8 * i) 8 (bytes64 x ++ word_bytes l)))
    ∙ word_at l i (omega arith)

-- a copy, and the next one right behind it
next : (o s v : List ℕ) (at n : ℕ) → at ≤ length o → n ≤ length s → take (length v) (drop n s) ≡ v
    → paste (paste o at s n) (at + n) v (length v) ≡ paste o at s (n + length v)
next o s v at n h k e =
    (λ i. (take-paste o at s n h k i ++ take-length v i) ++ rest i)
    ∙ (λ i. append_assoc (take at o) (take n s) v i ++ drop (at + (n + length v)) o)
    ∙ sym (λ i. (take at o ++ (take-add n (length v) s ∙ ap (λ (l : List ℕ). take n s ++ l) e) i) ++ drop (at + (n + length v)) o)
  where
    rest : drop (at + n + length v) (paste o at s n) ≡ drop (at + (n + length v)) o
    rest =
        sym (drop-drop (length v) (at + n) (paste o at s n)) ∙ ap (drop (length v)) (drop-paste o at s n h k) ∙ drop-drop (length v) (at + n) o
        ∙ ap (λ (m : ℕ). drop m o) (let q : at + n + length v ≡ at + (n + length v) = omega arith in q)

pub one_written : (o w x y v : List ℕ) (at i : ℕ) → at + 8 * length w ≤ length o → i < length w → x ≡ paste o at (word_bytes w) (8 * i)
    → v ≡ bytes64 (get_or w i 0) → y ≡ paste x (at + 8 * i) v (length v) → y ≡ paste o at (word_bytes w) (8 * (i + 1))
one_written o w x y v at i h k p q r =
    let l = length-words w in
    let e : 8 * i + 8 ≡ 8 * (i + 1) = omega arith in
    r ∙ (λ j. paste (p j) (at + 8 * i) (q j) (length (q j)))
    ∙ next o (word_bytes w) (bytes64 (get_or w i 0)) at (8 * i) (omega arith) (omega arith) (word_at w i k)
    ∙ ap (paste o at (word_bytes w)) e

-- The parts of a state.

-- a part of n bytes put right behind what stands there already
put : (p v z o q : List ℕ) (at n m : ℕ) → o ≡ p ++ z → length p ≡ at → length v ≡ n → m ≡ length v → q ≡ paste o at v m → (q ≡ (p ++ v) ++ drop n z) × (length (p ++ v) ≡ at + n)
put p v z o q at n m e h l k r = (
  r ∙ (λ i. paste (e i) at v (k i)) ∙ (λ i. (take_at p z at h i ++ take-length v i) ++ (sym (drop-drop (length v) at (p ++ z)) ∙ (λ j. drop (l j) (drop_at p z at h j))) i),
  length-append p v ∙ (λ i. h i + l i),
)

pub all-put : (f l r n d o₁ o₂ o₃ o₄ o₅ : List ℕ) (w : ℕ) → length f ≡ 16 → length l ≡ 16 → length r ≡ 16 → length n ≡ 3 → length d ≡ slots
    → o₁ ≡ paste (replicate state_bytes 0) 0 f (length f) → o₂ ≡ paste o₁ local_at l (length l) → o₃ ≡ paste o₂ remote_at_lem r (length r)
    → o₄ ≡ paste o₃ sent_at (word_bytes n) (8 * length n) → o₅ ≡ paste o₄ drops_at (word_bytes d) (8 * length d)
    → set o₅ way_at w ≡ f ++ (l ++ (r ++ (word_bytes n ++ (word_bytes d ++ (w ∷ [])))))
all-put f l r n d o₁ o₂ o₃ o₄ o₅ w hf hl hr hn hd e₁ e₂ e₃ e₄ e₅ =
    let p₁ = put [] f (replicate state_bytes 0) (replicate state_bytes 0) o₁ 0 16 (length f) refl refl hf refl e₁ in
    let p₂ = put f l (replicate (state_bytes - local_at) 0) o₁ o₂ local_at 16 (length l) p₁.0 hf hl refl e₂ in
    let p₃ = put (f ++ l) r (replicate (state_bytes - remote_at_lem) 0) o₂ o₃ remote_at_lem 16 (length r) p₂.0 p₂.1 hr refl e₃ in
    let p₄ = put ((f ++ l) ++ r) (word_bytes n) (replicate (state_bytes - sent_at) 0) o₃ o₄ sent_at 24 (8 * length n)
    p₃.0 p₃.1 (length-words n ∙ ap (λ (k : ℕ). 8 * k) hn) (sym (length-words n)) e₄ in
    let p₅ = put (((f ++ l) ++ r) ++ word_bytes n) (word_bytes d) (replicate (state_bytes - drops_at) 0) o₄ o₅ drops_at (8 * slots)
    (8 * length d) p₄.0 p₄.1 (length-words d ∙ ap (λ (k : ℕ). 8 * k) hd) (sym (length-words d)) e₅ in
    let p : List ℕ = (((f ++ l) ++ r) ++ word_bytes n) ++ word_bytes d in
    ap (λ (o : List ℕ). set o way_at w) p₅.0 ∙ set_at p 0 [] w way_at p₅.1 ∙ simp append_assoc

-- sixteen bytes fill a field
filled : (b x : List ℕ) (at : ℕ) → at + 16 ≤ length b → x ≡ padded (take 16 (drop at b)) → x ≡ take 16 (drop at b)
filled b x at h e =
    let d = length-drop at b in
    let l = length-take 16 (drop at b) in
    let z : 16 - length (take 16 (drop at b)) ≡ 0 = omega arith in
    e ∙ ap (λ (k : ℕ). take 16 (drop at b) ++ replicate k 0) z ∙ append-nil (take 16 (drop at b))

pub pair_read : (b l r : List ℕ) (p q : ℕ) → length b ≡ state_bytes → p ≡ get16 b local_port_at → q ≡ get16 b remote_port_at → l ≡ padded (take 16 (drop local_at b)) → r ≡ padded (take 16 (drop remote_at_lem b))
    → record { family = get_or b family_at 0; local_port = p; remote_port = q; local = l; remote = r } ≡ decode_pair b
unfolding decode_pair
pair_read b l r p q h e f g k i =
    record { family = get_or b family_at 0; local_port = e i; remote_port = f i; local = filled b l local_at (omega arith) g i; remote = filled b r remote_at_lem (omega arith) k i }

pub state-read : (b d : List ℕ) (l : Connection) (p q r : ℕ) → length b ≡ state_bytes → Octets b → l ≡ decode_connection b → d ≡ words_at_lem slots b drops_at → p ≡ get64 b sent_at → q ≡ get64 b seen_at → r ≡ get64 b accepted_at
    → (record { conn = l; sent = p; seen = q; send_id = get_or b send_id_at 0; ask_id = get_or b ask_id_at 0; accepted = r; drops = d } ≡ decode_of b)
    × (encode_of (record { conn = l; sent = p; seen = q; send_id = get_or b send_id_at 0; ask_id = get_or b ask_id_at 0; accepted = r; drops = d }) ≡ b)
unfolding decode_of
state-read b d l p q r h o e f g k m = (same, ap encode_of same ∙ encode-decode b h o)
  where
    same : record { conn = l; sent = p; seen = q; send_id = get_or b send_id_at 0; ask_id = get_or b ask_id_at 0; accepted = r; drops = d } ≡ decode_of b
    same i = record { conn = e i; sent = g i; seen = k i; send_id = get_or b send_id_at 0; ask_id = get_or b ask_id_at 0; accepted = m i; drops = f i }
