-- The bytes of the record that is begun: how many are taken, and where they are held.
use Rattle.std.proofs.Common.{◌≡◌, ℕ, zero, suc, ◌+◌, ◌-◌, ◌%◌, ◌<◌, ◌≤◌, min, true, false, ltb, List, [], ◌∷◌, ◌++◌, length, get_or, take, sym, refl, ap, ◌∙◌, subst, mod-eq_of_lt, arith, length-take-le, get_or-take, ne_eqb}
use mathlib.Core.Path.{subst⁻¹}
use lib.Seq.{paste, take-paste, take-length}
use Rattle.recording.specs.declared.desk.Desk as C
use Rattle.recording.specs.declared.desk.Step.{Step}
use Rattle.recording.specs.declared.line.Line.{Line}
use Rattle.recording.specs.declared.line.Line.TheVariants.{Nothing, Fault}
use Rattle.recording.specs.Lines.{line_text}
use Rattle.recording.specs.Recording.{kind_of, record_bytes_of, with_held, stopped, faulty, settled, looked, absorb, finished}
use Rattle.recording.proofs.RecordingLaws.{absorb-stopped, absorb-part, looked-faulty, looked-short, looked-whole}
use Rattle.recording.specs.Views.{desk_view, held_count, Given, record_part, taken}
use Rattle.recording.specs.Held.{Holds}
use Rattle.recording.proofs.Forms.{bytes-range}
use Rattle.recording.proofs.Settling.{unprinted, unchanged, given-same}

-- kinds

kind-held : (h : ℕ) (g s : List ℕ) → 0 < h → 0 < length g → kind_of (take h g ++ s) ≡ get_or g 0 0
kind-held zero g s a b = absurd (omega arith)
kind-held (suc h) [] s a b = absurd (omega arith)
kind-held (suc h) (k ∷ g) s a b = refl

kind-part : (n : ℕ) (h s : List ℕ) → 0 < n → kind_of (h ++ take n s) ≡ kind_of (h ++ s)
kind-part zero h s a = absurd (omega arith)
kind-part (suc n) [] [] a = refl
kind-part (suc n) [] (b ∷ s) a = refl
kind-part (suc n) (k ∷ h) s a = refl

-- how many are taken

pub of-count : (g s : List ℕ) (n : ℕ) {h k : ℕ} → h ≡ k → (n ≡ record_part (take h g) s) × (0 < n) × (h + n ≤ 1601)
    → (n ≡ record_part (take k g) s) × (0 < n) × (k + n ≤ 1601)
of-count g s n e p = subst (λ (x : ℕ). (n ≡ record_part (take x g) s) × (0 < n) × (x + n ≤ 1601)) e p

pub takes_first : (h : ℕ) (g s : List ℕ) (k n : ℕ) → h ≡ 0 → k ≡ record_bytes_of (get_or s 0 0) → 0 < length s → n ≡ min k (length s)
    → (n ≡ record_part (take h g) s) × (0 < n) × (h + n ≤ 1601)
takes_first h g s k n z e l q =
    let w = bytes-range (get_or s 0 0) in
    let t : record_part (take h g) s ≡ min (record_bytes_of (get_or s 0 0) - 0) (length s) = ap (λ (x : ℕ). record_part (take x g) s) z in
    (omega arith, omega arith, omega arith)

pub takes-more : (h : ℕ) (g s : List ℕ) (k n : ℕ) → (h ≡ 0 → ⊥) → h < record_bytes_of (get_or g 0 0) → length g ≡ 1601 → k ≡ record_bytes_of (get_or g 0 0)
    → 0 < length s → n ≡ min (k - h) (length s) → (n ≡ record_part (take h g) s) × (0 < n) × (h + n ≤ 1601)
takes-more h g s k n nz b lg e l q =
    let w = bytes-range (get_or g 0 0) in
    let p : 0 < h = omega (arith, nz) in
    let t : length (take h g) ≡ h = length-take-le h g (omega arith) in
    let r : record_bytes_of (kind_of (take h g ++ s)) ≡ record_bytes_of (get_or g 0 0) = ap record_bytes_of (kind-held h g s p (omega arith)) in
    (omega arith, omega arith, omega arith)

-- where they are held

pub holds : (c : C.Desk) (x g : List ℕ) (h : ℕ) → length c.begun ≡ 1601 → h ≡ held_count c → held_count c + length x ≤ 1601 → g ≡ paste c.begun h x (length x)
    → take (held_count c + length x) g ≡ take (held_count c) c.begun ++ x
holds c x g h lg e f q =
    ap (take (held_count c + length x)) (q ∙ ap (λ (k : ℕ). paste c.begun k x (length x)) e)
    ∙ take-paste c.begun (held_count c) x (length x) (omega arith) (omega arith)
    ∙ ap (λ (l : List ℕ). take (held_count c) c.begun ++ l) (take-length x)

-- A call of `advance`.

module _ (c m : C.Desk) (s : List ℕ) (t n : ℕ) (lg : length c.begun ≡ 1601) (te : t ≡ record_part (take (held_count c) c.begun) s) (pos : 0 < t)
    (fits : held_count c + t ≤ 1601) (ne : n ≡ held_count c + t) (ho : Holds c (take t s) m) where
  lt : length (take t s) ≡ t
  lt = length-take-le t s (omega arith)

  begun-is : take n m.begun ≡ take (held_count c) c.begun ++ take t s
  begun-is = let e : n ≡ held_count c + length (take t s) = omega (arith, lt) in ap (λ (k : ℕ). take k m.begun) e ∙ ho.bytes

  -- what is there of the record is no longer than the record
  part-fits : length (take (held_count c) c.begun) + length (take t s) ≤ record_bytes_of (kind_of (take (held_count c) c.begun ++ take t s))
  part-fits =
      let w = bytes-range (kind_of (take (held_count c) c.begun ++ s)) in
      let e = ap record_bytes_of (kind-part t (take (held_count c) c.begun) s pos) in
      omega (arith, lt)

  pub looks : (0 < n) × (n ≤ record_bytes_of (kind_of m.begun))
  looks =
      let k : kind_of m.begun ≡ kind_of (take (held_count c) c.begun ++ take t s) = sym (get_or-take n m.begun 0 0 (omega arith)) ∙ ap kind_of begun-is in
      let r = ap record_bytes_of k in
      let l : length (take (held_count c) c.begun) ≡ held_count c = length-take-le (held_count c) c.begun (omega arith) in
      let p = part-fits in
      (omega arith, omega (arith, lt))

  pub advances : (keep : List ℕ → List ℕ) (b left : List ℕ) (r : C.Desk) (l : Line) → ltb 1 c.stage ≡ false
      → Given m b (λ d. looked keep (with_held (take n m.begun) d)) r l left → Given c b (λ d. absorb keep d (take t s)) r l left
  advances keep b left r l ns g =
      record {
        desk =
            λ p.
            g.desk p
            ∙ ap (looked keep) (ho.rest p b (take n m.begun) ∙ ap (λ (h : List ℕ). with_held h (desk_view p b c)) begun-is)
            ∙ sym (absorb-part keep (desk_view p b c) (take t s) ns (omega (arith, lt)) part-fits);
        behind = g.behind;
      }

  pub takes : (b : List ℕ) → ltb 1 c.stage ≡ false → t ≡ taken (desk_view [] b c) s
  takes b ns = rw ns te

-- nothing is read
pub idles : (keep : List ℕ → List ℕ) (c : C.Desk) (b s : List ℕ) (r : Step) → ltb 1 c.stage ≡ true → r ≡ record { desk = c; took = length s; line = Nothing }
    → (Given c b (λ d. absorb keep d (take r.took s)) r.desk r.line b) × (r.took ≡ taken (desk_view [] b c) s)
idles keep c b s r st e =
    subst⁻¹ (λ (x : Step). (Given c b (λ d. absorb keep d (take x.took s)) x.desk x.line b) × (x.took ≡ taken (desk_view [] b c) s)) e (
      record {
        desk = λ p. (λ i. desk_view (unprinted p i) b c) ∙ sym (absorb-stopped keep (desk_view p b c) (take (length s) s) st);
        behind = unchanged c.table_length b;
      },
      rw st,
    )

-- there is nothing to read
pub waits : (keep : List ℕ → List ℕ) (c : C.Desk) (b s : List ℕ) (r : Step) → ltb 1 c.stage ≡ false → length s ≡ 0 → r ≡ record { desk = c; took = 0; line = Nothing }
    → (Given c b (λ d. absorb keep d (take r.took s)) r.desk r.line b) × (r.took ≡ taken (desk_view [] b c) s)
unfolding absorb
waits keep c b s r ns z e =
    subst⁻¹ (λ (x : Step). (Given c b (λ d. absorb keep d (take x.took s)) x.desk x.line b) × (x.took ≡ taken (desk_view [] b c) s)) e (
      record {
        desk = λ p. λ i. desk_view (unprinted p i) b c;
        behind = unchanged c.table_length b;
      },
      rw ns (omega arith),
    )

-- A call of `look`.

module _ (c : C.Desk) (n : ℕ) (lg : length c.begun ≡ 1601) (pre : (0 < n) × (n ≤ record_bytes_of (kind_of c.begun))) where
  pub inside : n ≤ length c.begun
  inside = let w = bytes-range (kind_of c.begun) in omega arith

  begun-length : length (take n c.begun) ≡ n
  begun-length = length-take-le n c.begun inside

  begun-kind : kind_of (take n c.begun) ≡ kind_of c.begun
  begun-kind = get_or-take n c.begun 0 0 pre.0

  pub looks-stop : (keep : List ℕ → List ℕ) (b left : List ℕ) (r : C.Desk) (l : Line) → true ≡ faulty c.stage (take n c.begun)
      → Given c b (stopped (Fault c.records)) r l left → Given c b (λ d. looked keep (with_held (take n c.begun) d)) r l left
  looks-stop keep b left r l f g =
      given-same (stopped (Fault c.records)) (λ d. looked keep (with_held (take n c.begun) d))
      (λ p. sym (looked-faulty keep (with_held (take n c.begun) (desk_view p b c)) (sym f))) g

  pub looks-short : (keep : List ℕ → List ℕ) (b : List ℕ) (r : C.Desk) (k : ℕ) → false ≡ faulty c.stage (take n c.begun) → k ≡ record_bytes_of (kind_of c.begun) → n < k
      → ((p : List ℕ) → desk_view p b r ≡ with_held (take (n % record_bytes_of (kind_of c.begun)) c.begun) (desk_view p b c))
      → Given c b (λ d. looked keep (with_held (take n c.begun) d)) r Nothing b
  looks-short keep b r k f ke l v =
      record {
        desk =
            λ p.
            (λ i. desk_view (unprinted p i) b r)
            ∙ v p
            ∙ ap (λ (j : ℕ). with_held (take j c.begun) (desk_view p b c)) (mod-eq_of_lt (let z : n < record_bytes_of (kind_of c.begun) = omega (arith, ke) in z))
            ∙ sym (looked-short keep (with_held (take n c.begun) (desk_view p b c)) (sym f) short);
        behind = unchanged r.table_length b;
      }
    where
      short : length (take n c.begun) < record_bytes_of (kind_of (take n c.begun))
      short = let e = ap record_bytes_of begun-kind in omega (arith, begun-length, ke)

  -- the record is whole
  module _ (f : false ≡ faulty c.stage (take n c.begun)) (k : ℕ) (ke : k ≡ record_bytes_of (kind_of c.begun)) (w : k ≤ n) where
    pub is_whole : (faulty c.stage (take n c.begun) ≡ false) × (length (take n c.begun) ≡ record_bytes_of (kind_of (take n c.begun)))
    is_whole = let e = ap record_bytes_of begun-kind in (sym f, omega (arith, begun-length, ke, pre.1, w))

    pub looks-whole : (keep : List ℕ → List ℕ) (b left : List ℕ) (r : C.Desk) (l : Line) → Given c b (λ d. settled keep (with_held (take n c.begun) d)) r l left
        → Given c b (λ d. looked keep (with_held (take n c.begun) d)) r l left
    looks-whole keep b left r l g =
        given-same (λ d. settled keep (with_held (take n c.begun) d)) (λ d. looked keep (with_held (take n c.begun) d))
        (λ p. sym (looked-whole keep (with_held (take n c.begun) (desk_view p b c)) (sym f) (let e = is_whole.1 in omega arith))) g

-- A call of `finish`.

pub ends-stopped : (c : C.Desk) → ltb 1 c.stage ≡ true → (p t : List ℕ) → finished (desk_view p t c) ≡ p ++ line_text Nothing
unfolding finished
ends-stopped c st p t = rw st (sym (unprinted p))

pub ends_open : (c : C.Desk) → c.stage ≡ 1 → held_count c ≡ 0 → (p t : List ℕ) → finished (desk_view p t c) ≡ p ++ line_text Nothing
unfolding finished
ends_open c st h p t = rw (st, h) (sym (unprinted p))

pub ends_held : (c : C.Desk) (h : ℕ) → length c.begun ≡ 1601 → c.stage ≡ 1 → h ≡ held_count c → h < 1601 → (h ≡ 0 → ⊥) → (p t : List ℕ)
    → finished (desk_view p t c) ≡ p ++ line_text (Fault c.records)
unfolding finished
ends_held c h lg st he b nz p t =
    let l : length (take (held_count c) c.begun) ≡ h = length-take-le (held_count c) c.begun (omega arith) ∙ sym he in
    rw (st, l, ne_eqb h 0 nz)

pub ends-early : (c : C.Desk) → ltb 1 c.stage ≡ false → (c.stage ≡ 1 → ⊥) → (p t : List ℕ) → finished (desk_view p t c) ≡ p ++ line_text (Fault c.records)
unfolding finished
ends-early c ns n p t = rw (ns, ne_eqb c.stage 1 n)
