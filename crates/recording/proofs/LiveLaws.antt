-- The statement Live holds: a good recording is read record by record; and what is printed where a record behind it is spoiled, or where
-- the opening is refused, by 12 at the 65th entry too. Assumes nothing.
use Rattle.std.specs.Prelude.{◌≡◌, ℕ, ◌+◌, ◌*◌, ◌^◌, ◌<◌, ◌≤◌, Bool, true, false, cond, ◌&&◌, ◌⊎◌, List, [], ◌∷◌, ◌++◌, map, length, take, drop, ◌==◌}
use Rattle.std.proofs.Math.Path.{refl, ap, subst⁻¹}
use Rattle.std.proofs.Common.{sym, ◌∙◌, subst, append_assoc, append-nil, inl, inr, arith, mod-eq_of_lt, length-take, take-append-drop, get_or-take}
use borrow.Author.Tests.{le-ltb, lt-ltb, ne_eqb, eqb-true}
use Rattle.octets.specs.Each.{Each}
use Rattle.keys.specs.Entry.{is_family_of}
use Rattle.keys.specs.Table.{loaded}
use Rattle.keys.specs.declared.table.TableKind.TheVariants.{Keys}
use Rattle.keys.specs.Table.{Loaded}
use Rattle.std.specs.Prelude.{Ok, Err}
use Rattle.keys.specs.Table.{fault}
use Rattle.tables.specs.declared.Index.{Index}
use Rattle.tables.specs.Tables.{Tables, send_entry, recv_entry}
use Rattle.tables.proofs.LimitLaws.{limit-refused, refused-limit}
use Rattle.rules.specs.declared.Outcome.{Outcome}
use Rattle.rules.specs.declared.Outcome.TheVariants.{Good, Passed, Bad}
use Rattle.rules.specs.declared.State.{State}
use Rattle.rules.specs.declared.Connection.{Connection}
use Rattle.rules.specs.Connection.{Arrival, arrival_of, local_address, remote_address, is_open_of, is_md5_of, with_counted_of, with_accepted_of}
use Rattle.rules.specs.Calls.{unrefused, check, next_on_lem, after_judging_of, judged}
use Rattle.rules.specs.Demand3.{judge_all}
use Rattle.recording.specs.declared.line.Line.TheVariants.{Fault, Refused}
use Rattle.recording.specs.Lines.{digits, decimal, verdict_line_of, line_text}
use Rattle.recording.specs.Recording.{kind_of, record_bytes_of, entry_length, entry_bytes, used_length, segment_bytes, next, Desk, start, is_stopped, with_held, faulty, stopped}
use Rattle.recording.specs.Recording.{desk_tables, open_pair_of, send_id_of, ask_id_of, open_outcome_of, open_state_of, at_opening_of, opened_by_lem, judged_on, entered, settled}
use Rattle.recording.specs.Recording.{looked, absorb, finished, whole, desk_text}
use Rattle.recording.proofs.RecordingLaws.{absorb-append, absorb-stopped, absorb-part, looked-faulty, looked-short, looked-whole}
use Rattle.recording.specs.Live.{IsEntry, IsOpening, IsSegment, joined, table_of, arrivals, lines_from, Live}
use Rattle.recording.specs.Live.{Spoiled, LiveStopped, SpoiledEntry, EntriesStopped, OpeningRefused, DeskLimit, LimitDesk, LimitPrinted}

-- one whole record

read-record : (d : Desk) (r : List ℕ) → is_stopped d ≡ false → d.held ≡ [] → faulty d.stage r ≡ false → length r ≡ record_bytes_of (kind_of r) → 0 < length r
    → absorb whole d r ≡ settled whole (with_held r d)
read-record d r ns h f l p =
    let e : d.held ++ r ≡ r = ap (λ (x : List ℕ). x ++ r) h in
    let k = ap (λ (x : List ℕ). record_bytes_of (kind_of x)) e in
    let z : length d.held ≡ 0 = ap length h in
    absorb-part whole d r ns p (omega arith)
    ∙ ap (λ (x : List ℕ). looked whole (with_held x d)) e
    ∙ looked-whole whole (with_held r d) f (omega arith)

-- entries

entry_read : (d : Desk) (r : List ℕ) → d.stage ≡ 0 → d.held ≡ [] → IsEntry r → absorb whole d r ≡ entered whole (with_held r d)
unfolding faulty record_bytes_of settled
entry_read d r s h e =
    read-record d r (rw s) h (rw (s, e.kind, le-ltb _ _ e.fits)) (rw e.kind e.size) (omega (arith, e.size)) ∙ rw e.kind

-- a desk that has read entries alone
record Entered (d : Desk) (t : List ℕ) : Type 0 where
  stage : d.stage ≡ 0
  held : d.held ≡ []
  table : d.table ≡ t
  segments : d.segments ≡ 0
  printed : d.printed ≡ []

entries-read : (l : List (List ℕ)) (d : Desk) (t : List ℕ) → Each IsEntry l → Entered d t → Entered (absorb whole d (joined l)) (t ++ table_of l)
unfolding absorb
entries-read [] d t e n = record { stage = n.stage; held = n.held; table = n.table ∙ sym (append-nil t); segments = n.segments; printed = n.printed }
entries-read (r ∷ l) d t e n =
    let a = entry_read d r n.stage n.held e.0 in
    let m : Entered (entered whole (with_held r d)) (t ++ entry_bytes r) =
    record { stage = n.stage; held = refl; table = ap (λ (x : List ℕ). x ++ entry_bytes r) n.table; segments = n.segments; printed = n.printed } in
    subst⁻¹ (λ (x : Desk). Entered x (t ++ (entry_bytes r ++ table_of l))) (absorb-append whole d r (joined l) ∙ ap (λ (x : Desk). absorb whole x (joined l)) a)
    (subst (Entered (absorb whole (entered whole (with_held r d)) (joined l))) (append_assoc t (entry_bytes r) (table_of l))
    (entries-read l (entered whole (with_held r d)) (t ++ entry_bytes r) e.1 m))

-- how many records there are, where they are fewer than 2^64

one_more : (r n : ℕ) → r ≡ n → n + 1 < 2 ^ 64 → next r ≡ n + 1
one_more r n e h = ap next e ∙ mod-eq_of_lt h

entries-count : (l : List (List ℕ)) (d : Desk) (n : ℕ) → Each IsEntry l → d.stage ≡ 0 → d.held ≡ [] → d.records ≡ n → n + length l < 2 ^ 64
    → (absorb whole d (joined l)).records ≡ n + length l
unfolding absorb
entries-count [] d n e s h r b = r ∙ (let z : n ≡ n + 0 = omega arith in z)
entries-count (x ∷ l) d n e s h r b =
    ap (λ (y : Desk). y.records) (absorb-append whole d x (joined l) ∙ ap (λ (y : Desk). absorb whole y (joined l)) (entry_read d x s h e.0))
    ∙ entries-count l (entered whole (with_held x d)) (n + 1) e.1 s refl (one_more d.records n r (omega arith)) (omega arith)
    ∙ (let z : n + 1 + length l ≡ n + length (x ∷ l) = omega arith in z)

-- segments

-- judging on an open connection leaves what it is
judged-conn : (t : Tables) (a : Arrival) (q : State) → is_open_of q.conn ≡ true → (judged t a q).state.conn ≡ q.conn
unfolding judged
judged-conn t a q o = go (check t q.conn q.seen a)
  where
    either : (x k : ℕ) (md5 : Bool) → (cond md5 (with_counted_of q) (with_accepted_of x k q)).conn ≡ q.conn
    either x k true = refl
    either x k false = refl

    go : (c : Outcome) → (after_judging_of t q c).conn ≡ q.conn
    go (Good x r) = rw o (either x (next_on_lem t q r) (is_md5_of q.conn))
    go Passed = refl
    go (Bad n i) = rw o

segment-read : (d : Desk) (r : List ℕ) → d.stage ≡ 1 → d.held ≡ [] → IsSegment r → absorb whole d r ≡ judged_on (with_held r d)
unfolding faulty record_bytes_of settled
segment-read d r s h e =
    read-record d r (rw s) h (rw (s, e.kind, le-ltb _ _ e.fits)) (rw e.kind e.size) (omega (arith, e.size)) ∙ rw e.kind

segments-count : (l : List (List ℕ)) (d : Desk) (n : ℕ) → Each IsSegment l → d.stage ≡ 1 → d.held ≡ [] → d.records ≡ n → n + length l < 2 ^ 64
    → (absorb whole d (joined l)).records ≡ n + length l
unfolding absorb
segments-count [] d n e s h r b = r ∙ (let z : n ≡ n + 0 = omega arith in z)
segments-count (x ∷ l) d n e s h r b =
    ap (λ (y : Desk). y.records) (absorb-append whole d x (joined l) ∙ ap (λ (y : Desk). absorb whole y (joined l)) (segment-read d x s h e.0))
    ∙ segments-count l (judged_on (with_held x d)) (n + 1) e.1 s refl (one_more d.records n r (omega arith)) (omega arith)
    ∙ (let z : n + 1 + length l ≡ n + length (x ∷ l) = omega arith in z)

record Open (d : Desk) (t : List ℕ) (c : Connection) : Type 0 where
  stage : d.stage ≡ 1
  held : d.held ≡ []
  table : d.table ≡ t
  conn : d.state.conn ≡ c

abbrev from : Connection → List ℕ → Arrival
from c r = arrival_of (remote_address c.pair) (local_address c.pair) (segment_bytes r)

segments-read : (l : List (List ℕ)) (d : Desk) (t : List ℕ) (c : Connection) → Each IsSegment l → is_open_of c ≡ true → Open d t c
    → Open (absorb whole d (joined l)) t c
    × ((absorb whole d (joined l)).printed ≡ d.printed ++ lines_from d.segments (judge_all (desk_tables t) d.state (map (from c) l)).verdicts)
unfolding absorb
segments-read [] d t c e o n = (n, sym (append-nil d.printed))
segments-read (r ∷ l) d t c e o n =
    let a = segment-read d r n.stage n.held e.0 ∙ same in
    let m : Open next-desk t c =
    record { stage = n.stage; held = refl; table = n.table; conn = judged-conn (desk_tables t) (from c r) d.state (ap is_open_of n.conn ∙ o) ∙ n.conn } in
    let p = segments-read l next-desk t c e.1 o m in
    subst⁻¹
    (λ (x : Desk).
    Open x t c
    × (x.printed ≡ d.printed ++ (line_text (verdict_line_of d.segments (judged (desk_tables t) (from c r) d.state).verdict) ++ rest)))
    (absorb-append whole d r (joined l) ∙ ap (λ (x : Desk). absorb whole x (joined l)) a) (p.0, p.1 ∙ append_assoc d.printed _ rest)
  where
    next-desk : Desk
    next-desk =
        record {
          stage = d.stage;
          table = d.table;
          held = [];
          records = next d.records;
          segments = next d.segments;
          state = (judged (desk_tables t) (from c r) d.state).state;
          printed = d.printed ++ line_text (verdict_line_of d.segments (judged (desk_tables t) (from c r) d.state).verdict);
        }

    rest : List ℕ
    rest = lines_from (next d.segments) (judge_all (desk_tables t) (judged (desk_tables t) (from c r) d.state).state (map (from c) l)).verdicts

    same : judged_on (with_held r d) ≡ next-desk
    same =
        λ i.
        record {
          stage = d.stage;
          table = d.table;
          held = [];
          records = next d.records;
          segments = next d.segments;
          state = (judged (desk_tables (n.table i)) (from (n.conn i) r) d.state).state;
          printed = d.printed ++ line_text (verdict_line_of d.segments (judged (desk_tables (n.table i)) (from (n.conn i) r) d.state).verdict);
        }

-- the opening between them

opening-read : (d : Desk) (o : List ℕ) (t : List ℕ) → Entered d t → IsOpening o → open_outcome_of t o ≡ unrefused
    → absorb whole d o ≡ at_opening_of d (open_state_of o)
unfolding faulty record_bytes_of settled
opening-read d o t n e k =
    read-record d o (rw n.stage) n.held (rw (n.stage, e.kind)) (rw e.kind e.size) (omega (arith, e.size))
    ∙ rw e.kind (ap (opened_by_lem (with_held o d)) (ap (λ (x : List ℕ). open_outcome_of x o) n.table ∙ k))

ends-well : (d : Desk) → d.stage ≡ 1 → d.held ≡ [] → finished d ≡ d.printed
unfolding finished
ends-well d s h = rw (s, h)

-- what stands behind the segments of a good recording is read by a desk that is open

record Behind (es : List (List ℕ)) (o : List ℕ) (ss : List (List ℕ)) (d : Desk) : Type 0 where
  stage : d.stage ≡ 1
  held : d.held ≡ []
  printed : d.printed ≡ lines_from 0 (judge_all (desk_tables (table_of es)) (open_state_of o) (arrivals o ss)).verdicts
  records : length es + 1 + length ss < 2 ^ 64 → d.records ≡ length es + 1 + length ss

all_read : (es : List (List ℕ)) (o : List ℕ) (ss : List (List ℕ)) → Each IsEntry es → IsOpening o → Each IsSegment ss
    → open_outcome_of (table_of es) o ≡ unrefused → Behind es o ss (absorb whole start (joined es ++ (o ++ joined ss)))
all_read es o ss ee oe se k =
    let n : Entered (absorb whole start (joined es)) (table_of es) =
    entries-read es start [] ee (record { stage = refl; held = refl; table = refl; segments = refl; printed = refl }) in
    let d = absorb whole start (joined es) in
    let m = at_opening_of d (open_state_of o) in
    let p = segments-read ss m (table_of es) (open_state_of o).conn se refl (record { stage = refl; held = refl; table = n.table; conn = refl }) in
    let all : absorb whole start (joined es ++ (o ++ joined ss)) ≡ absorb whole m (joined ss) =
    absorb-append whole start (joined es) (o ++ joined ss)
    ∙ absorb-append whole d o (joined ss)
    ∙ ap (λ (x : Desk). absorb whole x (joined ss)) (opening-read d o (table_of es) n oe k) in
    subst⁻¹ (Behind es o ss) all
    (record {
      stage = p.0.stage;
      held = p.0.held;
      printed =
          p.1
          ∙ (λ i. n.printed i ++ lines_from (n.segments i) (judge_all (desk_tables (table_of es)) (open_state_of o) (map (from (open_state_of o).conn) ss)).verdicts);
      records =
          λ h.
          segments-count ss m (length es + 1) se refl refl
          (one_more d.records (length es) (entries-count es start 0 ee refl refl refl (omega arith) ∙ (let z : 0 + length es ≡ length es = omega arith in z)) (omega arith)) h;
    })

pub live : Live
live es o ss ee oe se k =
    let b = all_read es o ss ee oe se k in
    ends-well (absorb whole start (joined es ++ (o ++ joined ss))) b.stage b.held ∙ b.printed

-- a record that is spoiled

bytes-least : (k : ℕ) → 48 ≤ record_bytes_of k
unfolding record_bytes_of
bytes-least k = go (k == 1) (k == 2) refl refl
  where
    go : (a b : Bool) → (k == 1) ≡ a → (k == 2) ≡ b → 48 ≤ record_bytes_of k
    go true b p q = rw p (omega arith)
    go false true p q = rw (p, q) (omega arith)
    go false false p q = rw (p, q) (omega arith)

and-false : (b : Bool) → (b && false) ≡ false
and-false true = refl
and-false false = refl

module _ (d : Desk) (ns : is_stopped d ≡ false) (h : d.held ≡ []) where
  -- what is printed where the record is spoiled
  abbrev Stops : List ℕ → Type 0
  Stops r = finished (absorb whole d r) ≡ d.printed ++ line_text (Fault d.records)

  -- bytes of one record
  part-read : (x : List ℕ) → 0 < length x → length x ≤ record_bytes_of (kind_of x) → absorb whole d x ≡ looked whole (with_held x d)
  part-read x l f =
      let e : d.held ++ x ≡ x = ap (λ (y : List ℕ). y ++ x) h in
      let k = ap (λ (y : List ℕ). record_bytes_of (kind_of y)) e in
      let z : length d.held ≡ 0 = ap length h in
      absorb-part whole d x ns l (omega arith) ∙ ap (λ (y : List ℕ). looked whole (with_held y d)) e

  -- a fault in its first bytes
  fault-read : (x y : List ℕ) → 0 < length x → length x ≤ record_bytes_of (kind_of x) → faulty d.stage x ≡ true → Stops (x ++ y)
  unfolding finished
  fault-read x y l f g =
      ap finished
      (absorb-append whole d x y
      ∙ ap (λ (z : Desk). absorb whole z y) (part-read x l f ∙ looked-faulty whole (with_held x d) g)
      ∙ absorb-stopped whole (stopped (Fault d.records) (with_held x d)) y refl)

  first-fault : (k : ℕ) (r : List ℕ) → 0 < k → k ≤ 48 → 0 < length r → faulty d.stage (take k r) ≡ true → Stops r
  first-fault k r a b l g =
      let t = length-take k r in
      let w = bytes-least (kind_of (take k r)) in
      ap (λ (x : List ℕ). finished (absorb whole d x)) (sym (take-append-drop k r))
      ∙ fault-read (take k r) (drop k r) (omega arith) (omega arith) g

  -- it is cut
  cut-read : (r : List ℕ) → 0 < length r → length r < record_bytes_of (kind_of r) → Stops r
  unfolding finished
  cut-read r l f = go (faulty d.stage r) refl
    where
      go : (b : Bool) → faulty d.stage r ≡ b → Stops r
      go true q = ap finished (part-read r l (omega arith) ∙ looked-faulty whole (with_held r d) q)
      go false q =
          ap finished (part-read r l (omega arith) ∙ looked-short whole (with_held r d) q f)
          ∙ rw (ns, ne_eqb (length r) 0 (λ e. omega arith), and-false (d.stage == 1))

kind-of : (k : ℕ) (r : List ℕ) → 0 < k → kind_of (take k r) ≡ kind_of r
kind-of k r a = get_or-take k r 0 0 a

spoiled-read : (d : Desk) (r : List ℕ) → d.stage ≡ 1 → d.held ≡ [] → 0 < length r → Spoiled r
    → finished (absorb whole d r) ≡ d.printed ++ line_text (Fault d.records)
unfolding faulty record_bytes_of
spoiled-read d r s h l p = go (kind_of r == 3) refl p
  where
    go : (b : Bool) → (kind_of r == 3) ≡ b → Spoiled r → finished (absorb whole d r) ≡ d.printed ++ line_text (Fault d.records)
    go false q e = first-fault d (rw s) h 1 r (omega arith) (omega arith) l (rw (s, kind-of 1 r (omega arith), q))
    go true q (inl n) = absurd (n (eqb-true (kind_of r) 3 q))
    go true q (inr (inl u)) =
        let k = kind-of 3 r (omega arith) ∙ eqb-true (kind_of r) 3 q in
        let v : used_length (take 3 r) ≡ used_length r = λ i. get_or-take 3 r 1 0 (omega arith) i * 2 ^ 8 + get_or-take 3 r 2 0 (omega arith) i in
        first-fault d (rw s) h 3 r (omega arith) (omega arith) l (rw (s, k, v, lt-ltb 1598 (used_length r) u))
    go true q (inr (inr c)) = cut-read d (rw s) h r l (rw (eqb-true (kind_of r) 3 q) c)

entry-spoiled : (d : Desk) (r : List ℕ) → d.stage ≡ 0 → d.held ≡ [] → 0 < length r → SpoiledEntry r
    → finished (absorb whole d r) ≡ d.printed ++ line_text (Fault d.records)
unfolding faulty record_bytes_of
entry-spoiled d r s h l (inl n) =
    first-fault d (rw s) h 1 r (omega arith) (omega arith) l
    (rw (s, kind-of 1 r (omega arith), ne_eqb (kind_of r) 1 n.0, ne_eqb (kind_of r) 2 n.1))
entry-spoiled d r s h l (inr (inl (k, inl u))) =
    let v : entry_length (take 2 r) ≡ entry_length r = get_or-take 2 r 1 0 (omega arith) in
    let z = kind-of 2 r (omega arith) ∙ k in
    first-fault d (rw s) h 2 r (omega arith) (omega arith) l (rw (s, z, v, lt-ltb 129 (entry_length r) u))
entry-spoiled d r s h l (inr (inl (k, inr c))) = cut-read d (rw s) h r l (rw k c)
entry-spoiled d r s h l (inr (inr (k, c))) = cut-read d (rw s) h r l (rw k c)

-- an end before the opening
early : (d : Desk) → d.stage ≡ 0 → finished (absorb whole d []) ≡ d.printed ++ line_text (Fault d.records)
unfolding finished absorb
early d s = rw s

pub entries-stopped : EntriesStopped
entries-stopped es rest ee few p =
    let n : Entered (absorb whole start (joined es)) (table_of es) =
    entries-read es start [] ee (record { stage = refl; held = refl; table = refl; segments = refl; printed = refl }) in
    let d = absorb whole start (joined es) in
    let c : d.records ≡ length es = entries-count es start 0 ee refl refl refl (omega arith) ∙ (let z : 0 + length es ≡ length es = omega arith in z) in
    ap finished (absorb-append whole start (joined es) rest)
    ∙ ends d rest n.stage n.held p
    ∙ (λ i. n.printed i ++ line_text (Fault (c i)))
  where
    ends : (d : Desk) (r : List ℕ) → d.stage ≡ 0 → d.held ≡ [] → (length r ≡ 0) ⊎ SpoiledEntry r
        → finished (absorb whole d r) ≡ d.printed ++ line_text (Fault d.records)
    ends d [] s h e = early d s
    ends d (b ∷ r) s h (inl e) = absurd (omega arith)
    ends d (b ∷ r) s h (inr e) = entry-spoiled d (b ∷ r) s h (omega arith) e

pub live-stopped : LiveStopped
live-stopped es o ss rest ee oe se k few l p =
    let b = all_read es o ss ee oe se k in
    let d = absorb whole start (joined es ++ (o ++ joined ss)) in
    let parts : joined es ++ (o ++ (joined ss ++ rest)) ≡ (joined es ++ (o ++ joined ss)) ++ rest =
    ap (λ (x : List ℕ). joined es ++ x) (sym (append_assoc o (joined ss) rest)) ∙ sym (append_assoc (joined es) (o ++ joined ss) rest) in
    ap desk_text parts
    ∙ ap finished (absorb-append whole start (joined es ++ (o ++ joined ss)) rest)
    ∙ spoiled-read d rest b.stage b.held l p
    ∙ (λ i. b.printed i ++ line_text (Fault (b.records few i)))

-- an opening that is refused

stops_at : (d : Desk) (o : List ℕ) (t : List ℕ) (n : ℕ) (i : Index) → Entered d t → IsOpening o → open_outcome_of t o ≡ Bad n i
    → absorb whole d o ≡ stopped (Refused n) (with_held o d)
unfolding faulty record_bytes_of settled
stops_at d o t n i m e k =
    read-record d o (rw m.stage) m.held (rw (m.stage, e.kind)) (rw e.kind e.size) (omega (arith, e.size))
    ∙ rw e.kind (ap (opened_by_lem (with_held o d)) (ap (λ (x : List ℕ). open_outcome_of x o) m.table ∙ k))

pub opening-refused : OpeningRefused
unfolding finished
opening-refused es o rest n i ee oe k =
    let m : Entered (absorb whole start (joined es)) (table_of es) =
    entries-read es start [] ee (record { stage = refl; held = refl; table = refl; segments = refl; printed = refl }) in
    let d = absorb whole start (joined es) in
    ap finished
    (absorb-append whole start (joined es) (o ++ rest)
    ∙ absorb-append whole d o rest
    ∙ ap (λ (x : Desk). absorb whole x rest) (stops_at d o (table_of es) n i m oe k)
    ∙ absorb-stopped whole (stopped (Refused n) (with_held o d)) rest refl)
    ∙ ap (λ (x : List ℕ). x ++ line_text (Refused n)) m.printed

-- 12

pub desk-limit : DeskLimit
unfolding open_outcome_of
desk-limit u s o b f v = rw (f, limit-refused Keys 64 u s b v)

pub limit-desk : LimitDesk
unfolding open_outcome_of
limit-desk t o i e =
    go (is_family_of (open_pair_of o).family) (loaded Keys 64 t) (send_entry (desk_tables t) (open_pair_of o) (send_id_of o)).there
    (recv_entry (desk_tables t) (open_pair_of o) (ask_id_of o)).there refl refl refl refl
  where
    go : (f : Bool) (l : Loaded) (x y : Bool) → is_family_of (open_pair_of o).family ≡ f → loaded Keys 64 t ≡ l
        → (send_entry (desk_tables t) (open_pair_of o) (send_id_of o)).there ≡ x → (recv_entry (desk_tables t) (open_pair_of o) (ask_id_of o)).there ≡ y
        → (i ≡ record { table = 0; entry = 64 })
        × (u : List ℕ) × (b : ℕ) × (s : List ℕ) × (t ≡ u ++ (b ∷ s)) × (loaded Keys 64 u ≡ Ok 64)
    go false l x y p q a b = let z : ◌≡◌ {A = ℕ} 12 18 = cc (rw p at e) in absurd (omega arith)
    go true (Err f) x y p q a b =
        let z : Bad f.number (record { table = 0; entry = f.index }) ≡ Bad 12 i = rw (p, q) at e in
        let w : f.number ≡ 12 = cc in
        let v : record { table = 0; entry = f.index } ≡ i = cc in
        let r = refused-limit Keys 64 f.index t (q ∙ ap (λ (m : ℕ). fault m f.index) w) in
        (sym v ∙ ap (λ (m : ℕ). record { table = 0; entry = m }) r.0, r.1, r.2, r.3, r.4, r.5)
    go true (Ok n) false y p q a b = let z : ◌≡◌ {A = ℕ} 12 35 = cc (rw (p, q, a) at e) in absurd (omega arith)
    go true (Ok n) true false p q a b = let z : ◌≡◌ {A = ℕ} 12 35 = cc (rw (p, q, a, b) at e) in absurd (omega arith)
    go true (Ok n) true true p q a b = let z : ◌≡◌ {A = ℕ} 0 1 = cc (rw (p, q, a, b) at e) in absurd (omega arith)

pub limit-printed : LimitPrinted
unfolding line_text decimal digits
limit-printed es o rest u s b ee oe f e v =
    opening-refused es o rest 12 (record { table = 0; entry = 64 }) ee oe (ap (λ (t : List ℕ). open_outcome_of t o) e ∙ desk-limit u s o b f v)
