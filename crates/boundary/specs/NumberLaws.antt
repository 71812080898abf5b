-- Every call's number and value fit their bits, and the number tells what it should: the statements of Numbers.antt, proved. Assumes
-- nothing.
use Rattle.std.specs.Prelude.{ℕ, ◌^◌, ◌%◌, ◌≤◌, ◌<◌, ◌≡◌, refl, Bool, true, false, cond, not, ◌&&◌, ◌||◌, List, length, eqb, ltb, leb}
use Rattle.std.proofs.Common.{subst, ap, ◌∙◌, arith, ltb-true, lt-ltb, ne_eqb, eqb-true}
use Rattle.std.proofs.Math.Path.{subst⁻¹}
use Rattle.keys.specs.declared.entry.Pair.{Pair}
use Rattle.keys.proofs.MatchLaws.{and-true}
use Rattle.tables.specs.declared.Index.{Index}
use Rattle.tables.specs.Tables.{Admitted}
use Rattle.std.specs.Prelude.{Ok, Err}
use Rattle.tables.specs.Tables.{refused_with}
use Rattle.tables.proofs.ValidLaws.{valid-count}
use Rattle.tables.specs.Preparing.{prepared_length, prepare_answer}
use Rattle.tables.specs.Tables.{no_index, admitted, max_entries, send_entry, md5_entry, any_entry}
use Rattle.rules.specs.declared.Outcome.{Outcome}
use Rattle.rules.specs.declared.Outcome.TheVariants.{Good, Passed, Bad}
use Rattle.rules.specs.declared.Verdict.{Verdict}
use Rattle.rules.specs.declared.Verdict.TheVariants.{Accept, Pass, Drop}
use Rattle.rules.specs.Signing.{Signing}
use Rattle.rules.specs.Signing as S
use Rattle.rules.specs.Done.{Done}
use Rattle.rules.specs.Done as D
use Rattle.rules.specs.declared.Connection.{Connection}
use Rattle.rules.specs.declared.State.{State}
use Rattle.octets.specs.Tests.{Test, first}
use Rattle.octets.specs.TestLaws.{each_gives, first_passes}
use Rattle.rules.specs.Answers.{Answer, answer, refused, table_answer, verdict_answer, signing_answer, done_answer}
use Rattle.rules.specs.Connection.{Arrival, arrival_pair_of, pair_of_lem, is_md5_of, empty}
use Rattle.rules.specs.Calls.{syn_is_md5, refuse, is_refused, refusal, verdict_of_lem, index_of, judge_tests, check, judged, judge_syn_tests, check_syn_of}
use Rattle.rules.specs.Calls.{judged_syn, opened_passively, unrefused, settled_by_lem, open_tests, opened_with, opened_actively, opened_md5_with, opened_actively_md5}
use Rattle.rules.specs.Calls.{ask_tests, asked}
use Rattle.rules.specs.Calls.{outgoing, sign_tests, check_sign, signed}
use Rattle.rules.proofs.GroupLaws.{unknown-passes}
use Rattle.rules.proofs.SigningLaws.{signs-good}
use Rattle.rules.specs.History.{judge, sign, ask}
use Rattle.rules.specs.Refusals.{on, judge_syn_of, open_passively, open_actively, open_actively_md5, by_verdict, by_signing}
use Rattle.rules.specs.Lent.{Lent, tables}
use Rattle.rules.specs.GivenNumbers.{among, table_numbers, Bounded, is_pass}
use Rattle.rules.proofs.GivenNumberLaws.{among-every, checked-within, refused-bounds, table-bounds, judge-never-passes}
use Rattle.states.specs.Layout.{is_state_of}
use Rattle.boundary.specs.Word.{word, of_judged, of_signed, of_settled}
use Rattle.boundary.specs.WordLaws.{reads}
use Rattle.boundary.specs.Exports.{answered, accepts, opens}
use Rattle.boundary.specs.Numbers.{table_number, together, Fits, Verdicts, answer_of, signs, is_done, is_passed, Tells}
use Rattle.boundary.specs.Numbers.{TableFits, PrepareFits, JudgedFits, JudgedSynFits, OpenedFits, AskedFits, ActiveFits, ActiveMd5Fits, SignedFits}
use Rattle.boundary.specs.Numbers.{AnsweredReads, NumberTells, NumberFits, WordTells, AnsweredTells, TableTells, PrepareTells}

-- The key table.

table-number : (n : ℕ) → among n table_numbers ≡ true → (eqb n 44 || table_number n) ≡ true
table-number n e = among-every (λ (m : ℕ). eqb m 44 || table_number m) n table_numbers refl e

number-below : (n : ℕ) → among n table_numbers ≡ true → n < 2 ^ 8
number-below n e = ltb-true n (2 ^ 8) (among-every (λ (m : ℕ). ltb m (2 ^ 8)) n table_numbers refl e)

either : (a b c : Bool) → c ≡ true → (a || (b || c)) ≡ true
either true b c e = refl
either false true c e = refl
either false false c e = e

or_right : (a b : Bool) → b ≡ true → (a || b) ≡ true
or_right true b e = refl
or_right false b e = e

both : (a b : Bool) → a ≡ true → b ≡ true → (a && b) ≡ true
both true b p q = q
both false b p q = p

-- beside a table's number any index may stand
named : (n : ℕ) (i : Index) → table_number n ≡ true → together (refused n i) ≡ true
named n i e = both (eqb n 0 || (eqb i.entry 0 || table_number n)) _ (either (eqb n 0) (eqb i.entry 0) _ e) (or_right (eqb i.table 0) _ e)

-- beside 44 none does
indexed : (n : ℕ) (i : Index) → among n table_numbers ≡ true → (n ≡ 44 → i ≡ no_index) → together (refused n i) ≡ true
indexed n i e h = go (eqb n 44) refl (table-number n e)
  where
    go : (b : Bool) → eqb n 44 ≡ b → (eqb n 44 || table_number n) ≡ true → together (refused n i) ≡ true
    go true q k = let z = eqb-true n 44 q in λ j. together (refused (z j) (h z j))
    go false q k = named n i (rw q at k)

loaded-fits : (o : Admitted) → Bounded max_entries o → Fits (table_answer o)
unfolding table_answer
loaded-fits (Ok n) w = record { number = omega arith; table = omega arith; value = omega arith; together = refl }
loaded-fits (Err r) w =
    record {
      number = number-below r.number w.0;
      table = omega (arith, w.1);
      value = omega (arith, w.2);
      together = indexed r.number r.index w.0 w.3;
    }

pub table_fits : TableFits
table_fits t = loaded-fits (tables t).answer (checked-within t)

-- preparing gives the tables' refusal, 37, or a length that fits
record Prepares (o : Admitted) : Type 0 where
  fitting : Fits (table_answer o)
  bounds : (n : ℕ) (i : Index) → o ≡ refused_with n i → (10 ≤ n) × (n ≤ 45)

abbrev number_in : Admitted → ℕ
number_in (Ok n) = 0
number_in (Err r) = r.number

prepares : (k m : List ℕ) (room : ℕ) → Prepares (prepare_answer k m room)
unfolding prepare_answer table_answer
prepares k m room = go (admitted k m) (leb (prepared_length k m) room) refl refl
  where
    b : Lent
    b = record { form = 0; keys = k; md5 = m }

    go : (o : Admitted) (c : Bool) → admitted k m ≡ o → leb (prepared_length k m) room ≡ c → Prepares (prepare_answer k m room)
    go (Err r) c p q =
        let w : Bounded max_entries (refused_with r.number r.index) = rw p at (checked-within b) in
        rw p (record { fitting = loaded-fits (refused_with r.number r.index) w; bounds = λ j x e. table-bounds b j x (p ∙ e) })
    go (Ok n) false p q =
        rw (p, q)
        (record {
          fitting = record { number = omega arith; table = omega arith; value = omega arith; together = refl };
          bounds = λ j x e. (let z : 37 ≡ j = ap number_in e in (omega arith, omega arith));
        })
    go (Ok n) true p q =
        let c = valid-count 0 k m n p in
        let x = c.0 in
        let y = c.1 in
        let z = c.2 in
        rw (p, q)
        (record {
          fitting = record { number = omega arith; table = omega arith; value = omega (arith, x, y, z); together = refl };
          bounds = λ j x e. (let z : ◌≡◌ {A = ℕ} 0 1 = cc in absurd (omega arith));
        })

pub prepare-fits : PrepareFits
prepare-fits k m room = (prepares k m room).fitting

-- What the tests of a call come to.

abbrev fits : Outcome → Bool
fits (Good x r) = true
fits Passed = true
fits (Bad n i) = ltb n (2 ^ 8) && (ltb i.table (2 ^ 8) && (ltb i.entry (2 ^ 32) && together (refused n i)))

refusal-fits : (t : Lent) → fits (refusal (tables t).answer) ≡ true
refusal-fits t = go (tables t).answer (checked-within t)
  where
    go : (o : Admitted) → Bounded max_entries o → fits (refusal o) ≡ true
    go (Ok n) w = refl
    go (Err r) w =
        both (ltb r.number (2 ^ 8)) _ (lt-ltb r.number (2 ^ 8) (number-below r.number w.0))
        (both (ltb r.index.table (2 ^ 8)) _ (lt-ltb r.index.table (2 ^ 8) (omega (arith, w.1)))
        (both (ltb r.index.entry (2 ^ 32)) _ (lt-ltb r.index.entry (2 ^ 32) (omega (arith, w.2))) (indexed r.number r.index w.0 w.3)))

refused-fits : (b : Bool) (n : ℕ) → fits (refuse n) ≡ true → fits (cond b (refuse n) Passed) ≡ true
refused-fits true n e = e
refused-fits false n e = refl

check-fits : (t : Lent) (l : Connection) (reference : ℕ) (a : Arrival) → fits (check (tables t) l reference a) ≡ true
unfolding check
check-fits t l reference a = go (is_md5_of l) refl
  where
    go : (m : Bool) → is_md5_of l ≡ m → fits (check (tables t) l reference a) ≡ true
    go true e = first_passes fits (judge_tests (tables t) l reference a) _ (rw (refusal-fits t, e)) refl
    go false e = first_passes fits (judge_tests (tables t) l reference a) _ (rw (refusal-fits t, e)) refl

check_syn-fits : (t : Lent) (a : Arrival) (strict : Bool) → fits (check_syn_of (tables t) a strict) ≡ true
unfolding check_syn_of
check_syn-fits t a strict = go (syn_is_md5 (tables t) (arrival_pair_of a)) refl
  where
    go : (m : Bool) → syn_is_md5 (tables t) (arrival_pair_of a) ≡ m → fits (check_syn_of (tables t) a strict) ≡ true
    go true e = first_passes fits (judge_syn_tests (tables t) a strict) _ (rw (refusal-fits t, e)) refl
    go false e =
        first_passes fits (judge_syn_tests (tables t) a strict) _
        (rw (
          refusal-fits t,
          e,
          refused-fits (any_entry (tables t) (arrival_pair_of a)) 25 refl,
          unknown-passes fits (tables t) (arrival_pair_of a) strict refl refl,
        )) refl

settled-fits : (l : List (Test Outcome)) → each_gives fits l ≡ true → fits (first l unrefused) ≡ true
settled-fits l e = first_passes fits l unrefused e refl

check_sign-fits : (t : Lent) (s : List ℕ) (room : ℕ) (q : State) → fits (check_sign (tables t) s room q) ≡ true
unfolding check_sign
check_sign-fits t s room q = first_passes fits (sign_tests (tables t) s room q (outgoing (tables t) q)) _ (rw (refusal-fits t)) refl

-- The answers by their outcomes.

bad : (n : ℕ) (i : Index) → fits (Bad n i) ≡ true → (n < 2 ^ 8) × (i.table < 2 ^ 8) × (i.entry < 2 ^ 32) × (together (refused n i) ≡ true)
bad n i e =
    let p = and-true (ltb n (2 ^ 8)) (ltb i.table (2 ^ 8) && (ltb i.entry (2 ^ 32) && together (refused n i))) e in
    let q = and-true (ltb i.table (2 ^ 8)) (ltb i.entry (2 ^ 32) && together (refused n i)) p.1 in
    let r = and-true (ltb i.entry (2 ^ 32)) (together (refused n i)) q.1 in
    (ltb-true n (2 ^ 8) p.0, ltb-true i.table (2 ^ 8) q.0, ltb-true i.entry (2 ^ 32) r.0, r.1)

verdicts : (o : Outcome) → fits o ≡ true → Verdicts (verdict_of_lem o) (index_of o)
unfolding verdict_answer
verdicts (Good x r) e = record { number = omega arith; table = omega arith; index = omega arith; together = refl }
verdicts Passed e = record { number = omega arith; table = omega arith; index = omega arith; together = refl }
verdicts (Bad n i) e = let b = bad n i e in record { number = b.0; table = b.1; index = b.2; together = b.3 }

pub judged-fits : JudgedFits
unfolding judged
judged-fits t a q = verdicts (check (tables t) q.conn q.seen a) (check-fits t q.conn q.seen a)

pub judged_syn-fits : JudgedSynFits
unfolding judged_syn
judged_syn-fits t a strict = verdicts (check_syn_of (tables t) a strict) (check_syn-fits t a strict)

pub opened-fits : OpenedFits
unfolding opened_passively
opened-fits t a isn strict = verdicts (check_syn_of (tables t) a strict) (check_syn-fits t a strict)

-- an opening, or a key to ask for
settles : (o : Outcome) (old new : State) → fits o ≡ true → Fits (of_settled (settled_by_lem o old new))
unfolding done_answer
settles (Good x r) old new e = record { number = omega arith; table = omega arith; value = omega arith; together = refl }
settles Passed old new e = record { number = omega arith; table = omega arith; value = omega arith; together = refl }
settles (Bad n i) old new e = let b = bad n i e in record { number = b.0; table = b.1; value = b.2; together = b.3 }

pub asked-fits : AskedFits
unfolding asked
asked-fits t id q =
    settles (first (ask_tests (tables t) id q.conn) unrefused) q _ (settled-fits (ask_tests (tables t) id q.conn) (rw (refusal-fits t)))

pub active-fits : ActiveFits
unfolding opened_actively
active-fits t local remote local_port remote_port isn send_id = go (pair_of_lem local remote local_port remote_port)
  where
    go : (p : Pair) → Fits (of_settled (opened_with (tables t) local remote p isn send_id))
    go p =
        let l = open_tests (tables t) local remote (send_entry (tables t) p send_id) in
        settles (first l unrefused) empty _ (settled-fits l (rw (refusal-fits t)))

pub active-md5-fits : ActiveMd5Fits
unfolding opened_actively_md5
active-md5-fits t local remote local_port remote_port isn = go (pair_of_lem local remote local_port remote_port)
  where
    go : (p : Pair) → Fits (of_settled (opened_md5_with (tables t) local remote p isn))
    go p =
        let l = open_tests (tables t) local remote (md5_entry (tables t) p) in
        settles (first l unrefused) empty _ (settled-fits l (rw (refusal-fits t)))

pub signed-fits : SignedFits
unfolding signed signing_answer
signed-fits t s out q = go (check_sign (tables t) s (length out) q) refl (check_sign-fits t s (length out) q)
  where
    go : (o : Outcome) → check_sign (tables t) s (length out) q ≡ o → fits (check_sign (tables t) s (length out) q) ≡ true → Fits (of_signed (signed (tables t) s out q))
    go (Good x r) f e =
        let w = (signs-good (tables t) s out q x r f).0.whole in
        rw f (record { number = omega arith; table = omega arith; value = omega arith; together = refl })
    go Passed f e = rw f (record { number = omega arith; table = omega arith; value = omega arith; together = refl })
    go (Bad n i) f e = let b = bad n i (rw f at e) in rw f (record { number = b.0; table = b.1; value = b.2; together = b.3 })

pub answered-reads : AnsweredReads
unfolding answered
answered-reads b a n t w = reads (cond (is_state_of b) a (answer 18 0)) (go (is_state_of b)).0 (go (is_state_of b)).1 w
  where
    go : (c : Bool) → ((cond c a (answer 18 0)).number < 2 ^ 8) × ((cond c a (answer 18 0)).table < 2 ^ 8)
    go true = (n, t)
    go false = (omega arith, omega arith)

-- What the number tells.

refused-tells : (n : ℕ) → 10 ≤ n → Tells n false false
refused-tells n h = record { zero = ne_eqb n 0 (λ e. omega arith); one = ne_eqb n 1 (λ e. omega arith) }

verdict-tells : (v : Verdict) (i : Index) → ((n : ℕ) → by_verdict v ≡ D.Refused n → 10 ≤ n)
    → Tells (verdict_answer v i).number (accepts v) (is_pass v)
unfolding verdict_answer
verdict-tells (Accept e) i h = record { zero = refl; one = refl }
verdict-tells Pass i h = record { zero = refl; one = refl }
verdict-tells (Drop n) i h = refused-tells n (h n refl)

signing-tells : (a : Signing) (i : Index) → ((n : ℕ) → by_signing a ≡ D.Refused n → 10 ≤ n) → Tells (signing_answer a i).number (signs a) false
unfolding signing_answer
signing-tells (S.Signed n) i h = record { zero = refl; one = refl }
signing-tells (S.Refused n) i h = refused-tells n (h n refl)

done-tells : (a : Done) (i : Index) → ((n : ℕ) → a ≡ D.Refused n → 10 ≤ n) → Tells (done_answer a i).number (opens a) false
unfolding done_answer
done-tells D.Succeeded i h = record { zero = refl; one = refl }
done-tells (D.Refused n) i h = refused-tells n (h n refl)

pub number-tells : NumberTells
number-tells (on (judge t a) q) =
    subst (λ (p : Bool). Tells (of_judged (judged (tables t) a q)).number (accepts (judged (tables t) a q).verdict) p) (judge-never-passes (tables t) a q)
    (verdict-tells (judged (tables t) a q).verdict (judged (tables t) a q).index (λ n e. (refused-bounds (on (judge t a) q) n e).0))
number-tells (on (sign t s out) q) =
    signing-tells (signed (tables t) s out q).answer (signed (tables t) s out q).index (λ n e. (refused-bounds (on (sign t s out) q) n e).0)
number-tells (on (ask t id) q) = done-tells (asked (tables t) id q).answer (asked (tables t) id q).index (λ n e. (refused-bounds (on (ask t id) q) n e).0)
number-tells (judge_syn_of t a strict) =
    verdict-tells (judged_syn (tables t) a strict).verdict (judged_syn (tables t) a strict).index (λ n e. (refused-bounds (judge_syn_of t a strict) n e).0)
number-tells (open_passively t a isn strict) =
    verdict-tells (opened_passively (tables t) a isn strict).verdict (opened_passively (tables t) a isn strict).index
    (λ n e. (refused-bounds (open_passively t a isn strict) n e).0)
number-tells (open_actively t local remote local_port remote_port isn send_id) =
    done-tells (opened_actively (tables t) local remote local_port remote_port isn send_id).answer
    (opened_actively (tables t) local remote local_port remote_port isn send_id).index
    (λ n e. (refused-bounds (open_actively t local remote local_port remote_port isn send_id) n e).0)
number-tells (open_actively_md5 t local remote local_port remote_port isn) =
    done-tells (opened_actively_md5 (tables t) local remote local_port remote_port isn).answer
    (opened_actively_md5 (tables t) local remote local_port remote_port isn).index
    (λ n e. (refused-bounds (open_actively_md5 t local remote local_port remote_port isn) n e).0)

fitting : {a : Answer} → Fits a → (a.number < 2 ^ 8) × (a.table < 2 ^ 8)
fitting f = (f.number, f.table)

judging : (v : Verdict) (i : Index) → Verdicts v i → ((verdict_answer v i).number < 2 ^ 8) × ((verdict_answer v i).table < 2 ^ 8)
unfolding verdict_answer
judging (Accept e) i f = (f.number, omega arith)
judging Pass i f = (f.number, omega arith)
judging (Drop n) i f = (f.number, f.table)

pub number_fits : NumberFits
number_fits (on (judge t a) q) = judging _ _ (judged-fits t a q)
number_fits (on (sign t s out) q) = fitting (signed-fits t s out q)
number_fits (on (ask t id) q) = fitting (asked-fits t id q)
number_fits (judge_syn_of t a strict) = judging _ _ (judged_syn-fits t a strict)
number_fits (open_passively t a isn strict) = judging _ _ (opened-fits t a isn strict)
number_fits (open_actively t local remote local_port remote_port isn send_id) =
    fitting (active-fits t local remote local_port remote_port isn send_id)
number_fits (open_actively_md5 t local remote local_port remote_port isn) =
    fitting (active-md5-fits t local remote local_port remote_port isn)

low_bits : (a : Answer) → a.number < 2 ^ 8 → word a % 2 ^ 8 ≡ a.number
unfolding word
low_bits a h = omega arith

pub word-tells : WordTells
word-tells c = subst⁻¹ (λ (n : ℕ). Tells n (is_done c) (is_passed c)) (low_bits (answer_of c) (number_fits c).0) (number-tells c)

pub answered-tells : AnsweredTells
unfolding answered
answered-tells b c = go (is_state_of b)
  where
    go : (k : Bool) → Tells (word (cond k (answer_of c) (answer 18 0)) % 2 ^ 8) (k && is_done c) (k && is_passed c)
    go true = word-tells c
    go false = subst⁻¹ (λ (n : ℕ). Tells n false false) (low_bits (answer 18 0) (omega arith)) (record { zero = refl; one = refl })

loaded-tells : (o : Admitted) → ((n : ℕ) (i : Index) → o ≡ refused_with n i → (10 ≤ n) × (n ≤ 45)) → Tells (table_answer o).number (not (is_refused o)) false
unfolding table_answer
loaded-tells (Ok n) h = record { zero = refl; one = refl }
loaded-tells (Err r) h = refused-tells r.number (h r.number r.index refl).0

pub table-tells : TableTells
table-tells t =
    subst⁻¹ (λ (n : ℕ). Tells n (not (is_refused (tables t).answer)) false)
    (low_bits (table_answer (tables t).answer) (table_fits t).number) (loaded-tells (tables t).answer (table-bounds t))

pub prepare-tells : PrepareTells
prepare-tells k m room =
    let o = prepare_answer k m room in
    subst⁻¹ (λ (n : ℕ). Tells n (not (is_refused o)) false) (low_bits (table_answer o) (prepare-fits k m room).number)
    (loaded-tells o (prepares k m room).bounds)
