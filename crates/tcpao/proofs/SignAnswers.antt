-- What signing answers, by the outcome of its tests; and what a good outcome leaves for what comes behind it. Assumes nothing.
use Prim.Native.Nat.{ℕ, ◌+◌, ◌≤◌}
use mathlib.Core.Path.{◌≡◌, refl, sym, ap, ◌∙◌, subst, subst⁻¹, transport}
use mathlib.Core.Bool.{Bool, true, false, cond}
use mathlib.Core.List.{List, ◌++◌}
use native.Mathlib.Omega.{arith}
use lib.ListN.{length, take, replicate, length-replicate}
use lib.Seq.{length-take-le}
use borrow.Author.Tests.{ltb-false}
use Rattle.wire.specs.Header.{header_end_of, header_of_lem}
use Rattle.wire.specs.declared.header.Header.{Header}
use Rattle.keys.specs.Entry.{width}
use Rattle.keys.proofs.EntryLaws.{width-le}
use Rattle.keys.specs.declared.entry.Pair.{Pair}
use Rattle.keys.specs.declared.entry.Secret.{Secret}
use Rattle.keys.specs.Table.{Found, nobody}
use Rattle.tables.specs.Tables.{Admitted, Tables, tables_of, send_entry, md5_entry}
use Rattle.tables.proofs.ValidLaws.{taken-held}
use Rattle.tables.proofs.SearchLaws.{send-proper, send-nobody}
use Rattle.std.specs.Prelude.{Result, Ok, Err}
use Rattle.std.specs.Result.{result_and}
use Rattle.rules.specs.declared.Outcome.{Outcome}
use Rattle.rules.specs.declared.Outcome.TheVariants.{Good, Passed, Bad}
use Rattle.rules.specs.declared.State.{State}
use Rattle.rules.specs.Results.{signed_as}
use Rattle.rules.specs.declared.SignedSegment.{SignedSegment}
use Rattle.octets.specs.Tests.{checked}
use Rattle.octets.specs.TestLaws.{NoneApplies, none-applied, each_gives, checked-gives, checked-none, none-split}
use Rattle.rules.proofs.JudgeLaws.{is_bad, refusal-bad}
use Rattle.rules.specs.Segment.{Whole, option_bytes, md5_option_bytes}
use Rattle.rules.specs.Connection.{is_md5_of}
use Rattle.rules.specs.Calls.{is_refused, outgoing, added_on_lem, sign_tests, check_sign, signed_by, output_by, written, signed, output}
use Rattle.rules.specs.Calls.{family_tests, table_tests, length_tests, after_signing_of}
use Rattle.rules.proofs.RoundTripLaws.{whole_words}
use Rattle.rules.proofs.SigningLaws.{Signs, signs-good}
use Rattle.checks.specs.GroupLaws.{is_final, refusal-final, and-err, and-ok}
use Rattle.checks.specs.SignGroups.{input_tests, sign_lines, granted_of}
use Rattle.checks.specs.SignLaws.{at-input, at-signing, may-sign}
use Rattle.checks.specs.declared.signing.Granted.{Granted}
use Rattle.tcpao.specs.SignedBytes.{ao_form, md5_form, form_of, added_by, Signable}
use Rattle.tcpao.specs.Refusals.{refusal_of}
use Rattle.tcpao.specs.SignBegin.{ao_front, md5_front, front_of_lem, Ready, Starts, SignBegins, Writable, finished}
use Rattle.tcpao.specs.declared.sign_begun.SignBegun.{SignBegun}
use Rattle.tcpao.proofs.SignedLaws.{finished-is, writable}

-- what signing adds, by the way
added-by : (way : Bool) (e : Secret) (q : State) → added_by (cond way md5_form (ao_form e q)) ≡ cond way md5_option_bytes (option_bytes e.mac_bytes)
added-by true e q = refl
added-by false e q = refl

whole-form : (way : Bool) (e : Secret) (q : State) → Whole (added_by (cond way md5_form (ao_form e q)))
whole-form true e q = refl
whole-form false e q = whole_words e.mac_bytes

-- of tables that are not refused a found entry's MAC has at most 16 bytes, and where none is found, 0
pub sends-short : (form : ℕ) (k m : List ℕ) (p : Pair) (id : ℕ) → is_refused (tables_of form k m).answer ≡ false
    → (send_entry (tables_of form k m) p id).entry.secret.mac_bytes ≤ 16
unfolding nobody
sends-short form k m p id e = go (tables_of form k m).answer (send_entry (tables_of form k m) p id).there refl refl e
  where
    go : (c : Admitted) (b : Bool) → (tables_of form k m).answer ≡ c → (send_entry (tables_of form k m) p id).there ≡ b → is_refused c ≡ false
        → (send_entry (tables_of form k m) p id).entry.secret.mac_bytes ≤ 16
    go (Err r) b q h z = let y : ◌≡◌ {A = ℕ} 0 1 = cc in absurd (omega arith)
    go (Ok n) true q h z = (send-proper (taken-held form k m n q) p id h).mac-high
    go (Ok n) false q h z = rw (send-nobody (tables_of form k m) p id h) (omega arith)

module _ (t : Tables) (s : List ℕ) (room : ℕ) (q : State) where
  abbrev entry : Secret
  entry = (outgoing t q).entry.secret

  -- a number that was given begins nothing
  input-final : each_gives is_final (input_tests t s q.conn) ≡ true
  input-final = rw (refusal-final t.answer)

  pub gives-input : {e : Outcome} → Err e ≡ result_and (checked (input_tests t s q.conn)) (Ok s) → SignBegins t s room q (Err e)
  gives-input n =
      let k = and-err (checked (input_tests t s q.conn)) s (sym n) in
      (at-input t s room q k, checked-gives is_final (input_tests t s q.conn) input-final k)

  -- what Good leaves: 30, 32, 35 and 37 have let the segment by
  module _ {x r : ℕ} (good : check_sign t s room q ≡ Good x r) where
    pub left : Signs t s (replicate room 0) q × (q.ask_id ≡ r)
    left =
        let g = signs-good t s (replicate room 0) q x r (ap (λ (n : ℕ). check_sign t s n q) (length-replicate room 0) ∙ good) in (g.0, g.2)

    can : (is_md5_of q.conn ≡ false → entry.mac_bytes ≤ 16) → Signable s (form_of entry q)
    can short =
        let g = left.0 in
        record {
          low = g.fresh.low;
          inside = g.fresh.inside;
          header = omega (arith, g.header, added-by (is_md5_of q.conn) entry q);
          short = go (is_md5_of q.conn) refl;
          whole = whole-form (is_md5_of q.conn) entry q;
        }
      where
        go : (way : Bool) → is_md5_of q.conn ≡ way → (form_of entry q).bytes ≤ 16
        go true p = subst⁻¹ (λ (w : Bool). (cond w md5_form (ao_form entry q)).bytes ≤ 16) p (omega arith)
        go false p = subst⁻¹ (λ (w : Bool). (cond w md5_form (ao_form entry q)).bytes ≤ 16) p (short p)

    room_of : NoneApplies (sign_tests t s room q (outgoing t q)) → length s + added_on_lem q.conn (outgoing t q).entry ≤ room
    room_of n = ltb-false room (length s + added_on_lem q.conn (outgoing t q).entry) (search)

    pub enough : length s + added_by (form_of entry q) ≤ room
    unfolding check_sign
    enough =
        let n = none-applied is_bad (sign_tests t s room q (outgoing t q)) _ (rw (refusal-bad t.answer)) (ap is_bad good) in
        omega (arith, room_of n, added-by (is_md5_of q.conn) entry q)

  -- begin goes on, with the header of the segment that was read, and the entry found
  module _ {z : List ℕ} (sized : Ok z ≡ result_and (checked (input_tests t s q.conn)) (Ok s)) {h : Header} (read : h ≡ header_of_lem (length z) z)
      {f : Found} (is : f ≡ outgoing t q) where
    none : checked (input_tests t s q.conn) ≡ Ok tt
    none = (and-ok (checked (input_tests t s q.conn)) s (sym sized)).0

    pub same : z ≡ s
    same = sym (and-ok (checked (input_tests t s q.conn)) s (sym sized)).1

    pub valid : is_refused t.answer ≡ false
    valid =
        (none-split (table_tests t) (length_tests 30 s)
        (none-split (family_tests q.conn) (table_tests t ++ length_tests 30 s) (checked-none (input_tests t s q.conn) none)).1).0.0

    header : h ≡ header_of_lem (length s) s
    header = read ∙ ap (λ (y : List ℕ). header_of_lem (length y) y) same

    grants-is : (r : Result Granted Outcome) → r ≡ granted_of room f q h → granted_of room (outgoing t q) q (header_of_lem (length s) s) ≡ r
    grants-is r e = sym (e ∙ (λ i. granted_of room (is i) q (header i)))

    pub gives-lines : {e : Outcome} → Err e ≡ granted_of room f q h → SignBegins t s room q (Err e)
    gives-lines {e} n =
        let k = grants-is (Err e) n in
        let l = sign_lines room (added_on_lem q.conn (outgoing t q).entry) (outgoing t q).there q (header_of_lem (length s) s) in
        (at-signing t s room q none k, checked-gives is_final l refl (and-err (checked l) _ k))

    module _ {g : Granted} (grants : Ok g ≡ granted_of room f q h) (short : is_md5_of q.conn ≡ false → f.entry.secret.mac_bytes ≤ 16) where
      good : check_sign t s room q ≡ Good g.position q.ask_id
      good = may-sign t s room q none (grants-is (Ok g) grants)

      secret : g.secret ≡ f.entry.secret
      secret = ap (λ (g : Granted). g.secret) (sym (and-ok (checked (sign_lines room (added_on_lem q.conn f.entry) f.there q h)) _ (sym grants)).1)

      adds : g.added ≡ added_on_lem q.conn f.entry
      adds = ap (λ (g : Granted). g.added) (sym (and-ok (checked (sign_lines room (added_on_lem q.conn f.entry) f.there q h)) _ (sym grants)).1)

      under : g.secret ≡ entry
      under = secret ∙ ap (λ (f : Found). f.entry.secret) is

      its-can : Signable s (form_of entry q)
      its-can = can good (subst (λ (f : Found). is_md5_of q.conn ≡ false → f.entry.secret.mac_bytes ≤ 16) is short)

      abbrev May : Bool → List ℕ → Type 0
      May way z = Signable z (cond way md5_form (ao_form g.secret q)) × (g.added ≡ cond way md5_option_bytes (option_bytes g.secret.mac_bytes))

      may : May (is_md5_of q.conn) z
      may = (
        subst⁻¹ (λ (y : List ℕ). Signable y (form_of g.secret q)) same (subst⁻¹ (λ (e : Secret). Signable s (form_of e q)) under its-can),
        adds ∙ ap (λ (e : Secret). cond (is_md5_of q.conn) md5_option_bytes (option_bytes e.mac_bytes)) (sym secret),
      )

      pub may-start : is_md5_of q.conn ≡ false → Signable z (ao_form g.secret q) × (g.added ≡ option_bytes g.secret.mac_bytes)
      may-start way = subst (λ (w : Bool). May w z) way may

      pub may-start-md5 : is_md5_of q.conn ≡ true → Signable z md5_form × (g.added ≡ md5_option_bytes)
      may-start-md5 way = subst (λ (w : Bool). May w z) way may

      abbrev Started : SignBegun → Bool → Secret → List ℕ → Type 0
      Started b way e y = Starts g.position (cond way md5_form (ao_form e q)) (cond way (md5_front e q y) (ao_front g.position e q y)) q y b

      begins : {b : SignBegun} → Started b (is_md5_of q.conn) g.secret z → SignBegins t s room q (Ok b)
      begins {b = b} begun =
          let starts : Started b (is_md5_of q.conn) entry s = transport (λ i. Started b (is_md5_of q.conn) (under i) (same i)) begun in (
            good ∙ ap (λ (x : ℕ). Good x q.ask_id) (sym starts.position),
            its-can,
            subst⁻¹ (λ (x : ℕ). Ready (form_of entry q) (front_of_lem x entry q s) q s b) starts.position starts.ready,
          )

      pub begins-ao : is_md5_of q.conn ≡ false → {b : SignBegun} → Starts g.position (ao_form g.secret q) (ao_front g.position g.secret q z) q z b
          → SignBegins t s room q (Ok b)
      begins-ao way {b = b} starts = begins (subst⁻¹ (λ (w : Bool). Started b w g.secret z) way starts)

      pub begins-md5 : is_md5_of q.conn ≡ true → {b : SignBegun} → Starts g.position md5_form (md5_front g.secret q z) q z b → SignBegins t s room q (Ok b)
      begins-md5 way {b = b} starts = begins (subst⁻¹ (λ (w : Bool). Started b w g.secret z) way starts)

-- an address has the bytes of its family
wide : (p : Pair) (a : List ℕ) → length a ≡ 16 → length (take (width p.family) a) ≡ width p.family
wide p a l = length-take-le (width p.family) a (omega (arith, width-le p.family))

-- the whole call, by what has begun
module _ (t : Tables) (s out : List ℕ) (q : State) where
  refused-as : (o : Outcome) → is_final o ≡ true → signed_as q (Err (refusal_of o)) ≡ signed_by q s (outgoing t q).entry o
  refused-as (Good x r) e = let z : ◌≡◌ {A = ℕ} 0 1 = cc in absurd (omega arith)
  refused-as Passed e = refl
  refused-as (Bad n i) e = refl

  kept-as : (o : Outcome) → is_final o ≡ true → out ≡ output_by q s out (outgoing t q).entry o
  kept-as (Good x r) e = let z : ◌≡◌ {A = ℕ} 0 1 = cc in absurd (omega arith)
  kept-as Passed e = refl
  kept-as (Bad n i) e = refl

  module _ {o : Outcome} (begun : SignBegins t s (length out) q (Err o)) where
    pub refuses : signed_as q (Err (refusal_of o)) ≡ signed t s out q
    unfolding signed
    refuses = refused-as o begun.1 ∙ ap (signed_by q s (outgoing t q).entry) (sym begun.0)

    pub keeps : out ≡ output t s out q
    unfolding output
    keeps = kept-as o begun.1 ∙ ap (output_by q s out (outgoing t q).entry) (sym begun.0)

  module _ (b : SignBegun) (begun : SignBegins t s (length out) q (Ok b)) where
    abbrev key : Secret
    key = (outgoing t q).entry.secret

    pub may_write : Writable b s out
    may_write =
        writable (form_of key q) q s begun.1 b (front_of_lem b.position key q s) begun.2 out (enough t s (length out) q begun.0)

    pub adds-as : b.added ≡ added_on_lem q.conn (outgoing t q).entry
    adds-as = begun.2.added ∙ added-by (is_md5_of q.conn) key q

    pub sum_fits : length s + b.added ≤ 65535
    sum_fits = omega (arith, adds-as, (left t s (length out) q begun.0).0.whole)

    pub signs : {n : SignedSegment} → n.len ≡ length s + b.added → n.state ≡ after_signing_of b.position q → signed_as q (Ok n) ≡ signed t s out q
    unfolding signed
    signs {n} el es =
        (λ i. signed_as q (Ok (record { len = (el ∙ ap (λ (k : ℕ). length s + k) adds-as) i; state = es i })))
        ∙ ap (signed_by q s (outgoing t q).entry) (sym begun.0)

    pub writes : {c : List ℕ} → length q.conn.pair.local ≡ 16 → length q.conn.pair.remote ≡ 16
        → c ≡ written (finished b s) out → c ≡ output t s out q
    unfolding output
    writes wl wr e =
        let alike = wide q.conn.pair q.conn.pair.local wl ∙ sym (wide q.conn.pair q.conn.pair.remote wr) in
        e ∙ ap (λ (l : List ℕ). written l out)
        (finished-is b.position key q s begun.1 b begun.2 alike (outgoing t q).entry refl)
        ∙ ap (output_by q s out (outgoing t q).entry) (sym begun.0)
