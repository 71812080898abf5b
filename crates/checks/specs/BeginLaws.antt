-- Begin, data and end are the whole: what they come to is the first of all tests that applies. Assumes nothing.
use Rattle.std.specs.Prelude.{ℕ, ◌≤◌, ◌≡◌, refl, Bool, true, false, cond, not, List, [], ◌∷◌, length, take, drop, Result, Ok, Err}
use Rattle.std.proofs.Common.{sym, ap, ap₂, subst, ◌∙◌, arith}
use Rattle.wire.specs.Bytes.{same_bytes}
use Rattle.wire.specs.Header.{sequence, header_end_of}
use Rattle.keys.specs.declared.entry.Entry.{Entry}
use Rattle.keys.specs.declared.entry.Pair.{Pair}
use Rattle.keys.specs.Entry.{key_of}
use Rattle.tables.specs.Tables.{Tables, recv_entry, any_entry, md5_entry}
use Rattle.rules.specs.declared.Connection.{Connection}
use Rattle.rules.specs.Position.{Place}
use Rattle.rules.specs.declared.Outcome.{Outcome}
use Rattle.std.specs.Prelude.{Some}
use Rattle.rules.specs.declared.Outcome.TheVariants.{Good, Passed, Bad}
use Rattle.octets.specs.Tests.{Test, test, first, checked}
use Rattle.octets.specs.TestLaws.{first-none, first-append, first-joined, each_gives, none-applied, checked-passed, checked-given, checked-gives}
use Rattle.rules.specs.Mac.{Flow, arriving_hidden_of, blanked, front, segment_mac}
use Rattle.rules.specs.Digest.{segment_digest}
use Rattle.rules.specs.Segment.{ao_at, key_id_of}
use Rattle.rules.specs.Connection.{Arrival, arrival_pair_of, arriving, arriving_syn, place_on_lem, value, extension_of_lem, is_md5_of}
use Rattle.rules.specs.Calls.{refuse, mac_tests, digest_tests, Groups, in_order, judge_groups, check, syn_unknown_of, syn_is_md5, syn_groups, check_syn_of}
use Rattle.rules.proofs.GroupLaws.{unknown-passes}
use Rattle.traffic.specs.MacContext.{mac_view, mac_absorb, mac_finished}
use Rattle.traffic.specs.TagLaws.{tagged, tag-mac}
use Rattle.traffic.specs.DigestLaws.{digest-is}
use Rattle.checks.specs.Groups.{until_mac}
use Rattle.checks.specs.GroupLaws.{is_final, final-kept, refusal-final}
use Rattle.checks.specs.Begin.{Expected, by_ao, by_md5_of, Ready, Begins, Judges, JudgesSyn, mac_length_of, agrees, ended}
use Rattle.checks.specs.declared.begun.Begun.{Begun}
use Rattle.checks.specs.declared.begun.Way.TheVariants.{Ao, Md5}

-- data and end, of a segment that is there whole; or the number that was given at once
abbrev pub settled : Result Begun Outcome → List ℕ → Outcome
settled (Ok b) d = ended b (agrees b (mac_absorb (mac_view b.mac) d))
settled (Err e) d = e

-- one group: its error is given, and without one what stands behind it decides
pub stop : (a : List (Test Outcome)) (o : Outcome) (w : ℕ → Expected) {e : Outcome} → each_gives is_final a ≡ true → checked a ≡ Err e → Begins (first a o) w (Err e)
stop a o w f q = (checked-given a o q, checked-gives is_final a f q)

pub pass : (a : List (Test Outcome)) (o : Outcome) (w : ℕ → Expected) (r : Result Begun Outcome) → checked a ≡ Ok tt → Begins o w r → Begins (first a o) w r
pass a o w r q b = subst (λ (x : Outcome). Begins x w r) (sym (checked-passed a o q)) b

-- the groups one by one
pub by_groups : (g : Groups) (o : Outcome) (w : ℕ → Expected) (r : Result Begun Outcome)
    → Begins (first g.input (first g.size (first g.sum (first g.form (first g.arrival (first g.key o)))))) w r
    → Begins (first (until_mac g) o) w r
by_groups g o w r b = subst (λ (x : Outcome). Begins x w r) (sym seams) b
  where
    seams : first (until_mac g) o ≡ first g.input (first g.size (first g.sum (first g.form (first g.arrival (first g.key o)))))
    seams =
        first-append g.input _ o
        ∙ ap (first g.input) (first-append g.size _ o
        ∙ ap (first g.size) (first-append g.sum _ o
        ∙ ap (first g.sum) (first-append g.form _ o
        ∙ ap (first g.form) (first-append g.arrival _ o ∙ ap (first g.arrival) (first-append g.key [] o)))))

flip : {A : Type 0} (b : Bool) (x y : A) → cond b x y ≡ cond (not b) y x
flip true x y = refl
flip false x y = refl

-- the groups with and without the last
whole : (g : Groups) (o : Outcome) → first (in_order g) o ≡ first (until_mac g) (first g.mac o)
whole g o =
    first-joined (g.input ∷ g.size ∷ g.sum ∷ g.form ∷ g.arrival ∷ g.key ∷ []) (g.mac ∷ []) o
    ∙ ap (first (until_mac g)) (first-append g.mac [] o)

-- 29 by what is expected: the segment's data end the MAC, and its first bytes are the carried ones
abbrev mac_of : Expected → List ℕ → List ℕ
mac_of w s = take w.bytes (mac_finished (mac_absorb w.mac (drop (header_end_of s) s)))

abbrev same : Expected → List ℕ → Bool
same w s = same_bytes w.carried (mac_of w s)

abbrev compares : Expected → List ℕ → List (Test Outcome)
compares w s = test (refuse 29) (not (same w s)) ∷ []

agreed : (w : Expected) (s : List ℕ) (b : Begun) → Ready w b → agrees b (mac_absorb (mac_view b.mac) (drop (header_end_of s) s)) ≡ same w s
agreed w s b ready =
    let cut : mac_length_of b.mac_bytes ≡ b.mac_bytes = omega (arith, ready.short) in
    ap₂ same_bytes (ap (λ (n : ℕ). take n b.carried) cut ∙ ready.carried)
    (λ i. take ((cut ∙ ready.bytes) i) (mac_finished (mac_absorb (ready.mac i) (drop (header_end_of s) s))))

-- that is the definition's 29, by TCP-AO and by MD5
ao-mac : (e : Entry) (f : Flow) (s : List ℕ) (x : ℕ) → e.secret.mac_bytes ≤ 16
    → mac_of (by_ao e f s x) s ≡ segment_mac e.secret (arriving_hidden_of e.secret) f (extension_of_lem x) (ao_at s) s
ao-mac e f s x short =
    let h = arriving_hidden_of e.secret in
    ap (take e.secret.mac_bytes)
    (tagged e.secret (blanked h f) (front e.secret h (blanked h f) (extension_of_lem x) (ao_at s) (length s) (take (header_end_of s) s))
    (drop (header_end_of s) s) refl refl refl)
    ∙ tag-mac e.secret h f (extension_of_lem x) (ao_at s) s short

md5-mac : (e : Entry) (f : Flow) (s : List ℕ) (x : ℕ) → mac_of (by_md5_of e f s x) s ≡ segment_digest (key_of e.secret) f.source f.destination s
md5-mac e f s x = digest-is e.secret f s refl refl refl

-- by either way: n and e are the entries that it goes by
compares-is : (way : Bool) (n e : Entry) (f : Flow) (p : Place) (s : List ℕ) → (cond way (by_md5_of n f s) (by_ao e f s) (value p)).bytes ≤ 16
    → cond way (digest_tests n f s) (mac_tests e f p s) ≡ compares (cond way (by_md5_of n f s) (by_ao e f s) (value p)) s
compares-is true n e f p s short =
    ap (λ (m : List ℕ). test (refuse 29) (not (same_bytes (by_md5_of n f s (value p)).carried m)) ∷ []) (sym (md5-mac n f s (value p)))
compares-is false n e f p s short =
    ap (λ (m : List ℕ). test (refuse 29) (not (same_bytes (by_ao e f s (value p)).carried m)) ∷ []) (sym (ao-mac e f s (value p) short))

-- 29 behind all others, at the position y
module _ (g : Groups) (y u : ℕ) (w : ℕ → Expected) (s : List ℕ) (mac : (w y).bytes ≤ 16 → g.mac ≡ compares (w y) s)
    (final : each_gives is_final (until_mac g) ≡ true) where
  abbrev good : Outcome
  good = Good y u

  ends : (r : Result Begun Outcome) → Begins (first (until_mac g) good) w r → settled r (drop (header_end_of s) s) ≡ first (in_order g) good
  ends (Err e) b =
      sym b.0
      ∙ final-kept (until_mac g) good (first g.mac good) (ap is_final b.0 ∙ b.1) refl
      ∙ sym (whole g good)
  ends (Ok d) b =
      let none = none-applied is_final (until_mac g) good final (ap is_final b.0) in
      let k : good ≡ Good d.position d.rnext = sym (first-none (until_mac g) good none) ∙ b.0 in
      let here : y ≡ d.position = cc in
      let ready : Ready (w y) d = subst (λ (x : ℕ). Ready (w x) d) (sym here) b.1 in
      ap₂ (λ (same : Bool) (o : Outcome). cond same o (refuse 29)) (agreed (w y) s d ready) (sym k)
      ∙ flip (same (w y) s) good (refuse 29)
      ∙ sym (whole g good ∙ first-none (until_mac g) (first g.mac good) none
      ∙ ap (λ (l : List (Test Outcome)). first l good) (mac (omega (arith, ready.bytes, ready.short))))

-- with a state
module _ (t : Tables) (l : Connection) (reference : ℕ) (a : Arrival) where
  judge-final : each_gives is_final (until_mac (judge_groups t l reference a)) ≡ true
  judge-final = go (is_md5_of l) refl
    where
      go : (way : Bool) → is_md5_of l ≡ way → each_gives is_final (until_mac (judge_groups t l reference a)) ≡ true
      go true p = rw (p, refusal-final t.answer)
      go false p = rw (p, refusal-final t.answer)

  pub judge-ends : (r : Result Begun Outcome) → Judges t l reference a r → settled r (drop (header_end_of a.segment) a.segment) ≡ check t l reference a
  unfolding check
  judge-ends r begins =
      ends (judge_groups t l reference a) _ _ _ a.segment
      (compares-is (is_md5_of l) (md5_entry t l.pair).entry (recv_entry t l.pair (key_id_of a.segment)).entry (arriving l a.segment)
      (place_on_lem l reference (sequence a.segment)) a.segment)
      judge-final r begins

-- without one
pub missing-final : (b : Bool) → is_final (cond b (refuse 25) Passed) ≡ true
missing-final true = refl
missing-final false = refl

pub unknown-final : (t : Tables) (p : Pair) (strict : Bool) → is_final (syn_unknown_of t p strict) ≡ true
unknown-final t p strict = unknown-passes is_final t p strict refl refl

-- which way a bare SYN went, and by TCP-AO under which entry
way-is : (way : Bool) (n e : Entry) (f : Flow) (s : List ℕ) (x : ℕ) {b : Begun} → Ready (cond way (by_md5_of n f s) (by_ao e f s) x) b
    → b.way ≡ cond way Md5 (Ao e.ids)
way-is true n e f s x ready = ready.way
way-is false n e f s x ready = ready.way

module _ (t : Tables) (a : Arrival) (strict : Bool) where
  syn-final : each_gives is_final (until_mac (syn_groups t a strict)) ≡ true
  syn-final = go (syn_is_md5 t (arrival_pair_of a)) refl
    where
      go : (way : Bool) → syn_is_md5 t (arrival_pair_of a) ≡ way → each_gives is_final (until_mac (syn_groups t a strict)) ≡ true
      go true p = rw (p, refusal-final t.answer)
      go false p =
          rw (p, refusal-final t.answer, missing-final (any_entry t (arrival_pair_of a)), unknown-final t (arrival_pair_of a) strict)

  pub syn-ends : (r : Result Begun Outcome) → JudgesSyn t a strict r → settled r (drop (header_end_of a.segment) a.segment) ≡ check_syn_of t a strict
  unfolding check_syn_of
  syn-ends r begins =
      ends (syn_groups t a strict) _ _ _ a.segment
      (compares-is (syn_is_md5 t (arrival_pair_of a)) (md5_entry t (arrival_pair_of a)).entry (recv_entry t (arrival_pair_of a) (key_id_of a.segment)).entry
      (arriving_syn a) (Some (sequence a.segment)) a.segment)
      syn-final r begins

  -- the way that it goes by, and by TCP-AO the IDs of the entry found, are those that open
  pub syn-by : (b : Begun) → JudgesSyn t a strict (Ok b)
      → b.way ≡ cond (syn_is_md5 t (arrival_pair_of a)) Md5 (Ao (recv_entry t (arrival_pair_of a) (key_id_of a.segment)).entry.ids)
  syn-by b begins =
      way-is (syn_is_md5 t (arrival_pair_of a)) (md5_entry t (arrival_pair_of a)).entry (recv_entry t (arrival_pair_of a) (key_id_of a.segment)).entry
      (arriving_syn a) a.segment b.position begins.1
