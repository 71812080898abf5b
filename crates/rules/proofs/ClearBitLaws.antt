-- The statement of ClearBits.antt, proved: with both bits clear nothing is blanked.
use Rattle.std.specs.Prelude.{ℕ, ◌≡◌, refl, Bool, false, cond, List, length, replicate}
use Rattle.std.proofs.Common.{ap, ◌∙◌}
use Rattle.keys.specs.declared.entry.Secret.{Secret}
use Rattle.keys.specs.declared.entry.Entry.{Entry}
use Rattle.tables.specs.Tables.{Tables}
use Rattle.rules.specs.declared.Outcome.{Outcome}
use Rattle.rules.specs.declared.Outcome.TheVariants.{Good, Passed, Bad}
use Rattle.rules.specs.declared.State.{State}
use Rattle.rules.specs.Mac.{Flow, leaving_hidden_of, arriving_hidden_of, front, message, segment_mac}
use Rattle.rules.specs.Checksum.{with_checksum_of}
use Rattle.rules.specs.Segment.{signed_with}
use Rattle.rules.specs.Connection.{local_address, remote_address, is_md5_of, leaving, extension_of_lem}
use Rattle.rules.specs.Calls.{written, outgoing, check_sign, authenticated, digested, signed_segment, output_by, output}
use Rattle.rules.specs.ClearBits.{segment_mac_before, signed_segment_before, output_by_before, Clear, SameAsBefore}

nothing_hidden : (s : Secret) (f : Flow) (extension at : ℕ) (segment : List ℕ)
    → segment_mac s (record { source = false; destination = false }) f extension at segment ≡ segment_mac_before s f extension at segment
unfolding segment_mac message front
nothing_hidden s f extension at segment = refl

module _ (s : Secret) (f : Flow) (extension at : ℕ) (segment : List ℕ) (c : Clear s) where
  leaving-same : segment_mac s (leaving_hidden_of s) f extension at segment ≡ segment_mac_before s f extension at segment
  leaving-same =
      (λ i. segment_mac s (record { source = c.local i; destination = c.remote i }) f extension at segment)
      ∙ nothing_hidden s f extension at segment

  arriving-same : segment_mac s (arriving_hidden_of s) f extension at segment ≡ segment_mac_before s f extension at segment
  arriving-same =
      (λ i. segment_mac s (record { source = c.remote i; destination = c.local i }) f extension at segment)
      ∙ nothing_hidden s f extension at segment

signs-same : (e : Entry) (q : State) (x : ℕ) (s : List ℕ) → is_md5_of q.conn ≡ false → Clear e.secret
    → signed_segment e q x s ≡ signed_segment_before e q x s
unfolding signed_segment authenticated
signs-same e q x s way c =
    ap (λ (b : Bool). checked (cond b (digested e q s) (authenticated e q x s))) way
    ∙ ap (λ (m : List ℕ). checked (signed_with q.send_id q.ask_id m s))
    (leaving-same e.secret (leaving q.conn) (extension_of_lem x) 20
    (signed_with q.send_id q.ask_id (replicate e.secret.mac_bytes 0) s) c)
  where
    checked : List ℕ → List ℕ
    checked b = with_checksum_of (local_address q.conn.pair) (remote_address q.conn.pair) b

output-same : (q : State) (s out : List ℕ) (e : Entry) → is_md5_of q.conn ≡ false → Clear e.secret → (o : Outcome)
    → output_by q s out e o ≡ output_by_before q s out e o
output-same q s out e way c (Good x r) = ap (λ (b : List ℕ). written b out) (signs-same e q x s way c)
output-same q s out e way c Passed = refl
output-same q s out e way c (Bad n i) = refl

writes-same : (t : Tables) (s out : List ℕ) (q : State) → is_md5_of q.conn ≡ false → Clear (outgoing t q).entry.secret
    → output t s out q ≡ output_by_before q s out (outgoing t q).entry (check_sign t s (length out) q)
unfolding output
writes-same t s out q way c = output-same q s out (outgoing t q).entry way c (check_sign t s (length out) q)

pub same-as-before : SameAsBefore
same-as-before = record { signs = signs-same; writes = writes-same; compares = arriving-same }
