-- What the signing call wrote on the MD5 way, as it arrives: what the receiver reads in it, and that its digest is the one it carries.
use Rattle.std.specs.Prelude.{ℕ, ◌≡◌, true, length, replicate}
use Rattle.std.proofs.Math.Path.{ap, sym}
use Rattle.std.proofs.Common.{◌∙◌, subst}
use mathlib.Core.List.{List}
use Rattle.mac.specs.Md5.{md5}
use Rattle.keys.specs.declared.entry.Pair.{Pair}
use Rattle.keys.specs.declared.entry.Entry.{Entry}
use Rattle.keys.specs.Entry.{key_of}
use Rattle.rules.specs.declared.State.{State}
use Rattle.rules.specs.Digest.{segment_digest}
use Rattle.rules.specs.Segment.{with_option, digested_with}
use Rattle.rules.proofs.PortLaws.{written}
use Rattle.rules.specs.Connection.{Arrival, local_address, remote_address, is_md5_of}
use Rattle.rules.specs.Ends.{Facing, SignedAt, rechecked, with_ports, Delivered}
use Rattle.rules.proofs.InsertedLaws.{Put}
use Rattle.rules.proofs.DigestLaws.{length-digest, ReadsMd5, reads-md5, same-input}
use Rattle.rules.proofs.DeliveryLaws.{digest_for, on-md5, signs, segment-is, comes}

module _ (q : State) (e : Entry) (x : ℕ) (b : List ℕ) (g : SignedAt q e x b) (way : is_md5_of q.conn ≡ true) where
  abbrev s : List ℕ
  s = g.unsigned

  abbrev pub digest : List ℕ
  digest = digest_for e q s

  length-its-digest : length digest ≡ 16
  length-its-digest = length-digest (key_of e.secret) _ _ (digested_with (replicate 16 0) s)

  -- As it comes to the end that holds the pair p.
  module _ (p : Pair) (a : Arrival) (v : Delivered p b a) where
    pub reads : ReadsMd5 a.segment digest
    reads =
        reads-md5 s (signs q e x b g).fresh digest length-its-digest (written p.remote_port p.local_port) v.high v.low
        a.segment
        (subst (λ (o : List ℕ). Put s o (written p.remote_port p.local_port) v.high v.low a.segment) (on-md5 e q x s way)
        (comes q e x b g p a v))

    -- the receiver computes the digest that it carries, between the addresses of one pair
    pub same-digest : Facing p q.conn.pair → segment_digest (key_of e.secret) (remote_address p) (local_address p) a.segment ≡ digest
    unfolding segment_digest
    same-digest facing =
        (λ j. segment_digest (key_of e.secret) (facing.remote j) (facing.local j) (segment-md5 j))
        ∙ ap md5
        (same-input s (signs q e x b g).fresh g.octets digest length-its-digest p.remote_port p.local_port v.high v.low
        (facing.remote-port ∙ sym (signs q e x b g).source-port) (facing.local-port ∙ sym (signs q e x b g).destination-port)
        (key_of e.secret) (local_address q.conn.pair) (remote_address q.conn.pair))
      where
        segment-md5 : a.segment ≡ rechecked v.high v.low (with_ports p.remote_port p.local_port (digested_with digest s))
        segment-md5 =
            segment-is q e x b g p a v
            ∙ ap (λ (o : List ℕ). rechecked v.high v.low (with_ports p.remote_port p.local_port (with_option o s)))
            (on-md5 e q x s way)
