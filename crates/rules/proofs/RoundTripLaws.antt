-- TCP-AO put into a segment, as it arrives, with any checksum and any ports in it, read by the receiver's definitions.
use Prim.Native.Nat.{ℕ, ◌+◌, ◌-◌, ◌/◌}
use Rattle.std.specs.Prelude.{◌≡◌, refl, Bool, true, false, cond, get_or, take, drop, replicate, Some}
use Rattle.std.proofs.Math.Path.{ap, ap₂, subst⁻¹}
use Rattle.std.proofs.Common.{sym, ◌∙◌, arith, length-append, take_at, drop-drop, get_or-drop}
use mathlib.Core.List.{List, [], ◌∷◌, ◌++◌, append_assoc}
use Rattle.std.proofs.Math.ListN.{length}
use Rattle.std.proofs.lemmas.List.{length-replicate}
use Rattle.std.proofs.Math.Seq.{drop-append-add, drop-append_seam}
use Rattle.wire.specs.Header.{source_port_of, destination_port_of, sequence, header_end_of, syn, ack, area}
use Rattle.wire.specs.Options.{options_of}
use Rattle.wire.specs.declared.options.Seen.{Seen}
use Rattle.octets.specs.Octets.{bytes32}
use Rattle.octets.specs.Each.{Octets}
use Rattle.keys.specs.declared.entry.Secret.{Secret}
use Rattle.keys.specs.Entry.{all_options}
use Rattle.rules.specs.declared.Hidden.{Hidden}
use Rattle.rules.specs.Mac.{Flow, pseudo_header, blank_if_of, ports_blanked_of, zeroed, covered_header, front, message}
use Rattle.rules.specs.Segment.{malformed, ao, md5, key_id_of, rnext_key_id, mac_in, padding, option_of, option_bytes, signed_with, Whole}
use Rattle.rules.specs.Ends.{rechecked, with_ports}
use Rattle.rules.proofs.PortLaws.{Ports, ports_of_lem, written, unhidden, unhidden-same}
use Rattle.rules.proofs.InsertedLaws.{Head, cells, head_of, Fresh, Put, put, put-again, only}

ports-cells : (v : Hidden) (u : Ports) (h : Head) (w c d : ℕ) (l : List ℕ)
    → ports_blanked_of v (cells u h w c d ++ l) ≡ cells (unhidden v u) h w c d ++ l
ports-cells v u h w c d l = go v.source v.destination
  where
    go : (a b : Bool)
        → blank_if_of b 2 2 (blank_if_of a 0 2 (cells u h w c d ++ l)) ≡ cells (unhidden (record { source = a; destination = b }) u) h w c d ++ l
    go true true = refl
    go true false = refl
    go false true = refl
    go false false = refl

-- a zeroed header whole, or without the options that flag 0 leaves out
abbrev shortened : Bool → ℕ → List ℕ → List ℕ
shortened all n z = cond all z (take 20 z ++ take (4 + n) (drop 20 z))

-- what the receiver reads in a segment: one TCP-AO, directly after byte 20
pub record Reads (s : List ℕ) (k r : ℕ) (m : List ℕ) : Type 0 where
  pub formed : malformed s ≡ false
  pub one : ao s ≡ record { count = 1; at = 0; len = 4 + length m }
  pub no-md5 : (md5 s).count ≡ 0
  pub key : key_id_of s ≡ k
  pub next : rnext_key_id s ≡ r
  pub mac : mac_in s ≡ m

-- what signing with TCP-AO of k, r and m made of the segment s, as it arrives
pub record Arrived (s b : List ℕ) (k r : ℕ) (m : List ℕ) : Type 0 where
  pub reads : Reads b k r m
  pub its-length : length b ≡ length s + option_bytes (length m)
  pub its-end : header_end_of b ≡ header_end_of s + option_bytes (length m)
  pub number : sequence b ≡ sequence s
  pub its-syn : syn b ≡ syn s
  pub its-ack : ack b ≡ ack s

-- the padded option: its length, which fills whole words
pub length-option : (k r : ℕ) (m : List ℕ) → length (option_of k r m) ≡ option_bytes (length m)
length-option k r m = rw (length-append, length-replicate) (omega arith)

pub whole_words : (n : ℕ) → Whole (option_bytes n)
whole_words n = omega arith

-- what the MAC covers of the segment s with the ports u, where the MAC has n bytes and TCP-AO with it `added`
abbrev covered : Ports → List ℕ → Secret → Flow → ℕ → ℕ → ℕ → ℕ → ℕ → List ℕ
covered u s key f extension k r n added =
    bytes32 extension ++ pseudo_header f.source f.destination (length s + added)
    ++ shortened (all_options key) n
    (cells u (head_of s) (added / 4) 0 0 ++ ((29 ∷ (4 + n) ∷ k ∷ r ∷ replicate n 0) ++ (replicate (padding n) 1 ++ area s)))
    ++ drop (header_end_of s) s

-- TCP-AO of k, r and m, and what stands behind it
before : (k r : ℕ) (m l : List ℕ)
    → option_of k r m ++ l ≡ (29 ∷ (4 + length m) ∷ k ∷ r ∷ m) ++ (replicate (padding (length m)) 1 ++ l)
before k r m l = append_assoc (29 ∷ (4 + length m) ∷ k ∷ r ∷ m) (replicate (padding (length m)) 1) l

-- the MAC covers neither the checksum nor the MAC's own bytes
zeroed-option : (u : Ports) (h : Head) (w c d k r : ℕ) (m options : List ℕ)
    → zeroed 20 (length m) (cells u h w c d ++ (option_of k r m ++ options))
    ≡ cells u h w 0 0 ++ ((29 ∷ (4 + length m) ∷ k ∷ r ∷ replicate (length m) 0) ++ (replicate (padding (length m)) 1 ++ options))
zeroed-option u h w c d k r m options =
    ap (λ (l : List ℕ). zeroed 20 (length m) (cells u h w c d ++ l)) (before k r m options)
    ∙ ap (λ (l : List ℕ). cells u h w 0 0 ++ ((29 ∷ (4 + length m) ∷ k ∷ r ∷ replicate (length m) 0) ++ l))
    (drop-append-add (cells u h w 0 0 ++ (29 ∷ (4 + length m) ∷ k ∷ r ∷ [])) (m ++ behind) (length m)
    ∙ drop-append_seam m behind)
  where
    behind : List ℕ
    behind = replicate (padding (length m)) 1 ++ options

module _ (s : List ℕ) (fresh : Fresh s) (k r : ℕ) (m : List ℕ) where
  abbrev ours : List ℕ
  ours = option_of k r m

  pub whole-option : Whole (length ours)
  whole-option = subst⁻¹ Whole (length-option k r m) (whole_words (length m))

  -- b is s with this option, the ports u and the checksum c d
  module _ (u : Ports) (c d : ℕ) (b : List ℕ) (p : Put s ours u c d b) where
    abbrev alone : Seen
    alone = record { md5 = record { count = 0; at = 0; len = 0 }; ao = record { count = 1; at = 0; len = 4 + length m } }

    options-arrived : options_of (area b) ≡ Some alone
    options-arrived =
        only s fresh 29 (4 + length m) (padding (length m)) (k ∷ r ∷ m) (area b) (omega arith) (omega arith) (omega arith) p.its-area

    at_option : (i : ℕ) → get_or b (20 + i) 0 ≡ get_or (ours ++ drop 20 s) i 0
    at_option i = sym (get_or-drop 20 b i 0) ∙ ap (λ (l : List ℕ). get_or l i 0) p.behind

    carried-mac : take (4 + length m - 4) (drop 24 b) ≡ m
    carried-mac =
        ap (take (4 + length m - 4)) (sym (drop-drop 4 20 b) ∙ ap (drop 4) (p.behind ∙ before k r m (drop 20 s)))
        ∙ take_at m (replicate (padding (length m)) 1 ++ drop 20 s) (4 + length m - 4) (omega arith)

    reads_of : Reads b k r m
    reads_of =
        record {
          formed = rw options-arrived;
          one = rw options-arrived;
          no-md5 = rw options-arrived;
          key = rw options-arrived (at_option 2);
          next = rw options-arrived (at_option 3);
          mac = rw options-arrived carried-mac;
        }

    arrived-of : Arrived s b k r m
    arrived-of =
        record {
          reads = reads_of;
          its-length = p.its-length ∙ ap (λ (n : ℕ). length s + n) (length-option k r m);
          its-end = p.its-end ∙ ap (λ (n : ℕ). header_end_of s + n) (length-option k r m);
          number = p.number;
          its-syn = p.its-syn;
          its-ack = p.its-ack;
        }

    -- what is covered: a matter of the MAC's length, and of ports only where they are not hidden
    message-of : (key : Secret) (v : Hidden) (f : Flow) (extension : ℕ) → key.mac_bytes ≡ length m
        → message key v f extension 20 b ≡ covered (unhidden v u) s key f extension k r (length m) (option_bytes (length m))
    unfolding message front covered_header
    message-of key v f extension e =
        ap₂ (λ (h z : List ℕ). front key v f extension 20 (length b) h ++ z) p.its-header p.its-data
        ∙ ap (λ (n : ℕ). front key v f extension 20 n (cells u (head_of s) words c d ++ (ours ++ area s)) ++ rest) p.its-length
        ∙ ap (λ (l : List ℕ). starts ++ covered_header (all_options key) 20 key.mac_bytes l ++ rest)
        (ports-cells v u (head_of s) words c d (ours ++ area s))
        ∙ ap (λ (n : ℕ). starts ++ covered_header (all_options key) 20 n (cells (unhidden v u) (head_of s) words c d ++ (ours ++ area s)) ++ rest) e
        ∙ ap (λ (z : List ℕ). starts ++ shortened (all_options key) (length m) z ++ rest)
        (zeroed-option (unhidden v u) (head_of s) words c d k r m (area s))
        ∙ ap (covered (unhidden v u) s key f extension k r (length m)) (length-option k r m)
      where
        words : ℕ
        words = length ours / 4

        rest : List ℕ
        rest = drop (header_end_of s) s

        starts : List ℕ
        starts = bytes32 extension ++ pseudo_header f.source f.destination (length s + length ours)

  -- it arrives with the ports sp and dp and the checksum c d
  pub arrival : (sp dp c d : ℕ) → Arrived s (rechecked c d (with_ports sp dp (signed_with k r m s))) k r m
  arrival sp dp c d = arrived-of (written sp dp) c d _ (put-again s fresh ours whole-option sp dp c d)

  pub length-signed : length (signed_with k r m s) ≡ length s + option_bytes (length m)
  length-signed = (put s fresh ours whole-option).its-length ∙ ap (λ (n : ℕ). length s + n) (length-option k r m)

-- The MAC covers the same bytes at both ends, if the ports that are not hidden are those that were signed.
pub covers : (s : List ℕ) → Fresh s → (k r : ℕ) (m : List ℕ) (sp dp c d : ℕ) (key : Secret) (v : Hidden) (f : Flow) (extension : ℕ)
    → key.mac_bytes ≡ length m → Octets s → (v.source ≡ false → sp ≡ source_port_of s) → (v.destination ≡ false → dp ≡ destination_port_of s)
    → message key v f extension 20 (rechecked c d (with_ports sp dp (signed_with k r m s)))
    ≡ message key v f extension 20 (signed_with k r (replicate key.mac_bytes 0) s)
covers s fresh k r m sp dp c d key v f extension e octets source destination =
    message-of s fresh k r m (written sp dp) c d _ (put-again s fresh (option_of k r m) (whole-option s fresh k r m) sp dp c d) key v f extension e
    ∙ ap (λ (u : Ports). covered u s key f extension k r (length m) (option_bytes (length m))) (unhidden-same v sp dp s octets source destination)
    ∙ ap (λ (n : ℕ). covered (unhidden v (ports_of_lem s)) s key f extension k r n (option_bytes n)) (sym (n-zeros ∙ e))
    ∙ sym
    (message-of s fresh k r zeros (ports_of_lem s) 0 0 _ (put s fresh (option_of k r zeros) (whole-option s fresh k r zeros)) key v f extension
    (sym n-zeros))
  where
    zeros : List ℕ
    zeros = replicate key.mac_bytes 0

    n-zeros : length zeros ≡ key.mac_bytes
    n-zeros = length-replicate key.mac_bytes 0
