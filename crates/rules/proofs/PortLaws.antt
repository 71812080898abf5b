-- The two ports at a header's beginning: bytes that are written there, apart from the checksum, and read again.
use Rattle.std.specs.Prelude.{ℕ, ◌+◌, ◌*◌, ◌/◌, ◌%◌, ◌^◌, ◌≤◌, ◌<◌, ◌≡◌, refl, false, cond, List, [], ◌∷◌, length, get_or}
use Rattle.std.proofs.Common.{arith}
use Rattle.octets.specs.Each.{Octets}
use Rattle.wire.specs.Header.{source_port_of, destination_port_of}
use Rattle.rules.specs.declared.Hidden.{Hidden}
use Rattle.rules.proofs.MacLaws.{port-under}
use Rattle.rules.specs.Ends.{rechecked, with_ports}

-- the four bytes of the ports, by name, so that what is read of them computes
pub record Ports : Type 0 where
  pub b0 : ℕ
  pub b1 : ℕ
  pub b2 : ℕ
  pub b3 : ℕ

abbrev pub ports_of_lem : List ℕ → Ports
ports_of_lem s = record { b0 = get_or s 0 0; b1 = get_or s 1 0; b2 = get_or s 2 0; b3 = get_or s 3 0 }

-- ports that are written, and ports of which the MAC sees only what is not hidden
abbrev pub written : ℕ → ℕ → Ports
written sp dp = record { b0 = sp / 2 ^ 8 % 256; b1 = sp % 256; b2 = dp / 2 ^ 8 % 256; b3 = dp % 256 }

abbrev pub unhidden : Hidden → Ports → Ports
unhidden v u =
    record {
      b0 = cond v.source 0 u.b0;
      b1 = cond v.source 0 u.b1;
      b2 = cond v.destination 0 u.b2;
      b3 = cond v.destination 0 u.b3;
    }

-- a port's two bytes
high_byte : (n a b : ℕ) → n ≡ a * 2 ^ 8 + b → a < 256 → b < 256 → n / 2 ^ 8 % 256 ≡ a
high_byte n a b e p q = omega arith

low_byte : (n a b : ℕ) → n ≡ a * 2 ^ 8 + b → b < 256 → n % 256 ≡ b
low_byte n a b e q = omega arith

-- the MAC sees the same of ports that are written, if each is hidden or was there
pub unhidden-same : (v : Hidden) (sp dp : ℕ) (s : List ℕ) → Octets s
    → (v.source ≡ false → sp ≡ source_port_of s) → (v.destination ≡ false → dp ≡ destination_port_of s)
    → unhidden v (written sp dp) ≡ unhidden v (ports_of_lem s)
unhidden-same v sp dp s octets source destination = λ j. record {
  b0 = port-under v.source _ _ (λ h. high_byte sp (get_or s 0 0) (get_or s 1 0) (source h) (octets 0) (octets 1)) j;
  b1 = port-under v.source _ _ (λ h. low_byte sp (get_or s 0 0) (get_or s 1 0) (source h) (octets 1)) j;
  b2 = port-under v.destination _ _ (λ h. high_byte dp (get_or s 2 0) (get_or s 3 0) (destination h) (octets 2) (octets 3)) j;
  b3 = port-under v.destination _ _ (λ h. low_byte dp (get_or s 2 0) (get_or s 3 0) (destination h) (octets 3)) j;
}

-- ports that are written are read again; and a segment's own ports, written, leave it
pub read_again : (n : ℕ) → n < 2 ^ 16 → n / 2 ^ 8 % 256 * 2 ^ 8 + n % 256 ≡ n
read_again n h = omega arith

abbrev pub Small : Ports → Type 0
Small u = (u.b0 < 256) × (u.b1 < 256) × (u.b2 < 256) × (u.b3 < 256)

pub own-ports : (s : List ℕ) → 4 ≤ length s → Small (ports_of_lem s) → with_ports (source_port_of s) (destination_port_of s) s ≡ s
own-ports (x ∷ (y ∷ (z ∷ (w ∷ s)))) long h = λ j.
    high_byte (x * 2 ^ 8 + y) x y refl h.0 h.1 j
    ∷ low_byte (x * 2 ^ 8 + y) x y refl h.1 j
    ∷ high_byte (z * 2 ^ 8 + w) z w refl h.2 h.3 j
    ∷ low_byte (z * 2 ^ 8 + w) z w refl h.3 j
    ∷ s
own-ports (x ∷ (y ∷ (z ∷ []))) long h = absurd (omega arith)
own-ports (x ∷ (y ∷ [])) long h = absurd (omega arith)
own-ports (x ∷ []) long h = absurd (omega arith)
own-ports [] long h = absurd (omega arith)

-- another checksum leaves the ports
pub rechecked-ports : (c d : ℕ) (s : List ℕ) → 4 ≤ length s → ports_of_lem (rechecked c d s) ≡ ports_of_lem s
rechecked-ports c d (x ∷ (y ∷ (z ∷ (w ∷ s)))) long = refl
rechecked-ports c d (x ∷ (y ∷ (z ∷ []))) long = absurd (omega arith)
rechecked-ports c d (x ∷ (y ∷ [])) long = absurd (omega arith)
rechecked-ports c d (x ∷ []) long = absurd (omega arith)
rechecked-ports c d [] long = absurd (omega arith)

-- ports and checksum stand apart
pub ports-then-checksum : (sp dp c d : ℕ) (s : List ℕ) → 18 ≤ length s
    → with_ports sp dp (rechecked c d s) ≡ rechecked c d (with_ports sp dp s)
ports-then-checksum sp dp c d (x ∷ (y ∷ (z ∷ (w ∷ s)))) long = refl
ports-then-checksum sp dp c d (x ∷ (y ∷ (z ∷ []))) long = absurd (omega arith)
ports-then-checksum sp dp c d (x ∷ (y ∷ [])) long = absurd (omega arith)
ports-then-checksum sp dp c d (x ∷ []) long = absurd (omega arith)
ports-then-checksum sp dp c d [] long = absurd (omega arith)
