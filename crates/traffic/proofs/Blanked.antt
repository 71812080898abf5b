-- A flow whose hidden sides are blanked: zeros in the address fields are zeros in the addresses. Assumes nothing.
use Rattle.std.specs.Prelude.{ℕ, ◌≡◌, Bool, true, false, cond, List, length, take, replicate, refl, eqb}
use Rattle.std.proofs.Common.{sym, ap, ◌∙◌, arith}
use Rattle.std.proofs.lemmas.List.{length-take-le}
use Rattle.keys.specs.Entry.{width}
use Rattle.rules.specs.declared.Hidden.{Hidden}
use Rattle.rules.specs.Mac.{address_under, port_under_lem, blanked}
use Rattle.traffic.specs.Flow.{flow_of}
use Rattle.traffic.specs.declared.flow.Flow.{Flow}

-- a field of zeros, and one that is left
under : (hidden : Bool) (f : ℕ) (l : List ℕ) → length l ≡ 16
    → take {A = ℕ} (width f) (cond hidden (replicate 16 0) l) ≡ address_under hidden (take (width f) l)
unfolding width
under false f l h = refl
under true f l h = go (eqb f 4)
  where
    go : (four : Bool) → take {A = ℕ} (cond four 4 16) (replicate 16 0) ≡ replicate (length (take (cond four 4 16) l)) 0
    go true = ap (λ (n : ℕ). replicate n 0) (sym (length-take-le 4 l (omega arith)))
    go false = ap (λ (n : ℕ). replicate n 0) (sym (length-take-le 16 l (omega arith)))

-- the flow that the code makes, by which sides are hidden
abbrev pub seen : Bool → Bool → Flow → Flow
seen s d w =
    record {
      family = w.family;
      source = cond s (replicate 16 0) w.source;
      destination = cond d (replicate 16 0) w.destination;
      source_port = port_under_lem s w.source_port;
      destination_port = port_under_lem d w.destination_port;
      source_isn = w.source_isn;
      destination_isn = w.destination_isn;
    }

abbrev pub without_destination : Flow → Flow
without_destination f =
    record {
      family = f.family;
      source = f.source;
      destination = replicate 16 0;
      source_port = f.source_port;
      destination_port = 0;
      source_isn = f.source_isn;
      destination_isn = f.destination_isn;
    }

pub flow-seen : (v : Hidden) (w : Flow) {s d : Bool} {r : Flow} → length w.source ≡ 16 → length w.destination ≡ 16
    → v.source ≡ s → v.destination ≡ d → r ≡ seen s d w → flow_of r ≡ blanked v (flow_of w)
flow-seen v w ls ld es ed e =
    ap flow_of (e ∙ (λ i. seen (sym es i) (sym ed i) w))
    ∙ (λ i. record {
      source = under v.source w.family w.source ls i;
      destination = under v.destination w.family w.destination ld i;
      source_port = port_under_lem v.source w.source_port;
      destination_port = port_under_lem v.destination w.destination_port;
      source_isn = w.source_isn;
      destination_isn = w.destination_isn;
    })
