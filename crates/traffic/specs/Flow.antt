-- What a value of the code's Flow means: a flow of the crate `rules`. Every value means one.
use Rattle.std.specs.Prelude.{ℕ, cond, List, [], ◌∷◌, ◌++◌, take, eqb}
use Rattle.octets.specs.Octets.{bytes16, bytes32}
use Rattle.keys.specs.Entry.{width}
use Rattle.rules.specs.Mac as rules
use Rattle.traffic.specs.declared.flow.Flow.{Flow}

abbrev pub flow_of : Flow → rules.Flow
flow_of w =
    record {
      source = take (width w.family) w.source;
      destination = take (width w.family) w.destination;
      source_port = w.source_port;
      destination_port = w.destination_port;
      source_isn = w.source_isn;
      destination_isn = w.destination_isn;
    }

-- what `pseudo_header` of the crate `rules` has behind the addresses, by the source's length
abbrev pub pseudo_end_of : ℕ → ℕ → List ℕ
pseudo_end_of bytes n = cond (eqb bytes 4) ((0 ∷ 6 ∷ []) ++ bytes16 n) (bytes32 n ++ (0 ∷ 0 ∷ 0 ∷ 6 ∷ []))
