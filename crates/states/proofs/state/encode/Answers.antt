-- `state::encode`: the parts are the state's bytes; and a value of the type has what the round trip asks of it.
use Rattle.std.proofs.Common.{◌≡◌, List, ℕ, ◌++◌, get_or, sym, ap, ◌∙◌, w64, Fits, rules}
use Rattle.states.specs.LayoutLaws.{Value, from_local, parts, decode-encode}
use Rattle.states.specs.Layout.{encode_of, decode_of}
use Rattle.states.proofs.state.encode.Goals as goal

bytes-are : (c : goal.After-join) → c.join.result ≡ encode_of c.args.s
bytes-are c = c.join.ensures ∙ ap (λ (l : List ℕ). l ++ from_local c.args.s) c.head.ensures ∙ sym (parts c.args.s)

value : (c : goal.After-join) → Value c.args.s
value c =
    record {
      typed =
          record {
            sent = search rules;
            seen = search rules;
            isn = search rules;
            peer = search rules;
            local = search rules;
            remote = search rules;
            counts = search rules;
          };
      local-port = search rules;
      remote-port = search rules;
      accepted = search rules;
      drops = λ i. let f : Fits w64 (get_or c.args.s.drops i 0) = search rules in f.fits;
    }

pub returns : goal.returns
returns c = record { bytes = bytes-are c; back = ap decode_of (bytes-are c) ∙ decode-encode _ (value c) }
