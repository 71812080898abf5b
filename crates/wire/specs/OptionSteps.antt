-- One option at a place of the area: what the private functions of `options` promise each other.
-- A reader need not believe these: the contract of `read` cites `Options` alone.
use Rattle.std.specs.Prelude.{ℕ, ◌+◌, ◌-◌, List, cond, Option, Some, None, length, get_or, ltb, leb, eqb}
use Rattle.std.specs.Option.{option_map}
use Rattle.wire.specs.declared.options.Step.{Step}
use Rattle.wire.specs.declared.options.Step.TheVariants as S
use Rattle.wire.specs.declared.options.Occurrence.{Occurrence}

unfoldable pub length_at_lem : List ℕ → ℕ → ℕ → Option ℕ
length_at_lem s at low =
    cond (leb (length s) (at + 1)) None
    (cond (ltb (get_or s (at + 1) 0) low) None
    (cond (ltb (1 + (length s - (at + 1))) (get_or s (at + 1) 0)) None
    (Some (get_or s (at + 1) 0))))

abbrev pub kind_step : ℕ → (ℕ → Option ℕ) → Option Step
kind_step k l =
    cond (eqb k 0) (Some S.End)
    (cond (eqb k 1) (Some S.Nop)
    (cond (eqb k 19) (option_map S.Md5 (l 2))
    (cond (eqb k 29) (option_map S.Ao (l 4))
    (option_map S.Other (l 2)))))

unfoldable pub step_at_lem : List ℕ → ℕ → Option Step
step_at_lem s at = kind_step (get_or s at 0) (length_at_lem s at)

abbrev pub none : Occurrence
none = record { count = 0; at = 0; len = 0 }

-- one occurrence more, the later one last
unfoldable pub noted : Occurrence → ℕ → ℕ → Occurrence
noted o at len =
    cond (eqb o.count 0) (record { count = 1; at = at; len = len }) (record { count = o.count + 1; at = o.at; len = o.len })
