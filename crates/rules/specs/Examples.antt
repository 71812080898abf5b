-- Document 01's examples P1 to P12, as one table under one statement. ExampleLaws proves it.
use Rattle.std.specs.Prelude.{ℕ, ◌≡◌, Bool, true, false, List, [], ◌∷◌, ◌++◌, map, replicate}
use Rattle.keys.specs.Match.{overlap}
use Rattle.keys.specs.declared.entry.Selector.{Selector}
use Rattle.keys.specs.declared.entry.Side.{Side}
use Rattle.rules.specs.Position.{position}
use Rattle.rules.specs.Answers.{Answer, answer, place_answer}

-- "Reference, number, result", and whether two entries' ranges overlap
pub data Question : Type 0 where
  place : (reference number : ℕ) → Question
  overlapping : (one other : Selector) → Question

pub data Reply : Type 0 where
  gives : Answer → Reply
  says : Bool → Reply

abbrev pub reply : Question → Reply
reply (place reference number) = gives (place_answer 28 (position reference number))
reply (overlapping one other) = says (overlap one other)

pub record Row : Type 0 where
  pub question : Question
  pub expected : Reply

-- one side of an IPv4 entry, and entries that differ in their local side alone: a network, a range of ports
abbrev side : List ℕ → ℕ → ℕ → ℕ → Side
side a bits low high = record { low = low; high = high; bits = bits; address = a ++ replicate 12 0 }

abbrev entry_for_lem : Side → Selector
entry_for_lem s = record { family = 4; local = s; remote = side (0 ∷ 0 ∷ 0 ∷ 0 ∷ []) 0 0 65535 }

abbrev net : List ℕ → ℕ → Selector
net a bits = entry_for_lem (side a bits 0 65535)

abbrev ports : ℕ → ℕ → Selector
ports low high = entry_for_lem (side (0 ∷ 0 ∷ 0 ∷ 0 ∷ []) 0 low high)

abbrev at : ℕ → ℕ → ℕ → Row
at reference number x = record { question = place reference number; expected = gives (answer 0 x) }

abbrev nowhere : ℕ → ℕ → Row
nowhere reference number = record { question = place reference number; expected = gives (answer 28 0) }

abbrev pub P1-P12 : List Row
P1-P12 =
    at 0x0_FFFFFFF0 0x00000010 0x1_00000010
    ∷ at 0x1_00000010 0xFFFFFFF0 0x0_FFFFFFF0
    ∷ nowhere 0x0_00000010 0xFFFFFFF0
    ∷ at 0x1_00000000 0x7FFFFFFF 0x1_7FFFFFFF
    ∷ nowhere 0x1_00000000 0x80000000
    ∷ at 0x1_00000000 0x80000001 0x0_80000001
    ∷ nowhere 0xFFFFFFFF_FFFFFFFE 0x00000001
    ∷ at 0x1_00000010 0x00009000 0x1_00009000
    ∷ at 0x0_00000000 0x00000000 0x0_00000000
    ∷ record { question = overlapping (net (10 ∷ 0 ∷ 0 ∷ 0 ∷ []) 8) (net (10 ∷ 1 ∷ 0 ∷ 0 ∷ []) 16); expected = says true }
    ∷ record { question = overlapping (ports 100 178) (ports 179 179); expected = says false }
    ∷ record { question = overlapping (ports 100 179) (ports 179 179); expected = says true }
    ∷ []

-- The statement: each question gets its reply.
abbrev pub Examples : Type 0
Examples = map (λ (r : Row). reply r.question) P1-P12 ≡ map (λ (r : Row). r.expected) P1-P12
