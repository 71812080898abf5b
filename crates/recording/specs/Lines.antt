-- The lines that are printed, as bytes of ASCII: document 02, Ticket 1.
use Rattle.std.specs.Prelude.{ℕ, zero, suc, ◌+◌, ◌/◌, ◌%◌, cond, List, [], ◌∷◌, ◌++◌, nat_lt}
use Rattle.rules.specs.declared.Verdict.{Verdict}
use Rattle.rules.specs.declared.Verdict.TheVariants.{Accept, Pass, Drop}
use Rattle.recording.specs.declared.line.Line.{Line}
use Rattle.recording.specs.declared.line.Line.TheVariants.{Nothing, Segment, Fault, Refused}

-- the last k digits of a number, the highest first, and no zero in front of a number of fewer digits
unfoldable pub digits : ℕ → ℕ → List ℕ
digits zero n = []
digits (suc k) n = cond (nat_lt n 10) ((48 + n) ∷ []) (digits k (n / 10) ++ ((48 + n % 10) ∷ []))

-- "in decimal": no number that is printed has more than twenty digits, since each is below 2^64
unfoldable pub decimal : ℕ → List ℕ
decimal n = digits 20 n

-- "one line per segment: index, verdict number, extension"; "Accept prints as number 0; a drop's extension prints as 0". Judging with a
-- state never passes; 1 would be its number.
abbrev pub verdict_line_of : ℕ → Verdict → Line
verdict_line_of i (Accept e) = Segment i 0 e
verdict_line_of i Pass = Segment i 1 0
verdict_line_of i (Drop n) = Segment i n 0

-- "in decimal with one space between"; "a last line of 38 and the record's index"; "01's number alone". Each line ends with a newline.
unfoldable pub line_text : Line → List ℕ
line_text Nothing = []
line_text (Segment i n e) = decimal i ++ (32 ∷ decimal n ++ (32 ∷ decimal e ++ (10 ∷ [])))
line_text (Fault i) = 51 ∷ 56 ∷ 32 ∷ decimal i ++ (10 ∷ [])
line_text (Refused n) = decimal n ++ (10 ∷ [])
