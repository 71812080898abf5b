-- What the desk check promises, as statements: document 02, Ticket 1. The laws that prove them are in RecordingLaws, KeptLaws, LiveLaws
-- and RunLaws.
use Rattle.std.specs.Prelude.{◌≡◌, ℕ, ◌+◌, ◌*◌, ◌^◌, ◌<◌, ◌≤◌, true, ◌⊎◌, List, [], ◌∷◌, ◌++◌, map, length, take, drop, ◌≢◌}
use Rattle.octets.specs.Each.{Each}
use Rattle.keys.specs.Entry.{is_family_of}
use Rattle.keys.specs.Table.{loaded}
use Rattle.keys.specs.declared.table.TableKind.TheVariants.{Keys}
use Rattle.std.specs.Prelude.{Ok}
use Rattle.tables.specs.declared.Index.{Index}
use Rattle.rules.specs.declared.Outcome.TheVariants.{Bad}
use Rattle.rules.specs.declared.Verdict.{Verdict}
use Rattle.rules.specs.Connection.{Arrival}
use Rattle.rules.specs.Calls.{unrefused}
use Rattle.rules.specs.Demand3.{judge_all}
use Rattle.recording.specs.declared.desk.Desk as C
use Rattle.recording.specs.declared.desk.Step.{Step}
use Rattle.recording.specs.declared.line.Line.{Line}
use Rattle.recording.specs.declared.line.Line.TheVariants.{Fault, Refused}
use Rattle.recording.specs.Lines.{verdict_line_of, line_text}
use Rattle.recording.specs.Recording.{kind_of, entry_length, entry_bytes, used_length, segment_bytes, next, Desk, is_stopped}
use Rattle.recording.specs.Recording.{desk_entries, desk_tables, open_pair_of, open_outcome_of, open_state_of, arrival_from}
use Rattle.recording.specs.Recording.{absorb, text_of, desk_text}
use Rattle.recording.specs.Views.{Fresh, Advanced, Ended}

-- "reads it in pieces": wherever a recording is cut, the pieces one after another are the whole
abbrev pub Pieces : Type 0
Pieces = (keep : List ℕ → List ℕ) (d : Desk) (a b : List ℕ) → absorb keep d (a ++ b) ≡ absorb keep (absorb keep d a) b

-- "stops it with a last line": nothing that follows is read or printed
abbrev pub LastLine : Type 0
LastLine = (keep : List ℕ → List ℕ) (d : Desk) (s : List ℕ) → is_stopped d ≡ true → absorb keep d s ≡ d

-- A buffer for the table that is long enough: no entry has more than 129 bytes, and one byte more shows that a 65th begins.

abbrev pub enough : ℕ
enough = 129 * desk_entries + 1

-- a table that has more bytes is judged as if all of them were kept
abbrev pub TableKept : Type 0
TableKept = (room : ℕ) (t : List ℕ) → enough ≤ room → loaded Keys desk_entries (take room t) ≡ loaded Keys desk_entries t

-- and any recording is printed as if they were
abbrev pub TextKept : Type 0
TextKept = (room : ℕ) (s : List ℕ) → enough ≤ room → text_of (take room) s ≡ desk_text s

-- A good recording: entries, one opening, segments.

pub record IsEntry (r : List ℕ) : Type 0 where
  pub kind : kind_of r ≡ 1
  pub size : length r ≡ 131
  pub fits : entry_length r ≤ 129

pub record IsOpening (r : List ℕ) : Type 0 where
  pub kind : kind_of r ≡ 2
  pub size : length r ≡ 48

pub record IsSegment (r : List ℕ) : Type 0 where
  pub kind : kind_of r ≡ 3
  pub size : length r ≡ 1601
  pub fits : used_length r ≤ 1598

abbrev pub joined : List (List ℕ) → List ℕ
joined [] = []
joined (r ∷ l) = r ++ joined l

-- "All entries, joined in order, make the table"
abbrev pub table_of : List (List ℕ) → List ℕ
table_of entries = joined (map entry_bytes entries)

-- the segments as they arrive on the connection that the opening names
abbrev pub arrivals : List ℕ → List (List ℕ) → List Arrival
arrivals opening segments = map (λ r. arrival_from (open_state_of opening) (segment_bytes r)) segments

-- "one line per segment", counted from i
abbrev pub lines_from : ℕ → List Verdict → List ℕ
lines_from i [] = []
lines_from i (v ∷ l) = line_text (verdict_line_of i v) ++ lines_from (next i) l

-- "What it prints must be what the live calls would give": of a good recording that neither 18, 10 to 17 nor 35 refuses, the lines are the
-- verdicts of judging its segments one after another, each in the state that the one before left, from the state just after the opening
abbrev pub Live : Type 0
Live = (entries : List (List ℕ)) (opening : List ℕ) (segments : List (List ℕ))
    → Each IsEntry entries → IsOpening opening → Each IsSegment segments
    → open_outcome_of (table_of entries) opening ≡ unrefused
    → desk_text (joined entries ++ (opening ++ joined segments))
    ≡ lines_from 0 (judge_all (desk_tables (table_of entries)) (open_state_of opening) (arrivals opening segments)).verdicts

-- "A cut, unknown or misplaced record, .. or a used length above 1,598", of what stands behind the opening and the segments: its kind is
-- not a segment's, its used length is above 1,598, or it is not whole
abbrev pub Spoiled : List ℕ → Type 0
Spoiled r = (kind_of r ≢ 3) ⊎ ((1598 < used_length r) ⊎ (length r < 1601))

-- "stops it with a last line of 38 and the record's index": before it stand the lines of the segments before it, as above, and behind it
-- nothing. No recording has 2^64 records.
abbrev pub LiveStopped : Type 0
LiveStopped = (entries : List (List ℕ)) (opening : List ℕ) (segments : List (List ℕ)) (rest : List ℕ)
    → Each IsEntry entries → IsOpening opening → Each IsSegment segments
    → open_outcome_of (table_of entries) opening ≡ unrefused
    → length entries + 1 + length segments < 2 ^ 64
    → 0 < length rest → Spoiled rest
    → desk_text (joined entries ++ (opening ++ (joined segments ++ rest)))
    ≡ lines_from 0 (judge_all (desk_tables (table_of entries)) (open_state_of opening) (arrivals opening segments)).verdicts
    ++ line_text (Fault (length entries + 1 + length segments))

-- The same before the opening: the kind is neither an entry's nor the opening's, an entry length is above 129, or the record is not whole;
-- where nothing follows, it is "an end before the opening". No line stands before the last one.
abbrev pub SpoiledEntry : List ℕ → Type 0
SpoiledEntry r =
    ((kind_of r ≢ 1) × (kind_of r ≢ 2))
    ⊎ (((kind_of r ≡ 1) × ((129 < entry_length r) ⊎ (length r < 131))) ⊎ ((kind_of r ≡ 2) × (length r < 48)))

abbrev pub EntriesStopped : Type 0
EntriesStopped = (entries : List (List ℕ)) (rest : List ℕ) → Each IsEntry entries → length entries < 2 ^ 64
    → (length rest ≡ 0) ⊎ SpoiledEntry rest → desk_text (joined entries ++ rest) ≡ line_text (Fault (length entries))

-- "a bad table or opening .. with 01's number alone": behind the entries and the opening nothing more is read
abbrev pub OpeningRefused : Type 0
OpeningRefused = (entries : List (List ℕ)) (opening rest : List ℕ) (n : ℕ) (i : Index)
    → Each IsEntry entries → IsOpening opening
    → open_outcome_of (table_of entries) opening ≡ Bad n i
    → desk_text (joined entries ++ (opening ++ rest)) ≡ line_text (Refused n)

-- "Ticket 1's program stays at 64 entries", with the numeral: where u is a valid table of exactly 64 entries, one byte b more behind it,
-- whatever follows, is refused with 12 at the entry that b begins, the 65th
abbrev pub DeskLimit : Type 0
DeskLimit = (u s opening : List ℕ) (b : ℕ) → is_family_of (open_pair_of opening).family ≡ true → loaded Keys 64 u ≡ Ok 64
    → open_outcome_of (u ++ (b ∷ s)) opening ≡ Bad 12 (record { table = 0; entry = 64 })

-- and no other table is refused with 12
abbrev pub LimitDesk : Type 0
LimitDesk = (t opening : List ℕ) (i : Index) → open_outcome_of t opening ≡ Bad 12 i
    → (i ≡ record { table = 0; entry = 64 })
    × (u : List ℕ) × (b : ℕ) × (s : List ℕ) × (t ≡ u ++ (b ∷ s)) × (loaded Keys 64 u ≡ Ok 64)

-- so of a recording whose entries make such a table "12" and a newline are printed, and nothing else
abbrev pub LimitPrinted : Type 0
LimitPrinted = (entries : List (List ℕ)) (opening rest u s : List ℕ) (b : ℕ)
    → Each IsEntry entries → IsOpening opening → is_family_of (open_pair_of opening).family ≡ true
    → table_of entries ≡ u ++ (b ∷ s) → loaded Keys 64 u ≡ Ok 64
    → desk_text (joined entries ++ (opening ++ rest)) ≡ 49 ∷ 50 ∷ 10 ∷ []

-- The calls of a caller: the pieces of a recording, as they come, are given to `Desk::advance`, each until it is used up, and the lines are
-- printed one behind another. Where the desk has stopped, the caller may stop too, whatever would come.
pub data Run : C.Desk → List ℕ → List (List ℕ) → List ℕ → C.Desk → List ℕ → Type 0 where
  over : {c : C.Desk} {buffer : List ℕ} → Run c buffer [] [] c buffer
  halts : {c : C.Desk} {buffer : List ℕ} {pieces : List (List ℕ)} → 1 < c.stage → Run c buffer pieces [] c buffer
  used : {c r : C.Desk} {buffer printed left : List ℕ} {pieces : List (List ℕ)} → Run c buffer pieces printed r left
      → Run c buffer ([] ∷ pieces) printed r left
  call : {c r : C.Desk} {buffer piece after printed left : List ℕ} {pieces : List (List ℕ)} (s : Step) → Advanced c buffer piece s after
      → Run s.desk after (drop s.took piece ∷ pieces) printed r left
      → Run c buffer (piece ∷ pieces) (line_text s.line ++ printed) r left

-- what is so printed, and the last line, is the text of the joined pieces, wherever they are cut, if the buffer is long enough
abbrev pub RunText : Type 0
RunText = (c r : C.Desk) (buffer left printed : List ℕ) (pieces : List (List ℕ)) (last : Line) → Fresh c → enough ≤ length buffer
    → Run c buffer pieces printed r left → Ended r last → printed ++ line_text last ≡ desk_text (joined pieces)

-- and each call takes a byte, if there is one, so that there are no more calls than bytes
abbrev pub TakesSome : Type 0
TakesSome = (c : C.Desk) (buffer bytes left : List ℕ) (s : Step) → Advanced c buffer bytes s left
    → (s.took ≤ length bytes) × (0 < length bytes → 0 < s.took)
