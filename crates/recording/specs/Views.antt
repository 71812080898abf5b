-- What the code's desk means: every value of the struct, with any buffer beside it that holds its table, is a desk. Assumes nothing.
use Rattle.std.specs.Prelude.{◌≡◌, ℕ, ◌-◌, ◌%◌, min, cond, List, [], ◌++◌, length, take, drop, slice_index}
use Rattle.recording.specs.declared.line.Line.{Line}
use Rattle.recording.specs.declared.desk.Desk as C
use Rattle.recording.specs.declared.desk.Step.{Step}
use Rattle.recording.specs.Lines.{line_text}
use Rattle.recording.specs.Recording.{Desk, kind_of, record_bytes_of, start, is_stopped, absorb, finished}

-- how many bytes of the record that is begun are held: fewer than such a record has
abbrev pub held_count : C.Desk → ℕ
held_count c = c.held % record_bytes_of (slice_index c.begun 0)

-- the buffer's first bytes are the table; `printed` is what was printed before, which the struct does not hold
abbrev pub desk_view : List ℕ → List ℕ → C.Desk → Desk
desk_view printed table c =
    record {
      stage = c.stage;
      table = take c.table_length table;
      held = take (held_count c) c.begun;
      records = c.records;
      segments = c.segments;
      state = c.state;
      printed = printed;
    }

-- What a call gives, on the desk of c and its buffer: the desk that `after` makes of it, whatever was printed before, and a line, which is
-- all that is printed; of the buffer only the table's bytes change.
pub record Given (c : C.Desk) (buffer : List ℕ) (after : Desk → Desk) (r : C.Desk) (line : Line) (left : List ℕ) : Type 0 where
  pub desk : (printed : List ℕ) → desk_view (printed ++ line_text line) left r ≡ after (desk_view printed buffer c)
  pub behind : left ≡ take r.table_length left ++ drop r.table_length buffer

-- how many bytes of s belong to the record of which h is there, or to the one that they begin
abbrev pub record_part : List ℕ → List ℕ → ℕ
record_part h s = min (record_bytes_of (kind_of (h ++ s)) - length h) (length s)

-- how many bytes a call takes: up to the end of a record, or all that there are; all where the desk has stopped
abbrev pub taken : Desk → List ℕ → ℕ
taken d s = cond (is_stopped d) (length s) (record_part d.held s)

-- The calls.

-- `Desk::new`: nothing has been read, whatever the buffer is
abbrev pub Fresh : C.Desk → Type 0
Fresh c = (table : List ℕ) → desk_view [] table c ≡ start

-- `Desk::advance` on some bytes: those that it takes are absorbed, with as much of the table as the buffer holds
pub record Advanced (c : C.Desk) (buffer bytes : List ℕ) (s : Step) (left : List ℕ) : Type 0 where
  pub desk : Given c buffer (λ d. absorb (take (length buffer)) d (take s.took bytes)) s.desk s.line left
  pub took : s.took ≡ taken (desk_view [] buffer c) bytes
  pub room : length left ≡ length buffer

-- `Desk::finish`: the line that stands at the end
abbrev pub Ended : C.Desk → Line → Type 0
Ended c line = (printed table : List ℕ) → finished (desk_view printed table c) ≡ printed ++ line_text line
