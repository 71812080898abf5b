-- What a caller's calls print: one call after another absorbs the bytes that it takes, and printing goes on where it was. Assumes nothing.
use Rattle.std.specs.Prelude.{◌≡◌, ℕ, List, [], ◌∷◌, ◌++◌, length, take, drop}
use Rattle.std.proofs.Common.{sym, ap, ◌∙◌, append_assoc, append-nil, arith, take-append-drop, lt-ltb}
use Rattle.recording.specs.declared.desk.Desk as C
use Rattle.recording.specs.Lines.{line_text}
use Rattle.recording.specs.Recording.{Desk, absorb, finished}
use Rattle.recording.proofs.RecordingLaws.{absorb-append, absorb-stopped}
use Rattle.recording.specs.Views.{desk_view}
use Rattle.recording.proofs.ViewLaws.{taken-le, taken-some}
use Rattle.recording.specs.Live.{joined, Run, RunText, TakesSome}
use Rattle.recording.specs.Live.Run.{over, halts, used, call}
use Rattle.recording.proofs.KeptLaws.{text-kept}

-- the bytes that a call takes, and those that it leaves, before the pieces that follow
rejoined : (n : ℕ) (piece : List ℕ) (l : List (List ℕ)) → take n piece ++ joined (drop n piece ∷ l) ≡ joined (piece ∷ l)
rejoined n piece l =
    sym (append_assoc (take n piece) (drop n piece) (joined l)) ∙ ap (λ (x : List ℕ). x ++ joined l) (take-append-drop n piece)

run-view : {c r : C.Desk} {buffer printed left : List ℕ} {l : List (List ℕ)} → Run c buffer l printed r left → (p : List ℕ)
    → desk_view (p ++ printed) left r ≡ absorb (take (length buffer)) (desk_view p buffer c) (joined l)
unfolding absorb
run-view {c} {r} {buffer} over p = ap (λ (x : List ℕ). desk_view x buffer c) (append-nil p)
run-view {c} {r} {buffer} {printed} {left} {l} (halts h) p =
    ap (λ (x : List ℕ). desk_view x buffer c) (append-nil p)
    ∙ sym (absorb-stopped (take (length buffer)) (desk_view p buffer c) (joined l) (lt-ltb 1 c.stage h))
run-view (used u) p = run-view u p
run-view {c} {r} {buffer} (call {piece = piece} {after = after} {printed = printed} {left = left} {pieces = l} s a u) p =
    let keep : List ℕ → List ℕ = take (length buffer) in
    let d = desk_view p buffer c in
    ap (λ (x : List ℕ). desk_view x left r) (sym (append_assoc p (line_text s.line) printed))
    ∙ run-view u (p ++ line_text s.line)
    ∙ (λ i. absorb (take (a.room i)) (a.desk.desk p i) (joined (drop s.took piece ∷ l)))
    ∙ sym (absorb-append keep d (take s.took piece) (joined (drop s.took piece ∷ l)))
    ∙ ap (absorb keep d) (rejoined s.took piece l)

pub run-text : RunText
run-text c r buffer left printed l last f h u e =
    sym (e printed left)
    ∙ ap finished (run-view u [] ∙ ap (λ (d : Desk). absorb (take (length buffer)) d (joined l)) (f buffer))
    ∙ text-kept (length buffer) (joined l) h

pub takes-some : TakesSome
takes-some c buffer bytes left s a =
    let w = taken-le (desk_view [] buffer c) bytes in
    let t = a.took in
    (omega arith, λ h. let z = taken-some [] buffer c bytes h in omega arith)
