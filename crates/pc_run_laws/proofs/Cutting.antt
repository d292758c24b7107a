-- Where writes fail.
use Rattle.std.proofs.Common.{◌≡◌, ◌≢◌, ℕ, List, [], ◌∷◌, ◌++◌, refl, ◌∙◌, ap, take, append-nil, inl, inr}
use Rattle.std.specs.List.{flat_map}
use Rattle.pc_words.specs.Words.{Mode, replays, edits, checks, merges, posts, demonstrates, Request, FitsWords}
use Rattle.pc_refusals.specs.declared.status.Status.{Status}
use Rattle.pc_refusals.specs.declared.status.Status.TheVariants.{WriteFault}
use Rattle.pc_refusals.specs.Events.{Event, told, output_failed}
use Rattle.pc_refusals.specs.Stages.{Stage, tells, ends_with, ends}
use Rattle.pc_refusals.specs.Runs.{Tells, goes_on, ends_so, Comes, on_course, past_limit, without_memory, Run, ended, ended_with, read_failed, read_failed_at_file, write_failed}
use Rattle.pc_run_laws.specs.Flat.{told_in}
use Rattle.pc_run_laws.proofs.BackToStatus.{told-append, told_after, sheet_is_quiet}
use Rattle.pc_lines.specs.Lines.{line_text_of}
use Rattle.pc_transcript.specs.Answer.{Answer, answer_text}
use Rattle.pc_transcript.specs.Transcript.{Transcript, Legal, output_of}
use Rattle.pc_transcript.specs.Course.{events_of, IsLineTaken, has_answer, answers, Replay, from_input, has_sheet, Edit, has_file}
use Rattle.pc_judge.specs.Course.{Check}
use Rattle.pc_journal.specs.Course as journal
use Rattle.pc_journal.specs.Course.{answers_told, Merge, Posts}
use Rattle.pc_demo.specs.Course as demo
use Rattle.pc_demo.specs.Course.{Demo}
use Rattle.pc_spreadsheet.specs.Tasks.{State, Starts}
use Rattle.pc_spreadsheet.specs.Allowed.{Notes, Allows, RefusesText}
use Rattle.pc_replay.specs.Course.{CourseIn, Course, as_asked}
use Rattle.pc_run_laws.specs.Statuses.{IsOneMore, told_by, FailsToTell, at_last, at_loaded, at_answer, WritesFail}
use Rattle.pc_run_laws.proofs.Demonstrating as demonstrating
use Rattle.pc_run_laws.proofs.Ends.{EndsIn}
use Rattle.pc_run_laws.proofs.Sentences.{course_in}

-- an answer notes at most one more
abbrev pub AnswersNoteOne : Type 0
AnswersNoteOne = (old new : State × Notes) (line : List ℕ) (answer : Answer) → Allows old line answer new → IsOneMore old.1 new.1

-- ---- the piece that comes next

data NextPiece (mode : Mode) (notes notes' : Notes) (earlier : List Event) (piece : List ℕ) : Type 0 where
  of_loaded : (blocks : ℕ) → mode ≡ demonstrates blocks → notes' ≡ notes → earlier ≡ [] → NextPiece mode notes notes' earlier piece
  of_answer : (start end : State) (mid : State × Notes) (t : Transcript) (line : List ℕ) (answer : Answer) (first : List ℕ) → Legal Allows (start, notes) t mid → Allows mid line answer (end, notes')
      → told_in earlier ≡ first ++ flat_map (λ pair. told_by mode pair.1) t → piece ≡ told_by mode answer → NextPiece mode notes notes' earlier piece

line_is_quiet : (line : List ℕ) (taken : List Event) → IsLineTaken line taken → told_in taken ≡ []
line_is_quiet line taken is = elim is [
  | inl w ↦ ap told_in w.1
  | inr w ↦ ap told_in w.2
]

lines_told : (t : Transcript) (line : List ℕ) (taken more : List Event) → IsLineTaken line taken → more ≡ events_of t ++ taken → told_in more ≡ output_of t
lines_told t line taken more of_line is = ap told_in is ∙ told_after t taken ∙ ap (λ (xs : List ℕ). output_of t ++ xs) (line_is_quiet line taken of_line) ∙ append-nil (output_of t)

held_told : (t : Transcript) → told_in (answers_told t) ≡ output_of t
held_told [] = refl
held_told (pair ∷ more) = ap (λ (xs : List ℕ). answer_text pair.1 ++ xs) (held_told more)

replay_next : (budget : ℕ) (notes notes' : Notes) (earlier : List Event) (piece : List ℕ) → Replay (Starts budget) (RefusesText budget) Allows notes earlier (tells piece) notes' → NextPiece replays notes notes' earlier piece
replay_next budget notes notes' earlier piece (from_input (has_sheet text taken more sheet (answers start end starts (has_answer t mid line line_taken answer legal whole few of_line allowed more_is)) is)) =
    of_answer start end mid t (line_text_of line) answer [] legal allowed
    (ap told_in is ∙ told-append taken more ∙ ap (λ (xs : List ℕ). xs ++ told_in more) (sheet_is_quiet text taken sheet) ∙ lines_told t line line_taken more of_line more_is) refl

edit_next : (budget : ℕ) (file : List ℕ) (notes notes' : Notes) (earlier : List Event) (piece : List ℕ) → Edit (Starts budget) (RefusesText budget) Allows file notes earlier (tells piece) notes' → NextPiece (edits file) notes notes' earlier piece
edit_next budget file notes notes' earlier piece (has_file text more small (answers start end starts (has_answer t mid line line_taken answer legal whole few of_line allowed more_is)) is) =
    of_answer start end mid t (line_text_of line) answer [] legal allowed (ap told_in is ∙ lines_told t line line_taken more of_line more_is) refl

check_next : (file : List ℕ) (earlier : List Event) (piece : List ℕ) → Check file earlier (tells piece) → ⊥
check_next file earlier piece h = elim h [ ]

merge_next : (file : List ℕ) (earlier : List Event) (piece : List ℕ) (u : Unit {0}) → Merge file earlier (tells piece) u → ⊥
merge_next file earlier piece u (journal.has_file text more small (journal.text_is_journal a reads (journal.has_journal other b last few reads_b h last_is)) is) = elim h [ ]

posts_next : (budget : ℕ) (file : List ℕ) (notes notes' : Notes) (earlier : List Event) (piece : List ℕ) → Posts (Starts budget) (RefusesText budget) Allows file notes earlier (tells piece) notes' → NextPiece (posts file) notes notes' earlier piece
posts_next budget file notes notes' earlier piece (journal.has_file text more small (journal.has_sheet start end starts (journal.has_journal other a last few reads (journal.has_answer t mid line rest answer legal holds allowed last_is) more_is)) is) =
    of_answer start end mid t (line_text_of line) answer [] legal allowed (ap told_in is ∙ ap told_in more_is ∙ ap told_in last_is ∙ held_told t) refl

demo_next : (blocks budget : ℕ) (notes notes' : Notes) (earlier : List Event) (piece : List ℕ) → Demo blocks budget notes earlier (tells piece) notes' → NextPiece (demonstrates blocks) notes notes' earlier piece
demo_next blocks budget notes notes' earlier piece (demo.is_loaded start loaded loads none) = of_loaded blocks refl refl none
demo_next blocks budget notes notes' earlier piece (demo.has_answer start loaded t done mid end answer loads clears few allowed is) =
    of_answer start end mid t _ answer loaded clears.legal allowed (ap told_in is ∙ ap (λ (xs : List ℕ). loaded ++ xs) (demonstrating.answers_told t)) refl

next_piece : (mode : Mode) (budget : ℕ) (notes notes' : Notes) (earlier : List Event) (piece : List ℕ) → CourseIn mode budget notes earlier (tells piece) notes' → NextPiece mode notes notes' earlier piece
next_piece replays budget notes notes' earlier piece h = replay_next budget notes notes' earlier piece h
next_piece (edits file) budget notes notes' earlier piece h = edit_next budget file notes notes' earlier piece h
next_piece (checks file) budget notes notes' earlier piece h = absurd (check_next file earlier piece h.0)
next_piece (merges file) budget notes notes' earlier piece h = absurd (merge_next file earlier piece tt h.0)
next_piece (posts file) budget notes notes' earlier piece h = posts_next budget file notes notes' earlier piece h
next_piece (demonstrates blocks) budget notes notes' earlier piece h = demo_next blocks budget notes notes' earlier piece h

-- ---- the run

module _ (note_one : AnswersNoteOne) (words : List (List ℕ)) (notes : Notes) where
  at_piece : (notes' : Notes) (request : Request) (events earlier : List Event) (piece : List ℕ) (count : ℕ) → FitsWords words request → events ≡ earlier ++ told (take count piece) ∷ output_failed ∷ [] → NextPiece request.mode notes notes' earlier piece → FailsToTell words notes notes' events
  at_piece notes' request events earlier piece count fits is (of_loaded blocks mode same none) =
      at_loaded request blocks count piece fits mode same (is ∙ ap (λ (es : List Event). es ++ told (take count piece) ∷ output_failed ∷ []) none)
  at_piece notes' request events earlier piece count fits is (of_answer start end mid t line answer first legal allowed told_so piece_is) =
      at_answer request start end mid t line answer first earlier count fits legal allowed (note_one mid (end, notes') line answer allowed) told_so
      (is ∙ ap (λ (p : List ℕ). earlier ++ told (take count p) ∷ output_failed ∷ []) piece_is)

  cut_off : (notes' : Notes) (events before : List Event) (stage : Stage) (piece : List ℕ) (count : ℕ) → events ≡ before ++ told (take count piece) ∷ output_failed ∷ [] → Tells piece stage → Comes (Course words notes) before stage notes' → FailsToTell words notes notes' events
  cut_off notes' events before stage piece count is goes_on (on_course (as_asked request fits h)) = at_piece notes' request events before piece count fits is (next_piece request.mode request.budget notes notes' before piece h)
  cut_off notes' events before stage piece count is (ends_so status) comes = at_last before piece status count comes is

  whole : (events : List Event) (stage : Stage) (notes' : Notes) → Course words notes events stage notes' → EndsIn (λ status. status ≢ WriteFault) stage
  whole events stage notes' h = course_in words notes WriteFault (λ e. absurd (cc e)) (λ e. absurd (cc e)) (λ e. absurd (cc e)) (λ e. absurd (cc e)) (λ e. absurd (cc e)) (λ e. absurd (cc e)) events stage notes' h

  last_whole : (events : List Event) (line : List ℕ) (status : Status) (notes' : Notes) → Comes (Course words notes) events (ends_with line status) notes' → status ≢ WriteFault
  last_whole events line status notes' (on_course h) = whole events (ends_with line status) notes' h
  last_whole events line status notes' (past_limit before intake event h passes is) = λ e. absurd (cc e)
  last_whole events line status notes' (without_memory same h) = λ e. absurd (cc e)

  run_cuts : (events : List Event) (status : Status) (notes' : Notes) → Run (Course words notes) events status notes' → status ≡ WriteFault → FailsToTell words notes notes' events
  run_cuts events status notes' (ended (on_course h)) e = absurd (whole events (ends status) notes' h e)
  run_cuts events status notes' (ended_with before line comes is) e = absurd (last_whole before line status notes' comes e)
  run_cuts events status notes' (read_failed before intake begun h can is) e = absurd (cc e)
  run_cuts events status notes' (read_failed_at_file before name h is) e = absurd (cc e)
  run_cuts events status notes' (write_failed before stage piece count comes tell is) e = cut_off notes' events before stage piece count is tell comes

pub writes_fail : AnswersNoteOne → WritesFail
writes_fail note_one words status notes notes' before after runs e = run_cuts note_one words notes runs.2.events status notes' runs.2.run e
