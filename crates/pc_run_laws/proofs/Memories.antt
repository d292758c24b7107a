-- Where runs want memory.
use Rattle.std.proofs.Common.{◌≡◌, ◌⊎◌, ℕ, List, [], ◌∷◌, ◌++◌, refl, sym, ◌∙◌, ap, subst, inl, inr}
use Rattle.pc_words.specs.Words.{Mode, replays, edits, checks, merges, posts, demonstrates, Request, FitsWords, FitNothing}
use Rattle.pc_refusals.specs.declared.status.Status.{Status}
use Rattle.pc_refusals.specs.declared.status.Status.TheVariants.{Memory}
use Rattle.pc_refusals.specs.Endings.{memory_text, sheet_memory_text}
use Rattle.pc_refusals.specs.Events.{Event, told}
use Rattle.pc_refusals.specs.Stages.{Stage, takes, needs, tells, ends_with, ends}
use Rattle.pc_refusals.specs.Runs.{Comes, on_course, past_limit, without_memory, Run, ended, ended_with, read_failed, read_failed_at_file, write_failed}
use Rattle.pc_transcript.specs.Course as course
use Rattle.pc_transcript.specs.Course.{AnswersLines, awaits_line, awaits_end, has_answer, has_all, FromSheet, is_refused, answers, FromInput, awaits_sheet, keeps_sheet, has_sheet, Replay, needs_room, from_input, Edit, awaits_file, has_file}
use Rattle.pc_judge.specs.Course as check
use Rattle.pc_judge.specs.Course.{Check}
use Rattle.pc_collab.specs.Journal.{Post}
use Rattle.pc_journal.specs.Course as journal
use Rattle.pc_journal.specs.PostLines.{lines_of_posts}
use Rattle.pc_journal.specs.Course.{AnswersHeld, MergeBoth, MergeText, Merge, PostText, Posts}
use Rattle.pc_demo.specs.Course as demo
use Rattle.pc_demo.specs.Course.{Demo}
use Rattle.pc_spreadsheet.specs.Tasks.{State, Starts}
use Rattle.pc_spreadsheet.specs.Allowed.{Notes, Allows, RefusesText}
use Rattle.pc_replay.specs.Course as asked
use Rattle.pc_replay.specs.Course.{CourseIn, Course, without_fit, as_asked}
use Rattle.pc_run_laws.specs.ByStatus.{TakesJournal, WantsMemory, at_words, at_sheet, at_certificate, at_journal, at_line, MemoryIsWanted}
use Rattle.pc_run_laws.proofs.Saying.{mode_says}
use Rattle.pc_run_laws.proofs.Sentences.{wanting_lines, wanting_last}

-- ---- the courses

-- where memory is needed it is for the sheet
abbrev At : Stage → Type 0
At (needs line) = line ≡ sheet_memory_text
At stage = Unit {0}

lines_at : (notes notes' : Notes) (start end : State) (events : List Event) (stage : Stage) → AnswersLines Allows (start, notes) events stage (end, notes') → At stage
lines_at notes notes' start end events stage (awaits_line t legal whole few is) = tt
lines_at notes notes' start end events stage (awaits_end t legal whole full is) = tt
lines_at notes notes' start end events stage (has_answer t mid line taken answer legal whole few of_line allowed is) = tt
lines_at notes notes' start end events stage (has_all t legal each all count is) = tt

module _ (budget : ℕ) where
  sheet_at : (text : List ℕ) (notes notes' : Notes) (events : List Event) (stage : Stage) → FromSheet (Starts budget) (RefusesText budget) Allows text notes events stage notes' → At stage
  sheet_at text notes notes' events stage (course.needs_memory is) = refl
  sheet_at text notes notes' events stage (is_refused why more has is) = tt
  sheet_at text notes notes' events stage (answers start end is h) = lines_at notes notes' start end events stage h

  input_at : (notes notes' : Notes) (events : List Event) (stage : Stage) → FromInput (Starts budget) (RefusesText budget) Allows notes events stage notes' → At stage
  input_at notes notes' events stage (awaits_sheet earlier others small is) = tt
  input_at notes notes' events stage (keeps_sheet text front small is) = refl
  input_at notes notes' events stage (has_sheet text taken more sheet from is) = sheet_at text notes notes' more stage from

  replay_at : (notes notes' : Notes) (events : List Event) (stage : Stage) → Replay (Starts budget) (RefusesText budget) Allows notes events stage notes' → At stage
  replay_at notes notes' events stage (needs_room is) = refl
  replay_at notes notes' events stage (from_input from) = input_at notes notes' events stage from

  edit_at : (file : List ℕ) (notes notes' : Notes) (events : List Event) (stage : Stage) → Edit (Starts budget) (RefusesText budget) Allows file notes events stage notes' → At stage
  edit_at file notes notes' events stage (course.needs_memory is) = refl
  edit_at file notes notes' events stage (awaits_file is) = tt
  edit_at file notes notes' events stage (has_file text more small from is) = sheet_at text notes notes' more stage from

demo_at : (blocks budget : ℕ) (notes notes' : Notes) (events : List Event) (stage : Stage) → Demo blocks budget notes events stage notes' → At stage
demo_at blocks budget notes notes' events stage (demo.needs_memory none) = refl
demo_at blocks budget notes notes' events stage (demo.is_refused why more refuses none) = tt
demo_at blocks budget notes notes' events stage (demo.is_loaded start loaded loads none) = tt
demo_at blocks budget notes notes' events stage (demo.has_answer start loaded t done mid end answer loads clears few allowed is) = tt
demo_at blocks budget notes notes' events stage (demo.is_cleared start loaded t end cleared loads clears sums is) = tt

-- in a check, and where a journal is taken, it is needed for the sheet, or for the certificate or a journal
abbrev RestAt : Stage → Type 0
RestAt (needs line) = (line ≡ sheet_memory_text) ⊎ (line ≡ memory_text)
RestAt stage = Unit {0}

check_at : (file : List ℕ) (events : List Event) (stage : Stage) → Check file events stage → RestAt stage
check_at file events stage (check.needs_file_memory is) = inl refl
check_at file events stage (check.awaits_file is) = tt
check_at file events stage (check.needs_sheet_memory text small is) = inl refl
check_at file events stage (check.is_refused text why small has none is) = tt
check_at file events stage (check.awaits_certificate text sheet small reads is) = tt
check_at file events stage (check.needs_memory text sheet some small reads few is) = inr refl
check_at file events stage (check.is_judged text sheet certificate what small reads few judged is) = tt

journal_by : {N : Type 0} (Rest : List Post → List Event → Stage → N → Type 0) → ((a : List Post) (events : List Event) (stage : Stage) (notes : N) → Rest a events stage notes → RestAt stage)
    → (notes notes' : N) (events : List Event) (stage : Stage) → journal.FromInput Rest notes events stage notes' → RestAt stage
journal_by Rest so notes notes' events stage (journal.awaits_journal is) = tt
journal_by Rest so notes notes' events stage (journal.needs_memory some few is) = inr refl
journal_by Rest so notes notes' events stage (journal.is_refused text line fault small at_fault is) = tt
journal_by Rest so notes notes' events stage (journal.has_journal text a more small reads h is) = so a more stage notes' h

both_at : (a b : List Post) (events : List Event) (stage : Stage) (u : Unit {0}) → MergeBoth a b events stage u → RestAt stage
both_at a b events stage u (journal.needs_memory_for_both is) = inr refl
both_at a b events stage u (journal.differs author number differ is) = tt
both_at a b events stage u (journal.is_merged merged merge is) = tt

merge_text_at : (text : List ℕ) (events : List Event) (stage : Stage) (u : Unit {0}) → MergeText text events stage u → RestAt stage
merge_text_at text events stage u (journal.needs_memory_for_text is) = inr refl
merge_text_at text events stage u (journal.text_is_refused line fault first is) = tt
merge_text_at text events stage u (journal.text_is_journal a reads h) = journal_by (MergeBoth a) (both_at a) tt tt events stage h

merge_at : (file : List ℕ) (events : List Event) (stage : Stage) (u : Unit {0}) → Merge file events stage u → RestAt stage
merge_at file events stage u (journal.needs_file_memory is) = inr refl
merge_at file events stage u (journal.awaits_file is) = tt
merge_at file events stage u (journal.has_file text more small h is) = merge_text_at text more stage u h

held_at : (old : State × Notes) (held : List (List ℕ)) (events : List Event) (stage : Stage) (new : State × Notes) → AnswersHeld Allows old held events stage new → RestAt stage
held_at old held events stage new (journal.has_answer t mid line rest answer legal holds allowed is) = tt
held_at old held events stage new (journal.has_all t legal are is) = tt

module _ (budget : ℕ) where
  post_text_at : (text : List ℕ) (notes notes' : Notes) (events : List Event) (stage : Stage) → PostText (Starts budget) (RefusesText budget) Allows notes text events stage notes' → RestAt stage
  post_text_at text notes notes' events stage (journal.needs_sheet_memory is) = inl refl
  post_text_at text notes notes' events stage (journal.sheet_is_refused why more has is) = tt
  post_text_at text notes notes' events stage (journal.has_sheet start end is h) =
      journal_by (journal.AnswersPosts Allows (start, notes)) (λ a. held_at (start, notes) (lines_of_posts a)) (start, notes) (end, notes') events stage h

  posts_at : (file : List ℕ) (notes notes' : Notes) (events : List Event) (stage : Stage) → Posts (Starts budget) (RefusesText budget) Allows file notes events stage notes' → RestAt stage
  posts_at file notes notes' events stage (journal.needs_file_memory is) = inl refl
  posts_at file notes notes' events stage (journal.awaits_file is) = tt
  posts_at file notes notes' events stage (journal.has_file text more small h is) = post_text_at text notes notes' more stage h

-- ---- a run in a mode

module _ (words : List (List ℕ)) (notes : Notes) where
  module _ (request : Request) (fits : FitsWords words request) where
    line_wants : (notes' : Notes) (events : List Event) (status : Status) → CourseIn request.mode request.budget notes events (ends status) notes' → status ≡ Memory → WantsMemory words notes notes' events
    line_wants notes' events status h e =
        let so = mode_says request.mode request.budget notes notes' events (ends status) h in
        at_line (wanting_lines words notes notes' request fits events so.0 so.1 (sym so.2 ∙ e))

    last_wants : (notes' : Notes) (events earlier : List Event) (line : List ℕ) (status : Status) → CourseIn request.mode request.budget notes earlier (ends_with line status) notes' → status ≡ Memory → events ≡ earlier ++ told line ∷ [] → WantsMemory words notes notes' events
    last_wants notes' events earlier line status h e is =
        at_line (wanting_last words notes notes' request fits earlier events line status is (mode_says request.mode request.budget notes notes' earlier (ends_with line status) h) e)

    sheet_wants : (notes' : Notes) (events earlier : List Event) (line : List ℕ) → CourseIn request.mode request.budget notes earlier (needs line) notes' → line ≡ sheet_memory_text → events ≡ earlier ++ told line ∷ [] → WantsMemory words notes notes' events
    sheet_wants notes' events earlier line h same is =
        at_sheet request earlier fits (subst (λ (l : List ℕ). CourseIn request.mode request.budget notes earlier (needs l) notes') same h) (is ∙ ap (λ (l : List ℕ). earlier ++ told l ∷ []) same)

    journal_wants : (notes' : Notes) (events earlier : List Event) (line : List ℕ) → TakesJournal request.mode → CourseIn request.mode request.budget notes earlier (needs line) notes' → line ≡ memory_text → events ≡ earlier ++ told line ∷ [] → WantsMemory words notes notes' events
    journal_wants notes' events earlier line of h same is =
        at_journal request earlier fits of (subst (λ (l : List ℕ). CourseIn request.mode request.budget notes earlier (needs l) notes') same h) (is ∙ ap (λ (l : List ℕ). earlier ++ told l ∷ []) same)

    cert_wants : (file : List ℕ) (notes' : Notes) (events earlier : List Event) (line : List ℕ) → request.mode ≡ checks file → notes' ≡ notes → Check file earlier (needs line) → line ≡ memory_text → events ≡ earlier ++ told line ∷ [] → WantsMemory words notes notes' events
    cert_wants file notes' events earlier line mode none h same is =
        at_certificate request file earlier fits mode (subst (λ (l : List ℕ). Check file earlier (needs l)) same h) (is ∙ ap (λ (l : List ℕ). earlier ++ told l ∷ []) same) none

  -- at a stage: what a run that ends there, or for want of memory there, wants
  abbrev WantsAt : Notes → List Event → Stage → Type 0
  WantsAt notes' earlier (takes intake) = Unit {0}
  WantsAt notes' earlier (needs line) = (events : List Event) → events ≡ earlier ++ told line ∷ [] → WantsMemory words notes notes' events
  WantsAt notes' earlier (tells piece) = Unit {0}
  WantsAt notes' earlier (ends_with line status) = (events : List Event) → status ≡ Memory → events ≡ earlier ++ told line ∷ [] → WantsMemory words notes notes' events
  WantsAt notes' earlier (ends status) = status ≡ Memory → WantsMemory words notes notes' earlier

  of_lines : (request : Request) → FitsWords words request → (notes' : Notes) (earlier : List Event) (stage : Stage) → CourseIn request.mode request.budget notes earlier stage notes' → At stage → WantsAt notes' earlier stage
  of_lines request fits notes' earlier (takes intake) h at = tt
  of_lines request fits notes' earlier (needs line) h at = λ events is. sheet_wants request fits notes' events earlier line h at is
  of_lines request fits notes' earlier (tells piece) h at = tt
  of_lines request fits notes' earlier (ends_with line status) h at = λ events e is. last_wants request fits notes' events earlier line status h e is
  of_lines request fits notes' earlier (ends status) h at = λ e. line_wants request fits notes' earlier status h e

  -- in the modes that take a certificate or a journal
  of_rest : (request : Request) → FitsWords words request → (notes' : Notes) (earlier : List Event) (stage : Stage) → CourseIn request.mode request.budget notes earlier stage notes' → RestAt stage
      → ((events : List Event) (line : List ℕ) → stage ≡ needs line → line ≡ memory_text → events ≡ earlier ++ told line ∷ [] → WantsMemory words notes notes' events) → WantsAt notes' earlier stage
  of_rest request fits notes' earlier (takes intake) h at rest = tt
  of_rest request fits notes' earlier (needs line) h at rest = λ events is. elim at [
    | inl same ↦ sheet_wants request fits notes' events earlier line h same is
    | inr same ↦ rest events line refl same is
  ]
  of_rest request fits notes' earlier (tells piece) h at rest = tt
  of_rest request fits notes' earlier (ends_with line status) h at rest = λ events e is. last_wants request fits notes' events earlier line status h e is
  of_rest request fits notes' earlier (ends status) h at rest = λ e. line_wants request fits notes' earlier status h e

  of_journal : (request : Request) → FitsWords words request → TakesJournal request.mode → (notes' : Notes) (earlier : List Event) (stage : Stage) → CourseIn request.mode request.budget notes earlier stage notes' → RestAt stage → WantsAt notes' earlier stage
  of_journal request fits of notes' earlier stage h at =
      of_rest request fits notes' earlier stage h at (λ events line needed same is. journal_wants request fits notes' events earlier line of (subst (λ (x : Stage). CourseIn request.mode request.budget notes earlier x notes') needed h) same is)

  mode_wants : (mode : Mode) (budget : ℕ) → FitsWords words (record { mode = mode; budget = budget }) → (notes' : Notes) (earlier : List Event) (stage : Stage) → CourseIn mode budget notes earlier stage notes' → WantsAt notes' earlier stage
  mode_wants replays budget fits notes' earlier stage h = of_lines (record { mode = replays; budget = budget }) fits notes' earlier stage h (replay_at budget notes notes' earlier stage h)
  mode_wants (edits file) budget fits notes' earlier stage h = of_lines (record { mode = edits file; budget = budget }) fits notes' earlier stage h (edit_at budget file notes notes' earlier stage h)
  mode_wants (checks file) budget fits notes' earlier stage h =
      of_rest (record { mode = checks file; budget = budget }) fits notes' earlier stage h (check_at file earlier stage h.0)
      (λ events line needed same is. cert_wants (record { mode = checks file; budget = budget }) fits file notes' events earlier line refl h.1 (subst (λ (x : Stage). Check file earlier x) needed h.0) same is)
  mode_wants (merges file) budget fits notes' earlier stage h = of_journal (record { mode = merges file; budget = budget }) fits tt notes' earlier stage h (merge_at file earlier stage tt h.0)
  mode_wants (posts file) budget fits notes' earlier stage h = of_journal (record { mode = posts file; budget = budget }) fits tt notes' earlier stage h (posts_at budget file notes notes' earlier stage h)
  mode_wants (demonstrates blocks) budget fits notes' earlier stage h = of_lines (record { mode = demonstrates blocks; budget = budget }) fits notes' earlier stage h (demo_at blocks budget notes notes' earlier stage h)

  -- ---- the run

  words_want : ¬ FitNothing words → (earlier events : List Event) → earlier ≡ [] → events ≡ earlier ++ told memory_text ∷ [] → WantsMemory words notes notes events
  words_want some earlier events none is = at_words some (is ∙ ap (λ (es : List Event). es ++ told memory_text ∷ []) none) refl

  course_wants : (events : List Event) (stage : Stage) (notes' : Notes) → Course words notes events stage notes' → WantsAt notes' events stage
  course_wants events stage notes' (without_fit none is) = λ all e more. absurd (cc e)
  course_wants events stage notes' (asked.needs_memory some is) = λ all more. words_want some events all is more
  course_wants events stage notes' (as_asked request fits h) = mode_wants request.mode request.budget fits notes' events stage h

  comes_wants : (events : List Event) (stage : Stage) (notes' : Notes) → Comes (Course words notes) events stage notes' → WantsAt notes' events stage
  comes_wants events stage notes' (on_course h) = course_wants events stage notes' h
  comes_wants events stage notes' (past_limit before intake event h passes is) = λ all e more. absurd (cc e)
  comes_wants events stage notes' (without_memory line h) = λ all e more. course_wants events (needs line) notes' h all more

  run_wants : (events : List Event) (status : Status) (notes' : Notes) → Run (Course words notes) events status notes' → status ≡ Memory → WantsMemory words notes notes' events
  run_wants events status notes' (ended h) e = comes_wants events (ends status) notes' h e
  run_wants events status notes' (ended_with before line h is) e = comes_wants before (ends_with line status) notes' h events e is
  run_wants events status notes' (read_failed before intake begun h can is) e = absurd (cc e)
  run_wants events status notes' (read_failed_at_file before name h is) e = absurd (cc e)
  run_wants events status notes' (write_failed before stage piece count h telling is) e = absurd (cc e)

pub memories : MemoryIsWanted
memories words status notes notes' before after runs e = run_wants words notes runs.2.events status notes' runs.2.run e
