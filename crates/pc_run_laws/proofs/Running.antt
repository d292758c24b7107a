-- What a run says, with its answers and refusals in full.
use Rattle.std.proofs.Common.{ℕ, ◌≤◌, inl, inr, List, [], ◌∷◌, sym, subst, arith}
use Rattle.pc_lines.specs.Lines as a_line
use Rattle.pc_words.specs.Words.{Mode, replays, edits, checks, merges, posts, demonstrates, Request, FitsWords}
use Rattle.pc_sheet.specs.WellFormed.{IsWellFormed}
use Rattle.pc_refusals.specs.declared.status.Status.{Status}
use Rattle.pc_refusals.specs.Events.{Outside, Event}
use Rattle.pc_refusals.specs.Stages.{Stage, takes, needs, sheet_file}
use Rattle.pc_refusals.specs.Runs.{Comes, on_course, past_limit, without_memory, Run, ended, ended_with, read_failed, read_failed_at_file, write_failed, Ran}
use Rattle.pc_transcript.specs.Transcript.{Transcript, Legal}
use Rattle.pc_transcript.specs.Course as course
use Rattle.pc_transcript.specs.Course.{AnswersLines, awaits_line, awaits_end, has_answer, has_all, FromSheet, is_refused, answers, FromInput, awaits_sheet, keeps_sheet, has_sheet, Replay, needs_room, from_input, Edit, awaits_file, has_file}
use Rattle.pc_journal.specs.Course as journal
use Rattle.pc_journal.specs.PostLines.{lines_of_posts}
use Rattle.pc_journal.specs.Course.{AnswersHeld, PostText, Posts}
use Rattle.pc_spreadsheet.specs.Tasks.{State, Starts}
use Rattle.pc_spreadsheet.specs.Allowed.{Notes, Allows, RefusesText}
use Rattle.pc_spreadsheet.specs.Laws.{StartsAreWellFormed, AnswersKeepForm}
use Rattle.pc_replay.specs.Course as asked
use Rattle.pc_replay.specs.Course.{CourseIn}
use Rattle.pc_run_laws.specs.Complete.{AllowsInFull, RefusesInFull, LinesAreAnsweredInFull, TranscriptsAreInFull, TextsAreRefusedInFull}
use Rattle.pc_run_laws.specs.Runs as full
use Rattle.pc_run_laws.specs.Runs.{CourseInFull, FullCourse, RunsAreInFull}
use Rattle.pc_run_laws.proofs.Completing.{keeps_budget}

-- ---- a run of one course is one of another

module _ {N : Type 0} (C D : List Event → Stage → N → Type 0) (to : (events : List Event) (stage : Stage) (notes : N) → C events stage notes → D events stage notes) where
  comes_to : (events : List Event) (stage : Stage) (notes : N) → Comes C events stage notes → Comes D events stage notes
  comes_to events stage notes (on_course h) = on_course (to events stage notes h)
  comes_to events stage notes (past_limit before intake event h passes is) = past_limit before intake event (to before (takes intake) notes h) passes is
  comes_to events stage notes (without_memory line h) = without_memory line (to events (needs line) notes h)

  run_to : (events : List Event) (status : Status) (notes : N) → Run C events status notes → Run D events status notes
  run_to events status notes (ended h) = ended (comes_to events _ notes h)
  run_to events status notes (ended_with before line h is) = ended_with before line (comes_to before _ notes h) is
  run_to events status notes (read_failed before intake begun h can is) = read_failed before intake begun (to before (takes intake) notes h) can is
  run_to events status notes (read_failed_at_file before name h is) = read_failed_at_file before name (to before (takes (sheet_file name)) notes h) is
  run_to events status notes (write_failed before stage piece count h tells is) = write_failed before stage piece count (comes_to before stage notes h) tells is

  ran_to : (most : ℕ) (status : Status) (notes : N) (before after : Outside) → Ran C most status notes before after → Ran D most status notes before after
  ran_to most status notes before after r = record { events = r.events; run = run_to r.events status notes r.run; spare = r.spare; is_spare = r.is_spare; happened = r.happened }

-- words that fit give a budget
pub some_budget : (words : List (List ℕ)) (request : Request) → FitsWords words request → 1 ≤ request.budget
some_budget words request (inl fit) = let same = fit.1 in omega (arith, same)
some_budget words request (inr fit) = fit.budget.2.some

module _ (lines : LinesAreAnsweredInFull) (transcripts : TranscriptsAreInFull) (keep : AnswersKeepForm) where
  -- what a transcript leaves
  reached : (old new : State × Notes) (transcript : Transcript) → IsWellFormed old.0.sheet → 1 ≤ old.0.budget → Legal Allows old transcript new → IsWellFormed new.0.sheet × (1 ≤ new.0.budget)
  reached old new [] formed some legal = subst (λ (s : State × Notes). IsWellFormed s.0.sheet × (1 ≤ s.0.budget)) (sym legal) (formed, some)
  reached old new (pair ∷ more) formed some legal =
      let line = a_line.line_text_of pair.0 in
      reached legal.0 new more (keep old legal.0 line pair.1 formed legal.1) (keeps_budget old legal.0 line pair.1 some legal.1) legal.2

  lines_to : (start end : State × Notes) (events : List Event) (stage : Stage) → IsWellFormed start.0.sheet → 1 ≤ start.0.budget → AnswersLines Allows start events stage end → AnswersLines AllowsInFull start events stage end
  lines_to start end events stage formed some (awaits_line t legal whole count is) = awaits_line t (transcripts start end t formed some legal) whole count is
  lines_to start end events stage formed some (awaits_end t legal whole count is) = awaits_end t (transcripts start end t formed some legal) whole count is
  lines_to start end events stage formed some (has_answer t mid line taken answer legal whole count line_taken allowed is) =
      let there = reached start mid t formed some legal in
      has_answer t mid line taken answer (transcripts start mid t formed some legal) whole count line_taken (lines mid end (a_line.line_text_of line) answer there.0 there.1 allowed) is
  lines_to start end events stage formed some (has_all t legal each all count is) = has_all t (transcripts start end t formed some legal) each all count is

  held_to : (start end : State × Notes) (held : List (List ℕ)) (events : List Event) (stage : Stage) → IsWellFormed start.0.sheet → 1 ≤ start.0.budget → AnswersHeld Allows start held events stage end → AnswersHeld AllowsInFull start held events stage end
  held_to start end held events stage formed some (journal.has_answer t mid line rest answer legal holds allowed is) =
      let there = reached start mid t formed some legal in
      journal.has_answer t mid line rest answer (transcripts start mid t formed some legal) holds (lines mid end (a_line.line_text_of line) answer there.0 there.1 allowed) is
  held_to start end held events stage formed some (journal.has_all t legal are is) = journal.has_all t (transcripts start end t formed some legal) are is

  posts_to : (start : State × Notes) → IsWellFormed start.0.sheet → 1 ≤ start.0.budget → (old new : State × Notes) (events : List Event) (stage : Stage)
      → journal.FromInput (journal.AnswersPosts Allows start) old events stage new → journal.FromInput (journal.AnswersPosts AllowsInFull start) old events stage new
  posts_to start formed some old new events stage (journal.awaits_journal is) = journal.awaits_journal is
  posts_to start formed some old new events stage (journal.needs_memory taken few is) = journal.needs_memory taken few is
  posts_to start formed some old new events stage (journal.is_refused text line fault small at_fault is) = journal.is_refused text line fault small at_fault is
  posts_to start formed some old new events stage (journal.has_journal text a more small reads h is) = journal.has_journal text a more small reads (held_to start new (lines_of_posts a) more stage formed some h) is

  module _ (texts : TextsAreRefusedInFull) (first : StartsAreWellFormed) (budget : ℕ) (some : 1 ≤ budget) where
    sheet_to : (text : List ℕ) (notes notes' : Notes) (events : List Event) (stage : Stage) → FromSheet (Starts budget) (RefusesText budget) Allows text notes events stage notes' → FromSheet (Starts budget) (RefusesInFull budget) AllowsInFull text notes events stage notes'
    sheet_to text notes notes' events stage (course.needs_memory is) = course.needs_memory is
    sheet_to text notes notes' events stage (is_refused why more refuses is) = is_refused why more (texts budget text why more notes notes' some refuses) is
    sheet_to text notes notes' events stage (answers start end is h) =
        answers start end is (lines_to (start, notes) (end, notes') events stage (first budget text start is) (subst (λ n. 1 ≤ n) (sym is.budget) some) h)

    input_to : (notes notes' : Notes) (events : List Event) (stage : Stage) → FromInput (Starts budget) (RefusesText budget) Allows notes events stage notes' → FromInput (Starts budget) (RefusesInFull budget) AllowsInFull notes events stage notes'
    input_to notes notes' events stage (awaits_sheet earlier others small is) = awaits_sheet earlier others small is
    input_to notes notes' events stage (keeps_sheet text front small is) = keeps_sheet text front small is
    input_to notes notes' events stage (has_sheet text taken more takes_it h is) = has_sheet text taken more takes_it (sheet_to text notes notes' more stage h) is

    replay_to : (notes notes' : Notes) (events : List Event) (stage : Stage) → Replay (Starts budget) (RefusesText budget) Allows notes events stage notes' → Replay (Starts budget) (RefusesInFull budget) AllowsInFull notes events stage notes'
    replay_to notes notes' events stage (needs_room is) = needs_room is
    replay_to notes notes' events stage (from_input h) = from_input (input_to notes notes' events stage h)

    edit_to : (file : List ℕ) (notes notes' : Notes) (events : List Event) (stage : Stage) → Edit (Starts budget) (RefusesText budget) Allows file notes events stage notes' → Edit (Starts budget) (RefusesInFull budget) AllowsInFull file notes events stage notes'
    edit_to file notes notes' events stage (course.needs_memory is) = course.needs_memory is
    edit_to file notes notes' events stage (awaits_file is) = awaits_file is
    edit_to file notes notes' events stage (has_file text more small h is) = has_file text more small (sheet_to text notes notes' more stage h) is

    post_text_to : (text : List ℕ) (notes notes' : Notes) (events : List Event) (stage : Stage) → PostText (Starts budget) (RefusesText budget) Allows notes text events stage notes' → PostText (Starts budget) (RefusesInFull budget) AllowsInFull notes text events stage notes'
    post_text_to text notes notes' events stage (journal.needs_sheet_memory is) = journal.needs_sheet_memory is
    post_text_to text notes notes' events stage (journal.sheet_is_refused why more refuses is) = journal.sheet_is_refused why more (texts budget text why more notes notes' some refuses) is
    post_text_to text notes notes' events stage (journal.has_sheet start end is h) =
        journal.has_sheet start end is (posts_to (start, notes) (first budget text start is) (subst (λ n. 1 ≤ n) (sym is.budget) some) (start, notes) (end, notes') events stage h)

    post_file_to : (file : List ℕ) (notes notes' : Notes) (events : List Event) (stage : Stage) → Posts (Starts budget) (RefusesText budget) Allows file notes events stage notes' → Posts (Starts budget) (RefusesInFull budget) AllowsInFull file notes events stage notes'
    post_file_to file notes notes' events stage (journal.needs_file_memory is) = journal.needs_file_memory is
    post_file_to file notes notes' events stage (journal.awaits_file is) = journal.awaits_file is
    post_file_to file notes notes' events stage (journal.has_file text more small h is) = journal.has_file text more small (post_text_to text notes notes' more stage h) is

    mode_to : (mode : Mode) (notes notes' : Notes) (events : List Event) (stage : Stage) → CourseIn mode budget notes events stage notes' → CourseInFull mode budget notes events stage notes'
    mode_to replays notes notes' events stage h = replay_to notes notes' events stage h
    mode_to (edits file) notes notes' events stage h = edit_to file notes notes' events stage h
    mode_to (checks file) notes notes' events stage h = h
    mode_to (merges file) notes notes' events stage h = h
    mode_to (posts file) notes notes' events stage h = post_file_to file notes notes' events stage h
    mode_to (demonstrates blocks) notes notes' events stage h = h

  module _ (texts : TextsAreRefusedInFull) (first : StartsAreWellFormed) (words : List (List ℕ)) (notes : Notes) where
    words_to : (events : List Event) (stage : Stage) (notes' : Notes) → asked.Course words notes events stage notes' → FullCourse words notes events stage notes'
    words_to events stage notes' (asked.without_fit none is) = full.without_fit none is
    words_to events stage notes' (asked.needs_memory fit is) = full.needs_memory fit is
    words_to events stage notes' (asked.as_asked request fits h) = full.as_asked request fits (mode_to texts first request.budget (some_budget words request fits) request.mode notes notes' events stage h)

pub runs_to : LinesAreAnsweredInFull → TranscriptsAreInFull → AnswersKeepForm → TextsAreRefusedInFull → StartsAreWellFormed → RunsAreInFull
runs_to lines transcripts keep texts first words status notes notes' before after runs =
    (runs.0, runs.1, ran_to (asked.Course words notes) (FullCourse words notes) (words_to lines transcripts keep texts first words notes) runs.0 status notes' before after runs.2)
