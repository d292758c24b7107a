-- In which statuses the courses of the modes end.
use Rattle.std.proofs.Common.{ℕ, Bool, true, false, List}
use Rattle.std.specs.List.{list_any}
use Rattle.pc_words.specs.Words.{Mode, replays, edits, checks, merges, posts, demonstrates}
use Rattle.pc_checker.specs.declared.verdict.Verdict.{Verdict}
use Rattle.pc_checker.specs.declared.verdict.Verdict.TheVariants.{UseNotEntered, BadValues, UseNotHeld, RuleBroken, HasValue, SetInSet, BadAxiom, BadStep, WrongEnd, Accepted}
use Rattle.pc_refusals.specs.declared.refusal.SheetRefusal.{SheetRefusal}
use Rattle.pc_refusals.specs.declared.status.Status.{Status}
use Rattle.pc_refusals.specs.declared.status.Status.TheVariants.{Done, SomeRefused, SheetRefused, Memory, CertRefused}
use Rattle.pc_refusals.specs.Events.{Event}
use Rattle.pc_refusals.specs.Stages.{Stage, takes, needs, tells, ends_with, ends}
use Rattle.pc_transcript.specs.Answer.{Answer, is_refused as was_refused, is_no_memory}
use Rattle.pc_transcript.specs.Transcript.{worse_of}
use Rattle.pc_transcript.specs.Course as course
use Rattle.pc_transcript.specs.Course.{AnswersLines, awaits_line, awaits_end, has_answer, has_all, FromSheet, is_refused, answers, FromInput, awaits_sheet, keeps_sheet, has_sheet, Replay, needs_room, from_input, Edit, awaits_file, has_file}
use Rattle.pc_judge.specs.declared.told.Told.{Told}
use Rattle.pc_judge.specs.declared.told.Told.TheVariants as told
use Rattle.pc_judge.specs.Judged.{status_of_told}
use Rattle.pc_judge.specs.Course as check
use Rattle.pc_judge.specs.Course.{Check}
use Rattle.pc_collab.specs.Journal.{Post}
use Rattle.pc_journal.specs.Course as journal
use Rattle.pc_journal.specs.PostLines.{lines_of_posts}
use Rattle.pc_journal.specs.Course.{AnswersHeld, MergeBoth, MergeText, Merge, PostText, Posts}
use Rattle.pc_demo.specs.Course as demo
use Rattle.pc_demo.specs.Course.{Demo}
use Rattle.pc_spreadsheet.specs.Tasks.{Starts}
use Rattle.pc_spreadsheet.specs.Allowed.{Notes, Allows, RefusesText}
use Rattle.pc_replay.specs.Course.{CourseIn}

-- where the stage ends the run, it does so in such a status
abbrev pub EndsIn : (Status → Type 0) → Stage → Type 0
EndsIn P (takes intake) = Unit {0}
EndsIn P (needs line) = Unit {0}
EndsIn P (tells piece) = Unit {0}
EndsIn P (ends_with line status) = P status
EndsIn P (ends status) = P status

-- the statuses in which lines are answered to their end, and that of a sheet that is refused
pub record HasCommon (P : Status → Type 0) : Type 0 where
  pub done : P Done
  pub some_refused : P SomeRefused
  pub memory : P Memory
  pub sheet_refused : P SheetRefused

module _ (P : Status → Type 0) (common : HasCommon P) where
  worse_in : (no_memory refused : Bool) → P (worse_of no_memory refused)
  worse_in true refused = common.memory
  worse_in false true = common.some_refused
  worse_in false false = common.done

  answers_in : {S : Type 0} (A : S → List ℕ → Answer → S → Type 0) (start : S) (events : List Event) (stage : Stage) (end : S) → AnswersLines A start events stage end → EndsIn P stage
  answers_in A start events stage end (awaits_line t legal whole few is) = tt
  answers_in A start events stage end (awaits_end t legal whole full is) = tt
  answers_in A start events stage end (has_answer t mid line taken answer legal whole few of_line allowed is) = tt
  answers_in A start events stage end (has_all t legal each all count is) = worse_in (list_any (λ pair. is_no_memory pair.1) t) (list_any (λ pair. was_refused pair.1) t)

  module _ {S N : Type 0} (IsSheet : List ℕ → S → Type 0) (Refuses : List ℕ → SheetRefusal → List ℕ → N → N → Type 0) (A : S × N → List ℕ → Answer → S × N → Type 0) where
    sheet_in : (text : List ℕ) (notes : N) (events : List Event) (stage : Stage) (notes' : N) → FromSheet IsSheet Refuses A text notes events stage notes' → EndsIn P stage
    sheet_in text notes events stage notes' (course.needs_memory is) = tt
    sheet_in text notes events stage notes' (is_refused why more has is) = common.sheet_refused
    sheet_in text notes events stage notes' (answers start end is lines) = answers_in A (start, notes) events stage (end, notes') lines

    input_in : (notes : N) (events : List Event) (stage : Stage) (notes' : N) → FromInput IsSheet Refuses A notes events stage notes' → EndsIn P stage
    input_in notes events stage notes' (awaits_sheet earlier others small is) = tt
    input_in notes events stage notes' (keeps_sheet text front small is) = tt
    input_in notes events stage notes' (has_sheet text taken more sheet from is) = sheet_in text notes more stage notes' from

    pub replay_in : (notes : N) (events : List Event) (stage : Stage) (notes' : N) → Replay IsSheet Refuses A notes events stage notes' → EndsIn P stage
    replay_in notes events stage notes' (needs_room is) = tt
    replay_in notes events stage notes' (from_input from) = input_in notes events stage notes' from

    pub edit_in : (file : List ℕ) (notes : N) (events : List Event) (stage : Stage) (notes' : N) → Edit IsSheet Refuses A file notes events stage notes' → EndsIn P stage
    edit_in file notes events stage notes' (course.needs_memory is) = tt
    edit_in file notes events stage notes' (awaits_file is) = tt
    edit_in file notes events stage notes' (has_file text more small from is) = sheet_in text notes more stage notes' from

  -- ---- journals

  journal_in : {N : Type 0} (Rest : List Post → List Event → Stage → N → Type 0) → ((a : List Post) (events : List Event) (stage : Stage) (notes : N) → Rest a events stage notes → EndsIn P stage)
      → (notes : N) (events : List Event) (stage : Stage) (notes' : N) → journal.FromInput Rest notes events stage notes' → EndsIn P stage
  journal_in Rest so notes events stage notes' (journal.awaits_journal is) = tt
  journal_in Rest so notes events stage notes' (journal.needs_memory some few is) = tt
  journal_in Rest so notes events stage notes' (journal.is_refused text line fault small first is) = common.sheet_refused
  journal_in Rest so notes events stage notes' (journal.has_journal text a more small reads h is) = so a more stage notes' h

  both_in : (a b : List Post) (events : List Event) (stage : Stage) (notes : Unit {0}) → MergeBoth a b events stage notes → EndsIn P stage
  both_in a b events stage notes (journal.needs_memory_for_both is) = tt
  both_in a b events stage notes (journal.differs author number differ is) = common.sheet_refused
  both_in a b events stage notes (journal.is_merged merged merge is) = common.done

  merge_text_in : (text : List ℕ) (events : List Event) (stage : Stage) (notes : Unit {0}) → MergeText text events stage notes → EndsIn P stage
  merge_text_in text events stage notes (journal.needs_memory_for_text is) = tt
  merge_text_in text events stage notes (journal.text_is_refused line fault first is) = common.sheet_refused
  merge_text_in text events stage notes (journal.text_is_journal a reads h) = journal_in (MergeBoth a) (both_in a) tt events stage tt h

  pub merge_in : (file : List ℕ) (events : List Event) (stage : Stage) (notes : Unit {0}) → Merge file events stage notes → EndsIn P stage
  merge_in file events stage notes (journal.needs_file_memory is) = tt
  merge_in file events stage notes (journal.awaits_file is) = tt
  merge_in file events stage notes (journal.has_file text more small h is) = merge_text_in text more stage notes h

  held_in : {S : Type 0} (A : S → List ℕ → Answer → S → Type 0) (start : S) (held : List (List ℕ)) (events : List Event) (stage : Stage) (end : S) → AnswersHeld A start held events stage end → EndsIn P stage
  held_in A start held events stage end (journal.has_answer t mid line rest answer legal holds allowed is) = tt
  held_in A start held events stage end (journal.has_all t legal are is) = worse_in (list_any (λ pair. is_no_memory pair.1) t) (list_any (λ pair. was_refused pair.1) t)

  module _ {S N : Type 0} (IsSheet : List ℕ → S → Type 0) (Refuses : List ℕ → SheetRefusal → List ℕ → N → N → Type 0) (A : S × N → List ℕ → Answer → S × N → Type 0) where
    post_text_in : (text : List ℕ) (notes : N) (events : List Event) (stage : Stage) (notes' : N) → PostText IsSheet Refuses A notes text events stage notes' → EndsIn P stage
    post_text_in text notes events stage notes' (journal.needs_sheet_memory is) = tt
    post_text_in text notes events stage notes' (journal.sheet_is_refused why more has is) = common.sheet_refused
    post_text_in text notes events stage notes' (journal.has_sheet start end is h) =
        journal_in (journal.AnswersPosts A (start, notes)) (λ a. held_in A (start, notes) (lines_of_posts a)) (start, notes) events stage (end, notes') h

    pub posts_in : (file : List ℕ) (notes : N) (events : List Event) (stage : Stage) (notes' : N) → Posts IsSheet Refuses A file notes events stage notes' → EndsIn P stage
    posts_in file notes events stage notes' (journal.needs_file_memory is) = tt
    posts_in file notes events stage notes' (journal.awaits_file is) = tt
    posts_in file notes events stage notes' (journal.has_file text more small h is) = post_text_in text notes more stage notes' h

  pub demo_in : (blocks budget : ℕ) (notes : Notes) (events : List Event) (stage : Stage) (notes' : Notes) → Demo blocks budget notes events stage notes' → EndsIn P stage
  demo_in blocks budget notes events stage notes' (demo.needs_memory none) = tt
  demo_in blocks budget notes events stage notes' (demo.is_refused why more refuses none) = common.sheet_refused
  demo_in blocks budget notes events stage notes' (demo.is_loaded start loaded loads none) = tt
  demo_in blocks budget notes events stage notes' (demo.has_answer start loaded t done mid end answer loads clears few allowed is) = tt
  demo_in blocks budget notes events stage notes' (demo.is_cleared start loaded t end cleared loads clears sums is) = worse_in (list_any (λ pair. is_no_memory pair.1) t) (list_any (λ pair. was_refused pair.1) t)

  module _ (cert_refused : P CertRefused) where
    verdict_in : (verdict : Verdict) → P (status_of_told (told.Verdict verdict))
    verdict_in (UseNotEntered line) = cert_refused
    verdict_in (BadValues line) = cert_refused
    verdict_in (UseNotHeld line) = cert_refused
    verdict_in (RuleBroken rule) = cert_refused
    verdict_in (HasValue line) = cert_refused
    verdict_in (SetInSet line) = cert_refused
    verdict_in (BadAxiom line) = cert_refused
    verdict_in (BadStep line) = cert_refused
    verdict_in WrongEnd = cert_refused
    verdict_in Accepted = common.done

    told_in : (what : Told) → P (status_of_told what)
    told_in (told.Verdict verdict) = verdict_in verdict
    told_in (told.Syntax line) = cert_refused
    told_in (told.UnknownName line) = cert_refused

    check_in : (file : List ℕ) (events : List Event) (stage : Stage) → Check file events stage → EndsIn P stage
    check_in file events stage (check.needs_file_memory is) = tt
    check_in file events stage (check.awaits_file is) = tt
    check_in file events stage (check.needs_sheet_memory text small is) = tt
    check_in file events stage (check.is_refused text why small has none is) = common.sheet_refused
    check_in file events stage (check.awaits_certificate text sheet small reads is) = tt
    check_in file events stage (check.needs_memory text sheet some small reads few is) = tt
    check_in file events stage (check.is_judged text sheet certificate what small reads few judged is) = told_in what

    pub mode_in : (mode : Mode) (budget : ℕ) (notes notes' : Notes) (events : List Event) (stage : Stage) → CourseIn mode budget notes events stage notes' → EndsIn P stage
    mode_in replays budget notes notes' events stage h = replay_in (Starts budget) (RefusesText budget) Allows notes events stage notes' h
    mode_in (edits file) budget notes notes' events stage h = edit_in (Starts budget) (RefusesText budget) Allows file notes events stage notes' h
    mode_in (checks file) budget notes notes' events stage h = check_in file events stage h.0
    mode_in (merges file) budget notes notes' events stage h = merge_in file events stage tt h.0
    mode_in (posts file) budget notes notes' events stage h = posts_in (Starts budget) (RefusesText budget) Allows file notes events stage notes' h
    mode_in (demonstrates blocks) budget notes notes' events stage h = demo_in blocks budget notes events stage notes' h
