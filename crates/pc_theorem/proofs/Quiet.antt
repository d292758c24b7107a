-- Where memory is needed nothing was told before.
use Rattle.std.proofs.Common.{◌≡◌, ℕ, List, [], ◌∷◌, ◌++◌, refl, ◌∙◌, ap, subst, inl, inr}
use Rattle.std.proofs.lemmas.List.Concat.{flat_map-append}
use Rattle.pc_collab.specs.Journal.{Post}
use Rattle.pc_refusals.specs.Events.{Event, took_rest, gave}
use Rattle.pc_refusals.specs.Stages.{Stage, takes, needs, tells, ends_with, ends}
use Rattle.pc_run_laws.specs.Flat.{told_in, told_of}
use Rattle.pc_transcript.specs.Course as course
use Rattle.pc_transcript.specs.Course.{IsSheetTaken, AnswersLines, FromSheet, Replay, Edit}
use Rattle.pc_judge.specs.Course as check
use Rattle.pc_judge.specs.Course.{Check}
use Rattle.pc_journal.specs.Course as journal
use Rattle.pc_journal.specs.Course.{AnswersHeld, AnswersPosts, MergeBoth, MergeText, Merge, PostText, Posts}
use Rattle.pc_journal.specs.PostLines.{lines_of_posts}
use Rattle.pc_demo.specs.Course as demo
use Rattle.pc_demo.specs.Course.{Demo}
use Rattle.pc_words.specs.Words.{Mode, replays, edits, checks, merges, posts, demonstrates}
use Rattle.pc_spreadsheet.specs.Tasks.{State, Starts}
use Rattle.pc_spreadsheet.specs.Allowed.{Notes, Allows, RefusesText}
use Rattle.pc_replay.specs.Course.{CourseIn}

abbrev QuietAt : List Event → Stage → Type 0
QuietAt events (needs line) = told_in events ≡ []
QuietAt events stage = Unit {0}

quiet_front : (xs ys events : List Event) → events ≡ xs ++ ys → told_in xs ≡ [] → told_in ys ≡ [] → told_in events ≡ []
quiet_front xs ys events is first rest = ap told_in is ∙ flat_map-append told_of xs ys ∙ ap (λ ts. ts ++ told_in ys) first ∙ rest

-- behind events that tell nothing
behind : (xs ys events : List Event) (stage : Stage) → events ≡ xs ++ ys → told_in xs ≡ [] → QuietAt ys stage → QuietAt events stage
behind xs ys events (takes intake) is first rest = tt
behind xs ys events (needs line) is first rest = quiet_front xs ys events is first rest
behind xs ys events (tells piece) is first rest = tt
behind xs ys events (ends_with line status) is first rest = tt
behind xs ys events (ends status) is first rest = tt

pub taken_is_quiet : (text : List ℕ) (taken : List Event) → IsSheetTaken text taken → told_in taken ≡ []
taken_is_quiet text taken is = elim is.ends [ inl w ↦ ap told_in w.2 | inr w ↦ ap told_in w.1 ]

module _ (budget : ℕ) (notes : Notes) where
  lines_at : (noted : Notes) (start end : State) (events : List Event) (stage : Stage) → AnswersLines Allows (start, notes) events stage (end, noted) → QuietAt events stage
  lines_at noted start end events stage (course.awaits_line t legal whole few is) = tt
  lines_at noted start end events stage (course.awaits_end t legal whole full is) = tt
  lines_at noted start end events stage (course.has_answer t mid line taken answer legal whole few of_line allowed is) = tt
  lines_at noted start end events stage (course.has_all t legal each all count is) = tt

  sheet_at : (noted : Notes) (text : List ℕ) (events : List Event) (stage : Stage) → FromSheet (Starts budget) (RefusesText budget) Allows text notes events stage noted → QuietAt events stage
  sheet_at noted text events stage (course.needs_memory is) = ap told_in is
  sheet_at noted text events stage (course.is_refused why more has is) = tt
  sheet_at noted text events stage (course.answers start end is h) = lines_at noted start end events stage h

  input_at : (noted : Notes) (events : List Event) (stage : Stage) → course.FromInput (Starts budget) (RefusesText budget) Allows notes events stage noted → QuietAt events stage
  input_at noted events stage (course.awaits_sheet earlier others small is) = tt
  input_at noted events stage (course.keeps_sheet text front small is) = ap told_in is
  input_at noted events stage (course.has_sheet text taken more sheet from is) = behind taken more events stage is (taken_is_quiet text taken sheet) (sheet_at noted text more stage from)

  replay_at : (noted : Notes) (events : List Event) (stage : Stage) → Replay (Starts budget) (RefusesText budget) Allows notes events stage noted → QuietAt events stage
  replay_at noted events stage (course.needs_room is) = ap told_in is
  replay_at noted events stage (course.from_input from) = input_at noted events stage from

  edit_at : (noted : Notes) (file : List ℕ) (events : List Event) (stage : Stage) → Edit (Starts budget) (RefusesText budget) Allows file notes events stage noted → QuietAt events stage
  edit_at noted file events stage (course.needs_memory is) = ap told_in is
  edit_at noted file events stage (course.awaits_file is) = tt
  edit_at noted file events stage (course.has_file text more small from is) = behind (gave file text ∷ []) more events stage is refl (sheet_at noted text more stage from)

  held_at : (noted : Notes) (start end : State) (held : List (List ℕ)) (events : List Event) (stage : Stage) → AnswersHeld Allows (start, notes) held events stage (end, noted) → QuietAt events stage
  held_at noted start end held events stage (journal.has_answer t mid line rest answer legal holds allowed is) = tt
  held_at noted start end held events stage (journal.has_all t legal are is) = tt

  posts_input_at : (noted : Notes) (start end : State) (events : List Event) (stage : Stage) (k : State × Notes) → journal.FromInput (AnswersPosts Allows (start, notes)) (start, notes) events stage k → k ≡ (end, noted) → QuietAt events stage
  posts_input_at noted start end events stage k (journal.awaits_journal is) same = tt
  posts_input_at noted start end events stage k (journal.needs_memory some few is) same = ap told_in is
  posts_input_at noted start end events stage k (journal.is_refused input line fault small first is) same = tt
  posts_input_at noted start end events stage k (journal.has_journal input held more small reads h is) same =
      behind (took_rest input ∷ []) more events stage is refl (held_at noted start end (lines_of_posts held) more stage (subst_end h))
    where
      subst_end : AnswersHeld Allows (start, notes) (lines_of_posts held) more stage k → AnswersHeld Allows (start, notes) (lines_of_posts held) more stage (end, noted)
      subst_end all = subst (λ x. AnswersHeld Allows (start, notes) (lines_of_posts held) more stage x) same all

  post_text_at : (noted : Notes) (text : List ℕ) (events : List Event) (stage : Stage) → PostText (Starts budget) (RefusesText budget) Allows notes text events stage noted → QuietAt events stage
  post_text_at noted text events stage (journal.needs_sheet_memory is) = ap told_in is
  post_text_at noted text events stage (journal.sheet_is_refused why more has is) = tt
  post_text_at noted text events stage (journal.has_sheet start end is h) = posts_input_at noted start end events stage (end, noted) h refl

  posts_at : (noted : Notes) (file : List ℕ) (events : List Event) (stage : Stage) → Posts (Starts budget) (RefusesText budget) Allows file notes events stage noted → QuietAt events stage
  posts_at noted file events stage (journal.needs_file_memory is) = ap told_in is
  posts_at noted file events stage (journal.awaits_file is) = tt
  posts_at noted file events stage (journal.has_file text more small h is) = behind (gave file text ∷ []) more events stage is refl (post_text_at noted text more stage h)

  demo_at : (noted : Notes) (blocks : ℕ) (events : List Event) (stage : Stage) → Demo blocks budget notes events stage noted → QuietAt events stage
  demo_at noted blocks events stage (demo.needs_memory is) = ap told_in is
  demo_at noted blocks events stage (demo.is_refused why more refuses is) = tt
  demo_at noted blocks events stage (demo.is_loaded start loaded loads is) = tt
  demo_at noted blocks events stage (demo.has_answer start loaded t done mid end answer loads clears few allowed is) = tt
  demo_at noted blocks events stage (demo.is_cleared start loaded t end cleared loads clears sums is) = tt

check_at : (file : List ℕ) (events : List Event) (stage : Stage) → Check file events stage → QuietAt events stage
check_at file events stage (check.needs_file_memory is) = ap told_in is
check_at file events stage (check.awaits_file is) = tt
check_at file events stage (check.needs_sheet_memory text small is) = ap told_in is
check_at file events stage (check.is_refused text why small has none is) = tt
check_at file events stage (check.awaits_certificate text sheet small reads is) = tt
check_at file events stage (check.needs_memory text sheet some small reads few is) = ap told_in is
check_at file events stage (check.is_judged text sheet certificate what small reads few judged is) = tt

both_at : (a b : List Post) (events : List Event) (stage : Stage) (notes : Unit {0}) → MergeBoth a b events stage notes → QuietAt events stage
both_at a b events stage notes (journal.needs_memory_for_both is) = ap told_in is
both_at a b events stage notes (journal.differs author number differ is) = tt
both_at a b events stage notes (journal.is_merged merged merge is) = tt

journal_at : (a : List Post) (events : List Event) (stage : Stage) (notes : Unit {0}) → journal.FromInput (MergeBoth a) tt events stage notes → QuietAt events stage
journal_at a events stage notes (journal.awaits_journal is) = tt
journal_at a events stage notes (journal.needs_memory some few is) = ap told_in is
journal_at a events stage notes (journal.is_refused input line fault small first is) = tt
journal_at a events stage notes (journal.has_journal input b more small other h is) = behind (took_rest input ∷ []) more events stage is refl (both_at a b more stage notes h)

text_at : (text : List ℕ) (events : List Event) (stage : Stage) (notes : Unit {0}) → MergeText text events stage notes → QuietAt events stage
text_at text events stage notes (journal.needs_memory_for_text is) = ap told_in is
text_at text events stage notes (journal.text_is_refused line fault first is) = tt
text_at text events stage notes (journal.text_is_journal a reads h) = journal_at a events stage tt h

merge_at : (file : List ℕ) (events : List Event) (stage : Stage) (notes : Unit {0}) → Merge file events stage notes → QuietAt events stage
merge_at file events stage notes (journal.needs_file_memory is) = ap told_in is
merge_at file events stage notes (journal.awaits_file is) = tt
merge_at file events stage notes (journal.has_file text more small h is) = behind (gave file text ∷ []) more events stage is refl (text_at text more stage notes h)

pub check_needs : (file : List ℕ) (events : List Event) (line : List ℕ) → Check file events (needs line) → told_in events ≡ []
check_needs file events line h = check_at file events (needs line) h

-- whatever the mode is
pub course_needs : (mode : Mode) (budget : ℕ) (notes noted : Notes) (events : List Event) (line : List ℕ) → CourseIn mode budget notes events (needs line) noted → told_in events ≡ []
course_needs replays budget notes noted events line h = replay_at budget notes noted events (needs line) h
course_needs (edits file) budget notes noted events line h = edit_at budget notes noted file events (needs line) h
course_needs (checks file) budget notes noted events line h = check_at file events (needs line) h.0
course_needs (merges file) budget notes noted events line h = merge_at file events (needs line) tt h.0
course_needs (posts file) budget notes noted events line h = posts_at budget notes noted file events (needs line) h
course_needs (demonstrates blocks) budget notes noted events line h = demo_at budget notes noted blocks events (needs line) h
