-- What each mode's course says at its stages.
use Rattle.std.proofs.Common.{◌≡◌, ◌≤◌, ℕ, List, [], ◌∷◌, ◌++◌, length, refl, sym, ◌∙◌, ap, subst, append-nil}
use Rattle.pc_sheet.specs.Sheet.{Sheet}
use Rattle.pc_sortcheck.specs.Declaring.{ReadsAs}
use Rattle.pc_cert.specs.declared.TheConstants.{CERT_LIMIT}
use Rattle.pc_collab.specs.declared.TheConstants.{JOURNAL_LIMIT}
use Rattle.pc_collab.specs.Journal.{Post}
use Rattle.pc_collab.specs.Reading.{IsTextOf}
use Rattle.pc_collab.specs.Merge.{IsMerge}
use Rattle.pc_collab.specs.Text.{journal_text}
use Rattle.pc_words.specs.Words.{Mode, replays, edits, checks, merges, posts, demonstrates}
use Rattle.pc_lines.specs.declared.TheConstants.{SHEET_LIMIT}
use Rattle.pc_refusals.specs.declared.refusal.SheetRefusal.{SheetRefusal}
use Rattle.pc_refusals.specs.declared.status.Status.{Status}
use Rattle.pc_refusals.specs.declared.status.Status.TheVariants.{Done, SheetRefused}
use Rattle.pc_refusals.specs.Refusals.{sheet_refusal_text}
use Rattle.pc_refusals.specs.Events.{Event, took_rest, gave, told}
use Rattle.pc_refusals.specs.Stages.{Intake, sheet_file, Stage, takes, needs, tells, ends_with, ends}
use Rattle.pc_transcript.specs.Transcript.{Transcript, status_of}
use Rattle.pc_transcript.specs.Course as course
use Rattle.pc_transcript.specs.Course.{events_of, IsSheetTaken, AnswersLines, awaits_line, awaits_end, has_answer, has_all, FromSheet, is_refused, answers, FromInput, awaits_sheet, keeps_sheet, has_sheet, Replay, needs_room, from_input, Edit, awaits_file, has_file}
use Rattle.pc_judge.specs.declared.told.Told.{Told}
use Rattle.pc_judge.specs.Judged.{IsJudged, judged_text, status_of_told}
use Rattle.pc_judge.specs.Course as check
use Rattle.pc_judge.specs.Course.{Check}
use Rattle.pc_journal.specs.Course as journal
use Rattle.pc_journal.specs.Course.{AnswersHeld, AnswersPosts, MergeBoth, MergeText, Merge, PostText, Posts}
use Rattle.pc_journal.specs.PostLines.{lines_of_posts}
use Rattle.pc_demo.specs.Course as demo
use Rattle.pc_demo.specs.Course.{Demo}
use Rattle.pc_spreadsheet.specs.Tasks.{State, Starts}
use Rattle.pc_spreadsheet.specs.Allowed.{Notes, Allows, RefusesText}
use Rattle.pc_replay.specs.Course.{CourseIn}
use Rattle.pc_run_laws.specs.Statuses.{AnswersInput, AnswersAll, of_input, on_file, of_posts, of_blocks, RefusesSheet, refuses_input, refuses_file, refuses_to_post, refuses_blocks, refuses_to_check, no_journal_of_file, no_journal_to_merge, no_journal_to_post, refuses_both, TakesLines, TakesIn}

-- what a mode's last piece says, with the status that it ends in
pub data SaysLast (mode : Mode) (budget : ℕ) (notes notes' : Notes) (events : List Event) (line : List ℕ) (status : Status) : Type 0 where
  refuses : status ≡ SheetRefused → RefusesSheet budget notes notes' events line mode → SaysLast mode budget notes notes' events line status
  judges : (file text certificate : List ℕ) (sheet : Sheet) (what : Told) → mode ≡ checks file → length text ≤ SHEET_LIMIT → ReadsAs text sheet → length certificate ≤ CERT_LIMIT → IsJudged sheet certificate what → events ≡ gave file text ∷ took_rest certificate ∷ []
      → line ≡ judged_text sheet what → status ≡ status_of_told what → notes' ≡ notes → SaysLast mode budget notes notes' events line status
  merges_both : (file text other : List ℕ) (a b both : List Post) → mode ≡ merges file → length text ≤ SHEET_LIMIT → IsTextOf text a → length other ≤ JOURNAL_LIMIT → IsTextOf other b → IsMerge a b both → events ≡ gave file text ∷ took_rest other ∷ []
      → line ≡ journal_text both → status ≡ Done → notes' ≡ notes → SaysLast mode budget notes notes' events line status
  sums_up : (t : Transcript) → AnswersAll budget notes notes' (events ++ told line ∷ []) t mode → status ≡ status_of t → SaysLast mode budget notes notes' events line status

-- a file is taken before all else
abbrev ComesFirst : Intake → Notes → Notes → List Event → Type 0
ComesFirst (sheet_file name) notes notes' events = (events ≡ []) × (notes' ≡ notes)
ComesFirst intake notes notes' events = Unit {0}

abbrev pub Says : Mode → ℕ → Notes → Notes → List Event → Stage → Type 0
Says mode budget notes notes' events (takes intake) = TakesIn mode intake × ComesFirst intake notes notes' events
Says mode budget notes notes' events (needs line) = Unit {0}
Says mode budget notes notes' events (tells piece) = Unit {0}
Says mode budget notes notes' events (ends_with line status) = SaysLast mode budget notes notes' events line status
Says mode budget notes notes' events (ends status) = (t : Transcript) × AnswersAll budget notes notes' events t mode × (status ≡ status_of t)

-- ---- command lines

lines_say : (mode : Mode) (budget : ℕ) (notes notes' : Notes) (events more : List Event) (start end : State) (stage : Stage) → TakesLines mode → ((t : Transcript) → AnswersInput (start, notes) (end, notes') t → more ≡ events_of t ++ took_rest [] ∷ [] → AnswersAll budget notes notes' events t mode)
    → AnswersLines Allows (start, notes) more stage (end, notes') → Says mode budget notes notes' events stage
lines_say mode budget notes notes' events more start end stage of all (awaits_line t legal whole few is) = ((of, refl), tt)
lines_say mode budget notes notes' events more start end stage of all (awaits_end t legal whole full is) = ((of, refl), tt)
lines_say mode budget notes notes' events more start end stage of all (has_answer t mid line taken answer legal whole few of_line allowed is) = tt
lines_say mode budget notes notes' events more start end stage of all (has_all t legal each every count is) = (t, all t record { legal = legal; all = every; each = each; count = count } is, refl)

-- what happened from the sheet's text on refuses it or answers all lines
sheet_says : (mode : Mode) (budget : ℕ) (text : List ℕ) (notes notes' : Notes) (events more : List Event) (stage : Stage) → TakesLines mode
    → ((why : SheetRefusal) (further : List ℕ) → RefusesText budget text why further notes notes' → more ≡ [] → RefusesSheet budget notes notes' events (sheet_refusal_text why ++ further) mode)
    → ((start end : State) (t : Transcript) → Starts budget text start → AnswersInput (start, notes) (end, notes') t → more ≡ events_of t ++ took_rest [] ∷ [] → AnswersAll budget notes notes' events t mode)
    → FromSheet (Starts budget) (RefusesText budget) Allows text notes more stage notes' → Says mode budget notes notes' events stage
sheet_says mode budget text notes notes' events more stage of denies all (course.needs_memory is) = tt
sheet_says mode budget text notes notes' events more stage of denies all (is_refused why further has is) = refuses refl (denies why further has is)
sheet_says mode budget text notes notes' events more stage of denies all (answers start end is h) = lines_say mode budget notes notes' events more start end stage of (λ t so more_is. all start end t is so more_is) h

input_says : (budget : ℕ) (notes notes' : Notes) (events : List Event) (stage : Stage) → FromInput (Starts budget) (RefusesText budget) Allows notes events stage notes' → Says replays budget notes notes' events stage
input_says budget notes notes' events stage (awaits_sheet earlier others small is) = (refl, tt)
input_says budget notes notes' events stage (keeps_sheet text front small is) = tt
input_says budget notes notes' events stage (has_sheet text taken more sheet h is) =
    sheet_says replays budget text notes notes' events more stage tt
    (λ why further has none. refuses_input text why further (subst (λ (es : List Event). IsSheetTaken text es) (sym (is ∙ ap (λ (es : List Event). taken ++ es) none ∙ append-nil taken)) sheet) has refl)
    (λ start end t starts so more_is. of_input text taken start end sheet starts so (is ∙ ap (λ (es : List Event). taken ++ es) more_is))
    h

replay_says : (budget : ℕ) (notes notes' : Notes) (events : List Event) (stage : Stage) → Replay (Starts budget) (RefusesText budget) Allows notes events stage notes' → Says replays budget notes notes' events stage
replay_says budget notes notes' events stage (needs_room is) = tt
replay_says budget notes notes' events stage (from_input h) = input_says budget notes notes' events stage h

edit_says : (budget : ℕ) (file : List ℕ) (notes notes' : Notes) (events : List Event) (stage : Stage) → Edit (Starts budget) (RefusesText budget) Allows file notes events stage notes' → Says (edits file) budget notes notes' events stage
edit_says budget file notes notes' events stage (course.needs_memory is) = tt
edit_says budget file notes notes' events stage (awaits_file is) = (refl, (is, refl))
edit_says budget file notes notes' events stage (has_file text more small h is) =
    sheet_says (edits file) budget text notes notes' events more stage tt
    (λ why further has none. refuses_file file text why further small has (is ∙ ap (λ (es : List Event). gave file text ∷ es) none) refl)
    (λ start end t starts so more_is. on_file file text start end small starts so (is ∙ ap (λ (es : List Event). gave file text ∷ es) more_is))
    h

-- ---- certificates

check_says : (budget : ℕ) (file : List ℕ) (notes notes' : Notes) (events : List Event) (stage : Stage) → notes' ≡ notes → Check file events stage → Says (checks file) budget notes notes' events stage
check_says budget file notes notes' events stage same (check.needs_file_memory is) = tt
check_says budget file notes notes' events stage same (check.awaits_file is) = (refl, (is, same))
check_says budget file notes notes' events stage same (check.needs_sheet_memory text small is) = tt
check_says budget file notes notes' events stage same (check.is_refused text why small has none is) = refuses refl (refuses_to_check file text why small has none is refl same)
check_says budget file notes notes' events stage same (check.awaits_certificate text sheet small reads is) = (refl, tt)
check_says budget file notes notes' events stage same (check.needs_memory text sheet some small reads few is) = tt
check_says budget file notes notes' events stage same (check.is_judged text sheet certificate what small reads few judged is) = judges file text certificate sheet what refl small reads few judged is refl refl same

-- ---- journals

both_say : (budget : ℕ) (file text other : List ℕ) (notes notes' : Notes) (events last : List Event) (stage : Stage) (a b : List Post) (u : Unit {0}) → notes' ≡ notes → length text ≤ SHEET_LIMIT → IsTextOf text a → length other ≤ JOURNAL_LIMIT → IsTextOf other b
    → events ≡ gave file text ∷ took_rest other ∷ last → MergeBoth a b last stage u → Says (merges file) budget notes notes' events stage
both_say budget file text other notes notes' events last stage a b u same small reads_a few reads_b is (journal.needs_memory_for_both none) = tt
both_say budget file text other notes notes' events last stage a b u same small reads_a few reads_b is (journal.differs author number differ none) =
    refuses refl (refuses_both file text other a b author number reads_a reads_b differ (is ∙ ap (λ (es : List Event). gave file text ∷ took_rest other ∷ es) none) refl same)
both_say budget file text other notes notes' events last stage a b u same small reads_a few reads_b is (journal.is_merged both merge none) =
    merges_both file text other a b both refl small reads_a few reads_b merge (is ∙ ap (λ (es : List Event). gave file text ∷ took_rest other ∷ es) none) refl refl same

merge_input_says : (budget : ℕ) (file text : List ℕ) (notes notes' : Notes) (events more : List Event) (stage : Stage) (a : List Post) (u v : Unit {0}) → notes' ≡ notes → length text ≤ SHEET_LIMIT → IsTextOf text a
    → events ≡ gave file text ∷ more → journal.FromInput (MergeBoth a) u more stage v → Says (merges file) budget notes notes' events stage
merge_input_says budget file text notes notes' events more stage a u v same small reads is (journal.awaits_journal none) = (refl, tt)
merge_input_says budget file text notes notes' events more stage a u v same small reads is (journal.needs_memory some few more_is) = tt
merge_input_says budget file text notes notes' events more stage a u v same small reads is (journal.is_refused other line fault few first more_is) =
    refuses refl (no_journal_to_merge file text other line fault few first (is ∙ ap (λ (es : List Event). gave file text ∷ es) more_is) refl same)
merge_input_says budget file text notes notes' events more stage a u v same small reads is (journal.has_journal other b last few reads_b h more_is) =
    both_say budget file text other notes notes' events last stage a b v same small reads few reads_b (is ∙ ap (λ (es : List Event). gave file text ∷ es) more_is) h

merge_text_says : (budget : ℕ) (file text : List ℕ) (notes notes' : Notes) (events more : List Event) (stage : Stage) (u : Unit {0}) → notes' ≡ notes → length text ≤ SHEET_LIMIT → events ≡ gave file text ∷ more → MergeText text more stage u → Says (merges file) budget notes notes' events stage
merge_text_says budget file text notes notes' events more stage u same small is (journal.needs_memory_for_text none) = tt
merge_text_says budget file text notes notes' events more stage u same small is (journal.text_is_refused line fault first none) =
    refuses refl (no_journal_of_file file text line fault small first (is ∙ ap (λ (es : List Event). gave file text ∷ es) none) refl same)
merge_text_says budget file text notes notes' events more stage u same small is (journal.text_is_journal a reads h) = merge_input_says budget file text notes notes' events more stage a tt tt same small reads is h

merge_says : (budget : ℕ) (file : List ℕ) (notes notes' : Notes) (events : List Event) (stage : Stage) (u : Unit {0}) → notes' ≡ notes → Merge file events stage u → Says (merges file) budget notes notes' events stage
merge_says budget file notes notes' events stage u same (journal.needs_file_memory none) = tt
merge_says budget file notes notes' events stage u same (journal.awaits_file none) = (refl, (none, same))
merge_says budget file notes notes' events stage u same (journal.has_file text more small h is) = merge_text_says budget file text notes notes' events more stage u same small is h

held_says : (budget : ℕ) (file text other : List ℕ) (events last : List Event) (stage : Stage) (a : List Post) (start : State) (notes : Notes) (new : State × Notes) → length text ≤ SHEET_LIMIT → Starts budget text start → length other ≤ JOURNAL_LIMIT → IsTextOf other a
    → events ≡ gave file text ∷ took_rest other ∷ last → AnswersHeld Allows (start, notes) (lines_of_posts a) last stage new → Says (posts file) budget notes new.1 events stage
held_says budget file text other events last stage a start notes new small starts few reads is (journal.has_answer t mid line rest answer legal holds allowed last_is) = tt
held_says budget file text other events last stage a start notes new small starts few reads is (journal.has_all t legal are last_is) =
    (t, of_posts file text other a start new.0 small starts few reads legal are (is ∙ ap (λ (es : List Event). gave file text ∷ took_rest other ∷ es) last_is), refl)

posts_input_says : (budget : ℕ) (file text : List ℕ) (events more : List Event) (stage : Stage) (start : State) (notes : Notes) (old new : State × Notes) → old ≡ (start, notes) → length text ≤ SHEET_LIMIT → Starts budget text start → events ≡ gave file text ∷ more
    → journal.FromInput (AnswersPosts Allows (start, notes)) old more stage new → Says (posts file) budget notes new.1 events stage
posts_input_says budget file text events more stage start notes old new first small starts is (journal.awaits_journal none) = (refl, tt)
posts_input_says budget file text events more stage start notes old new first small starts is (journal.needs_memory some few more_is) = tt
posts_input_says budget file text events more stage start notes old new first small starts is (journal.is_refused other line fault few at_fault more_is) =
    refuses refl (no_journal_to_post file text other start line fault small starts few at_fault (is ∙ ap (λ (es : List Event). gave file text ∷ es) more_is) refl (ap (λ (pair : State × Notes). pair.1) first))
posts_input_says budget file text events more stage start notes old new first small starts is (journal.has_journal other a last few reads h more_is) =
    held_says budget file text other events last stage a start notes new small starts few reads (is ∙ ap (λ (es : List Event). gave file text ∷ es) more_is) h

post_text_says : (budget : ℕ) (file text : List ℕ) (notes notes' : Notes) (events more : List Event) (stage : Stage) → length text ≤ SHEET_LIMIT → events ≡ gave file text ∷ more → PostText (Starts budget) (RefusesText budget) Allows notes text more stage notes' → Says (posts file) budget notes notes' events stage
post_text_says budget file text notes notes' events more stage small is (journal.needs_sheet_memory none) = tt
post_text_says budget file text notes notes' events more stage small is (journal.sheet_is_refused why further has none) =
    refuses refl (refuses_to_post file text why further small has (is ∙ ap (λ (es : List Event). gave file text ∷ es) none) refl)
post_text_says budget file text notes notes' events more stage small is (journal.has_sheet start end starts h) = posts_input_says budget file text events more stage start notes (start, notes) (end, notes') refl small starts is h

posts_say : (budget : ℕ) (file : List ℕ) (notes notes' : Notes) (events : List Event) (stage : Stage) → Posts (Starts budget) (RefusesText budget) Allows file notes events stage notes' → Says (posts file) budget notes notes' events stage
posts_say budget file notes notes' events stage (journal.needs_file_memory none) = tt
posts_say budget file notes notes' events stage (journal.awaits_file none) = (refl, (none, refl))
posts_say budget file notes notes' events stage (journal.has_file text more small h is) = post_text_says budget file text notes notes' events more stage small is h

-- ---- demonstrations

demo_says : (blocks budget : ℕ) (notes notes' : Notes) (events : List Event) (stage : Stage) → Demo blocks budget notes events stage notes' → Says (demonstrates blocks) budget notes notes' events stage
demo_says blocks budget notes notes' events stage (demo.needs_memory none) = tt
demo_says blocks budget notes notes' events stage (demo.is_refused why further has none) = refuses refl (refuses_blocks blocks why further has none refl)
demo_says blocks budget notes notes' events stage (demo.is_loaded start loaded loads none) = tt
demo_says blocks budget notes notes' events stage (demo.has_answer start loaded t done mid end answer loads clears few allowed is) = tt
demo_says blocks budget notes notes' events stage (demo.is_cleared start loaded t end cleared loads clears sums is) =
    sums_up t (of_blocks blocks start end loaded cleared loads clears sums (ap (λ (es : List Event). es ++ told cleared ∷ []) is)) refl

-- ---- all modes

pub mode_says : (mode : Mode) (budget : ℕ) (notes notes' : Notes) (events : List Event) (stage : Stage) → CourseIn mode budget notes events stage notes' → Says mode budget notes notes' events stage
mode_says replays budget notes notes' events stage h = replay_says budget notes notes' events stage h
mode_says (edits file) budget notes notes' events stage h = edit_says budget file notes notes' events stage h
mode_says (checks file) budget notes notes' events stage h = check_says budget file notes notes' events stage h.1 h.0
mode_says (merges file) budget notes notes' events stage h = merge_says budget file notes notes' events stage tt h.1 h.0
mode_says (posts file) budget notes notes' events stage h = posts_say budget file notes notes' events stage h
mode_says (demonstrates blocks) budget notes notes' events stage h = demo_says blocks budget notes notes' events stage h
