-- A run that edits a file refuses no sheet but the file's, and so none from which a run starts with budget enough.
use Rattle.std.proofs.Common.{◌≡◌, ◌≢◌, ℕ, ◌≤◌, inl, inr, List, [], ◌∷◌, ◌++◌, Some, IfSome, Option, sym, ◌∙◌, ap, subst}
use Rattle.std.specs.List.{list_any}
use Rattle.pc_port.specs.Shelf.{Files, file_named}
use Rattle.pc_words.specs.Words.{edits, FitsWords}
use Rattle.pc_words.specs.Laws.{WordsFitOneRequest}
use Rattle.pc_refusals.specs.declared.refusal.SheetRefusal.{SheetRefusal}
use Rattle.pc_refusals.specs.declared.status.Status.{Status}
use Rattle.pc_refusals.specs.declared.status.Status.TheVariants.{SheetRefused}
use Rattle.pc_refusals.specs.Events.{Outside, Event, gave, told, Happened}
use Rattle.pc_refusals.specs.Stages.{Stage, ends_with, ends}
use Rattle.pc_refusals.specs.Runs.{Comes, on_course, past_limit, without_memory, Run, ended, ended_with, read_failed, read_failed_at_file, write_failed, Ran}
use Rattle.pc_transcript.specs.Answer.{is_refused as was_refused, is_no_memory}
use Rattle.pc_transcript.specs.Course as course
use Rattle.pc_transcript.specs.Course.{AnswersLines, awaits_line, awaits_end, has_answer, has_all, FromSheet, is_refused, answers, Edit, awaits_file, has_file}
use Rattle.pc_spreadsheet.specs.Tasks.{State, Starts}
use Rattle.pc_spreadsheet.specs.Allowed.{Notes, Allows, RefusesText}
use Rattle.pc_replay.specs.Course as asked
use Rattle.pc_run_laws.specs.Complete.{HasEnoughFor, TextsOfEnoughAreOpened}
use Rattle.pc_run_laws.specs.Runs.{FaultlessRunsAreAnswered, RunsOfEnoughAreAnswered}
use Rattle.pc_run_laws.proofs.Ending.{IsOfLines, worse_is, by_words}
use Rattle.pc_run_laws.proofs.Running.{some_budget}

pub not_of_lines : (status : Status) → IsOfLines status → status ≢ SheetRefused
not_of_lines status (inl (inl is)) e = absurd (cc (sym is ∙ e))
not_of_lines status (inl (inr is)) e = absurd (cc (sym is ∙ e))
not_of_lines status (inr is) e = absurd (cc (sym is ∙ e))

-- what is so where the sheet is refused, and stays so whatever follows
module _ (R : List Event → Type 0) where
  -- a course ends with the sheet refused only where this is so
  abbrev pub Refuses : List Event → Stage → Type 0
  Refuses events (ends status) = status ≢ SheetRefused
  Refuses events (ends_with line status) = status ≡ SheetRefused → R events
  Refuses events stage = Unit {0}

  pub of_lines : (start : State × Notes) (all events : List Event) (stage : Stage) (end : State × Notes) → AnswersLines Allows start events stage end → Refuses all stage
  of_lines start all events stage end (awaits_line t legal whole few is) = tt
  of_lines start all events stage end (awaits_end t legal whole full is) = tt
  of_lines start all events stage end (has_answer t mid line taken answer legal whole few of_line allowed is) = tt
  of_lines start all events stage end (has_all t legal each every count is) = not_of_lines _ (worse_is (list_any (λ pair. is_no_memory pair.1) t) (list_any (λ pair. was_refused pair.1) t))

  pub of_sheet : (budget : ℕ) (text : List ℕ) (all more : List Event) → ((why : SheetRefusal) (said : List ℕ) (old new : Notes) → RefusesText budget text why said old new → R all)
      → (notes : Notes) (stage : Stage) (notes' : Notes) → FromSheet (Starts budget) (RefusesText budget) Allows text notes more stage notes' → Refuses all stage
  of_sheet budget text all more so notes stage notes' (course.needs_memory is) = tt
  of_sheet budget text all more so notes stage notes' (is_refused why said has is) = λ _. so why said notes notes' has
  of_sheet budget text all more so notes stage notes' (answers start end is lines) = of_lines (start, notes) all more stage (end, notes') lines

  module _ (longer : (events more : List Event) → R events → R (events ++ more)) (C : List Event → Stage → Notes → Type 0) (so : (events : List Event) (stage : Stage) (notes : Notes) → C events stage notes → Refuses events stage) where
    of_comes : (events : List Event) (stage : Stage) (notes : Notes) → Comes C events stage notes → Refuses events stage
    of_comes events stage notes (on_course c) = so events stage notes c
    of_comes events stage notes (past_limit before intake event c passes is) = λ e. absurd (cc e)
    of_comes events stage notes (without_memory line c) = λ e. absurd (cc e)

    pub of_run : (events : List Event) (status : Status) (notes : Notes) → Run C events status notes → status ≡ SheetRefused → R events
    of_run events status notes (ended comes) e = absurd (of_comes events (ends status) notes comes e)
    of_run events status notes (ended_with before line comes is) e = subst R (sym is) (longer before (told line ∷ []) (of_comes before (ends_with line status) notes comes e))
    of_run events status notes (read_failed before intake begun c can is) e = absurd (cc e)
    of_run events status notes (read_failed_at_file before name c is) e = absurd (cc e)
    of_run events status notes (write_failed before stage piece count comes tell is) e = absurd (cc e)

-- ---- the file's sheet

module _ (budget : ℕ) (file : List ℕ) where
  -- the shelf gave the file, and its text may be refused
  pub record IsRefusal (events : List Event) : Type 0 where
    pub text : List ℕ
    pub more : List Event
    pub why : SheetRefusal
    pub said : List ℕ
    pub old : Notes
    pub new : Notes
    pub gives : events ≡ gave file text ∷ more
    pub refuses : RefusesText budget text why said old new

  pub longer : (events more : List Event) → IsRefusal events → IsRefusal (events ++ more)
  longer events more r = record { text = r.text; more = r.more ++ more; why = r.why; said = r.said; old = r.old; new = r.new; gives = ap (λ (es : List Event). es ++ more) r.gives; refuses = r.refuses }

  of_edit : (notes : Notes) (events : List Event) (stage : Stage) (notes' : Notes) → Edit (Starts budget) (RefusesText budget) Allows file notes events stage notes' → Refuses IsRefusal events stage
  of_edit notes events stage notes' (course.needs_memory is) = tt
  of_edit notes events stage notes' (awaits_file is) = tt
  of_edit notes events stage notes' (has_file text more small from is) =
      of_sheet IsRefusal budget text events more (λ why said old new has. record { text = text; more = more; why = why; said = said; old = old; new = new; gives = is; refuses = has }) notes stage notes' from

  -- what the shelf gave is the file's text
  same_text : (files : Files) (text given : List ℕ) (more : List Event) (a b : Outside) → a.kept ≡ Some files → file_named file files ≡ Some text → Happened (gave file given ∷ more) a b → given ≡ text
  same_text files text given more a b keeps named happened =
      let gives : file_named file files ≡ Some given = subst (λ (k : Option Files). IfSome k (λ fs. file_named file fs ≡ Some given)) keeps happened.1.1 in
      let e : Some given ≡ Some text = sym gives ∙ named in cc

  -- a file's text from which a run starts isn't refused
  pub not_this : TextsOfEnoughAreOpened → 1 ≤ budget → (text : List ℕ) (files : Files) (state : State) (events spare : List Event) (a b : Outside) → a.kept ≡ Some files → file_named file files ≡ Some text → Starts budget text state → HasEnoughFor budget text
      → Happened (events ++ spare) a b → IsRefusal events → ⊥
  not_this opened some text files state events spare a b keeps named starts enough happened r =
      let same = same_text files text r.text (r.more ++ spare) a b keeps named (subst (λ (es : List Event). Happened (es ++ spare) a b) r.gives happened) in
      opened budget text state some starts enough r.why r.said r.old r.new (subst (λ (t : List ℕ). RefusesText budget t r.why r.said r.old r.new) same r.refuses)

not_refused : WordsFitOneRequest → TextsOfEnoughAreOpened → (words : List (List ℕ)) (file text : List ℕ) (budget : ℕ) (files : Files) (state : State) (status : Status) (notes notes' : Notes) (a b : Outside) → FitsWords words record { mode = edits file; budget = budget }
    → a.kept ≡ Some files → file_named file files ≡ Some text → Starts budget text state → HasEnoughFor budget text → (most : ℕ) → Ran (asked.Course words notes) most status notes' a b → status ≢ SheetRefused
not_refused one opened words file text budget files state status notes notes' a b fits keeps named starts enough most ran e =
    not_this budget file opened (some_budget words record { mode = edits file; budget = budget } fits) text files state ran.events ran.spare a b keeps named starts enough ran.happened
    (of_run (IsRefusal budget file) (longer budget file) (asked.Course words notes) (by_words one words record { mode = edits file; budget = budget } fits notes tt (of_edit budget file notes)) ran.events status notes' ran.run e)

pub opened_runs_end : WordsFitOneRequest → TextsOfEnoughAreOpened → FaultlessRunsAreAnswered → RunsOfEnoughAreAnswered
opened_runs_end one opened answered words file text budget files state status notes notes' before after fits keeps named starts enough runs calm short =
    answered words record { mode = edits file; budget = budget } status notes notes' before after fits tt runs calm short
    (not_refused one opened words file text budget files state status notes notes' before after fits keeps named starts enough runs.0 runs.2)
