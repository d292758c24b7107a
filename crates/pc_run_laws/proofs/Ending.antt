-- How runs of commands end, where no device was at fault.
use Rattle.std.proofs.Common.{◌≡◌, ◌≢◌, ℕ, ◌⊎◌, Bool, true, false, inl, inr, List, [], ◌∷◌, ◌++◌, refl, sym, ◌∙◌, ap, subst, append_assoc}
use Rattle.std.specs.List.{list_any}
use Rattle.std.specs.Io.KnownBytes.{IsAtEnd}
use Rattle.pc_words.specs.Words.{Mode, replays, edits, checks, merges, posts, demonstrates, Request, FitsWords}
use Rattle.pc_words.specs.Laws.{WordsFitOneRequest}
use Rattle.pc_refusals.specs.declared.refusal.SheetRefusal.{SheetRefusal}
use Rattle.pc_refusals.specs.declared.status.Status.{Status}
use Rattle.pc_refusals.specs.declared.status.Status.TheVariants.{Done, SomeRefused, SheetRefused, ReadFault, WriteFault, Memory, TooLong}
use Rattle.pc_refusals.specs.Endings.{memory_text}
use Rattle.pc_refusals.specs.Events.{Outside, Event, took, took_rest, gave, Happened}
use Rattle.pc_refusals.specs.Stages.{Stage, takes, needs, tells, ends_with, ends}
use Rattle.pc_refusals.specs.Runs.{last_or, IsOutput, IsSpare, nothing, ahead, Comes, on_course, past_limit, without_memory, Run, ended, ended_with, read_failed, read_failed_at_file, write_failed, Ran}
use Rattle.pc_refusals.proofs.EventLemmas.{last_or-append}
use Rattle.pc_run_laws.specs.Causes.{HasCauses}
use Rattle.pc_run_laws.proofs.FlatLemmas.{happened-split}
use Rattle.pc_run_laws.proofs.CauseLemmas.{has_causes, replay_calmly, edit_calmly}
use Rattle.pc_transcript.specs.Answer.{Answer, is_refused as was_refused, is_no_memory}
use Rattle.pc_transcript.specs.Transcript.{worse_of}
use Rattle.pc_transcript.specs.Course as course
use Rattle.pc_transcript.specs.Course.{events_of, AnswersLines, awaits_line, awaits_end, has_answer, has_all, FromSheet, is_refused, answers, FromInput, awaits_sheet, keeps_sheet, has_sheet, Replay, needs_room, from_input, Edit, awaits_file, has_file}
use Rattle.pc_spreadsheet.specs.Tasks.{Starts}
use Rattle.pc_spreadsheet.specs.Allowed.{Notes, Allows, RefusesText}
use Rattle.pc_replay.specs.Course as asked
use Rattle.pc_replay.specs.Course.{CourseIn}
use Rattle.pc_run_laws.specs.Runs.{IsOfCommands, IsFaultless, IsAnswered, FaultlessRunsAreAnswered}

-- ---- courses

-- the last event was that the input ended
abbrev IsAllTaken : List Event → Type 0
IsAllTaken events = (before : List Event) × (events ≡ before ++ took_rest [] ∷ [])

abbrev pub IsOfLines : Status → Type 0
IsOfLines status = ((status ≡ Done) ⊎ (status ≡ SomeRefused)) ⊎ (status ≡ Memory)

-- where a course ends by a status of lines, this is so of what happened
module _ (A : List Event → Type 0) where
  -- A course ends so, by a status of lines; or its last piece refuses the sheet.
  abbrev pub GoesTo : List Event → Stage → Type 0
  GoesTo events (ends status) = IsOfLines status × A events
  GoesTo events (ends_with line status) = status ≡ SheetRefused
  GoesTo events stage = Unit {0}

  -- and so it does behind other events, if they don't change it
  pub behind : (first : List Event) → ((events : List Event) → A events → A (first ++ events)) → (events : List Event) (stage : Stage) → GoesTo events stage → GoesTo (first ++ events) stage
  behind first later events (ends status) goes = (goes.0, later events goes.1)
  behind first later events (ends_with line status) goes = goes
  behind first later events (takes intake) goes = tt
  behind first later events (needs line) goes = tt
  behind first later events (tells piece) goes = tt

taken_later : (first events : List Event) → IsAllTaken events → IsAllTaken (first ++ events)
taken_later first events all = (first ++ all.0, ap (λ (es : List Event). first ++ es) all.1 ∙ sym (append_assoc first all.0 (took_rest [] ∷ [])))

pub worse_is : (no_memory refused : Bool) → IsOfLines (worse_of no_memory refused)
worse_is true refused = inr refl
worse_is false true = inl (inr refl)
worse_is false false = inl (inl refl)

lines_go : {S : Type 0} (Allows : S → List ℕ → Answer → S → Type 0) (start : S) (events : List Event) (stage : Stage) (end : S) → AnswersLines Allows start events stage end → GoesTo IsAllTaken events stage
lines_go Allows start events stage end (awaits_line t legal whole few is) = tt
lines_go Allows start events stage end (awaits_end t legal whole full is) = tt
lines_go Allows start events stage end (has_answer t mid line taken answer legal whole few of_line allowed is) = tt
lines_go Allows start events stage end (has_all t legal each all count is) = (worse_is (list_any (λ pair. is_no_memory pair.1) t) (list_any (λ pair. was_refused pair.1) t), (events_of t, is))

module _ {S N : Type 0} (IsSheet : List ℕ → S → Type 0) (Refuses : List ℕ → SheetRefusal → List ℕ → N → N → Type 0) (Allows : S × N → List ℕ → Answer → S × N → Type 0) where
  sheet_goes : (text : List ℕ) (notes : N) (events : List Event) (stage : Stage) (notes' : N) → FromSheet IsSheet Refuses Allows text notes events stage notes' → GoesTo IsAllTaken events stage
  sheet_goes text notes events stage notes' (course.needs_memory is) = tt
  sheet_goes text notes events stage notes' (is_refused why more has is) = refl
  sheet_goes text notes events stage notes' (answers start end is lines) = lines_go Allows (start, notes) events stage (end, notes') lines

  input_goes : (notes : N) (events : List Event) (stage : Stage) (notes' : N) → FromInput IsSheet Refuses Allows notes events stage notes' → GoesTo IsAllTaken events stage
  input_goes notes events stage notes' (awaits_sheet earlier others small is) = tt
  input_goes notes events stage notes' (keeps_sheet text front small is) = tt
  input_goes notes events stage notes' (has_sheet text taken more sheet from is) = subst (λ (es : List Event). GoesTo IsAllTaken es stage) (sym is) (behind IsAllTaken taken (taken_later taken) more stage (sheet_goes text notes more stage notes' from))

  replay_goes : (notes : N) (events : List Event) (stage : Stage) (notes' : N) → Replay IsSheet Refuses Allows notes events stage notes' → GoesTo IsAllTaken events stage
  replay_goes notes events stage notes' (needs_room is) = tt
  replay_goes notes events stage notes' (from_input from) = input_goes notes events stage notes' from

  edit_goes : (file : List ℕ) (notes : N) (events : List Event) (stage : Stage) (notes' : N) → Edit IsSheet Refuses Allows file notes events stage notes' → GoesTo IsAllTaken events stage
  edit_goes file notes events stage notes' (course.needs_memory is) = tt
  edit_goes file notes events stage notes' (awaits_file is) = tt
  edit_goes file notes events stage notes' (has_file text more small from is) = subst (λ (es : List Event). GoesTo IsAllTaken es stage) (sym is) (behind IsAllTaken (gave file text ∷ []) (taken_later (gave file text ∷ [])) more stage (sheet_goes text notes more stage notes' from))

-- ---- runs

module _ (A : List Event → Type 0) where
  -- a run that obeys ends so, or by its last piece
  abbrev ComesTo : List Event → Stage → Type 0
  ComesTo events (ends status) = IsOfLines status × A events
  ComesTo events (ends_with line status) = (status ≡ SheetRefused) ⊎ ((status ≡ TooLong) ⊎ (status ≡ Memory))
  ComesTo events stage = Unit {0}

  comes_of_goes : (events : List Event) (stage : Stage) → GoesTo A events stage → ComesTo events stage
  comes_of_goes events (ends status) goes = goes
  comes_of_goes events (ends_with line status) goes = inl goes
  comes_of_goes events (takes intake) goes = tt
  comes_of_goes events (needs line) goes = tt
  comes_of_goes events (tells piece) goes = tt

  -- done, or some refused, and so; or memory was wanting
  abbrev IsUncut : Status → List Event → Type 0
  IsUncut status events = (((status ≡ Done) ⊎ (status ≡ SomeRefused)) × A events) ⊎ (status ≡ Memory)

  uncut : (status : Status) (events : List Event) → IsOfLines status → A events → IsUncut status events
  uncut status events (inl is) all = inl (is, all)
  uncut status events (inr is) all = inr is

  last_piece : (status : Status) (events : List Event) → (status ≡ SheetRefused) ⊎ ((status ≡ TooLong) ⊎ (status ≡ Memory)) → status ≢ TooLong → status ≢ SheetRefused → IsUncut status events
  last_piece status events (inl is) short taken = absurd (taken is)
  last_piece status events (inr (inl is)) short taken = absurd (short is)
  last_piece status events (inr (inr is)) short taken = inr is

  answered : (status : Status) (events : List Event) (b : Outside) → (A events → IsAtEnd b.input) → IsUncut status events → IsAnswered status b
  answered status events b end (inl so) = inl (so.0, end so.1)
  answered status events b end (inr is) = inr is

  module _ {N : Type 0} (C : List Event → Stage → N → Type 0) (goes : (events : List Event) (stage : Stage) (notes : N) → C events stage notes → GoesTo A events stage) where
    comes_so : (events : List Event) (stage : Stage) (notes : N) → Comes C events stage notes → ComesTo events stage
    comes_so events stage notes (on_course c) = comes_of_goes events stage (goes events stage notes c)
    comes_so events stage notes (past_limit before intake event c passes is) = inr (inl refl)
    comes_so events stage notes (without_memory line c) = inr (inr refl)

    runs_so : (events : List Event) (status : Status) (notes : N) → status ≢ ReadFault → status ≢ WriteFault → status ≢ TooLong → status ≢ SheetRefused → Run C events status notes → IsUncut status events
    runs_so events status notes read write short taken (ended comes) = let so = comes_so events (ends status) notes comes in uncut status events so.0 so.1
    runs_so events status notes read write short taken (ended_with before line comes is) = last_piece status events (comes_so before (ends_with line status) notes comes) short taken
    runs_so events status notes read write short taken (read_failed before intake begun c can is) = absurd (read refl)
    runs_so events status notes read write short taken (read_failed_at_file before name c is) = absurd (read refl)
    runs_so events status notes read write short taken (write_failed before stage piece count comes tell is) = absurd (write refl)

    no_read_fault : (status : Status) (a b : Outside) → HasCauses status a b → IsFaultless a b → status ≢ ReadFault
    no_read_fault status a b causes calm is = elim (causes.read_fault is) [
      | inl h ↦ calm.input h.0
      | inr h ↦ calm.shelf h.0
    ]

    -- a run without a fault, of which the input is at its end where it is so
    pub ran_so : (most : ℕ) (status : Status) (notes : N) (a b : Outside) → HasCauses status a b → (ran : Ran C most status notes a b) → (A ran.events → IsAtEnd b.input) → IsFaultless a b → status ≢ TooLong → status ≢ SheetRefused → IsAnswered status b
    ran_so most status notes a b causes ran end calm short taken = answered status ran.events b end (runs_so ran.events status notes (no_read_fault status a b causes calm) (λ is. calm.output (causes.write_fault is)) short taken ran.run)

-- nothing was read ahead of what comes behind the end of the input
no_spare : (most : ℕ) (events spare : List Event) (mid b : Outside) → IsAllTaken events → IsSpare most events spare → Happened spare mid b → b ≡ mid
no_spare most events spare mid b all nothing happened = happened
no_spare most events spare mid b all (ahead held few last some) happened = absurd (subst IsOutput (ap (last_or (took [])) all.1 ∙ last_or-append (took []) all.0 (took_rest [] ∷ [])) last)

at_end : (most : ℕ) (events spare : List Event) (a mid b : Outside) → IsAllTaken events → IsSpare most events spare → Happened events a mid → Happened spare mid b → IsAtEnd b.input
at_end most events spare a mid b all is_spare happened rest =
    let two = happened-split all.0 (took_rest [] ∷ []) a mid (subst (λ (es : List Event). Happened es a mid) all.1 happened) in
    let there : IsAtEnd mid.input = subst (λ (o : Outside). IsAtEnd o.input) (sym two.2.2) two.2.1.2 in
    subst (λ (o : Outside). IsAtEnd o.input) (sym (no_spare most events spare mid b all is_spare rest)) there

all_at_end : {N : Type 0} (C : List Event → Stage → N → Type 0) (most : ℕ) (status : Status) (notes : N) (a b : Outside) (ran : Ran C most status notes a b) → IsAllTaken ran.events → IsAtEnd b.input
all_at_end C most status notes a b ran all =
    let two = happened-split ran.events ran.spare a b ran.happened in
    at_end most ran.events ran.spare a two.0 b all ran.is_spare two.1 two.2

-- ---- by words

mode_goes : (mode : Mode) (budget : ℕ) (notes : Notes) → IsOfCommands mode → (events : List Event) (stage : Stage) (notes' : Notes) → CourseIn mode budget notes events stage notes' → GoesTo IsAllTaken events stage
mode_goes replays budget notes of events stage notes' c = replay_goes (Starts budget) (RefusesText budget) Allows notes events stage notes' c
mode_goes (edits file) budget notes of events stage notes' c = edit_goes (Starts budget) (RefusesText budget) Allows file notes events stage notes' c
mode_goes (checks file) budget notes of events stage notes' c = absurd of
mode_goes (merges file) budget notes of events stage notes' c = absurd of
mode_goes (posts file) budget notes of events stage notes' c = absurd of
mode_goes (demonstrates blocks) budget notes of events stage notes' c = absurd of

module _ (one : WordsFitOneRequest) (words : List (List ℕ)) (request : Request) (fits : FitsWords words request) (notes : Notes) where
  -- what is so where nothing has happened and memory is needed, and on the course in the mode, is so by words that fit
  pub by_words : {P : List Event → Stage → Type 0} → P [] (needs memory_text) → ((events : List Event) (stage : Stage) (notes' : Notes) → CourseIn request.mode request.budget notes events stage notes' → P events stage)
      → (events : List Event) (stage : Stage) (notes' : Notes) → asked.Course words notes events stage notes' → P events stage
  by_words {P} start mode events stage notes' (asked.without_fit none is) = absurd (none request fits)
  by_words {P} start mode events stage notes' (asked.needs_memory fit is) = subst (λ (es : List Event). P es (needs memory_text)) (sym is) start
  by_words {P} start mode events stage notes' (asked.as_asked other fit c) = mode events stage notes' (subst (λ (r : Request). CourseIn r.mode r.budget notes events stage notes') (one words other request fit fits) c)

  words_go : IsOfCommands request.mode → (events : List Event) (stage : Stage) (notes' : Notes) → asked.Course words notes events stage notes' → GoesTo IsAllTaken events stage
  words_go of events stage notes' (asked.without_fit none is) = absurd (none request fits)
  words_go of events stage notes' (asked.needs_memory fit is) = tt
  words_go of events stage notes' (asked.as_asked other fit c) = mode_goes request.mode request.budget notes of events stage notes' (subst (λ (r : Request). CourseIn r.mode r.budget notes events stage notes') (one words other request fit fits) c)

words_cause : (one : WordsFitOneRequest) (words : List (List ℕ)) (mode : Mode) (budget : ℕ) (notes : Notes) → FitsWords words record { mode = mode; budget = budget } → IsOfCommands mode
    → (most : ℕ) (status : Status) (notes' : Notes) (a b : Outside) → Ran (asked.Course words notes) most status notes' a b → HasCauses status a b
words_cause one words replays budget notes fits of most status notes' a b ran =
    has_causes (asked.Course words notes) (by_words one words record { mode = replays; budget = budget } fits notes (tt, tt) (replay_calmly (Starts budget) (RefusesText budget) Allows notes)) most status notes' a b ran
words_cause one words (edits file) budget notes fits of most status notes' a b ran =
    has_causes (asked.Course words notes) (by_words one words record { mode = edits file; budget = budget } fits notes (tt, tt) (edit_calmly (Starts budget) (RefusesText budget) Allows file notes)) most status notes' a b ran
words_cause one words (checks file) budget notes fits of most status notes' a b ran = absurd of
words_cause one words (merges file) budget notes fits of most status notes' a b ran = absurd of
words_cause one words (posts file) budget notes fits of most status notes' a b ran = absurd of
words_cause one words (demonstrates blocks) budget notes fits of most status notes' a b ran = absurd of

pub faultless_runs_end : WordsFitOneRequest → FaultlessRunsAreAnswered
faultless_runs_end one words request status notes notes' before after fits of runs calm short taken =
    ran_so IsAllTaken (asked.Course words notes) (words_go one words request fits notes of) runs.0 status notes' before after
    (words_cause one words request.mode request.budget notes fits of runs.0 status notes' before after runs.2) runs.2
    (all_at_end (asked.Course words notes) runs.0 status notes' before after runs.2) calm short taken
