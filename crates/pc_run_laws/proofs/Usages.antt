-- Runs of words that don't fit.
use Rattle.std.proofs.Common.{◌≡◌, ◌≢◌, ◌⊎◌, ℕ, List, [], ◌∷◌, ◌++◌, refl, sym, ◌∙◌, ap, subst, inl, inr}
use Rattle.pc_words.specs.Words.{Mode, FitNothing}
use Rattle.pc_refusals.specs.declared.status.Status.{Status}
use Rattle.pc_refusals.specs.declared.status.Status.TheVariants.{Usage, WriteFault}
use Rattle.pc_refusals.specs.Events.{Outside, Event, told, Does, Happened}
use Rattle.pc_refusals.specs.Stages.{Stage, takes, needs, tells, ends_with, ends, sheet_file}
use Rattle.pc_refusals.specs.Runs.{HasTook, IsSpare, nothing, ahead, Comes, on_course, past_limit, without_memory, Run, ended, ended_with, read_failed, read_failed_at_file, write_failed}
use Rattle.pc_spreadsheet.specs.Allowed.{Notes}
use Rattle.pc_replay.specs.Course.{usage_text, CourseIn, Course, without_fit, needs_memory, as_asked}
use Rattle.pc_run_laws.specs.ByStatus.{UsageIsOfWords, WordsAreTold}
use Rattle.pc_run_laws.proofs.Ends.{EndsIn, mode_in}

abbrev IsOther : Status → Type 0
IsOther status = status ≢ Usage

-- no mode ends so
modes_end_otherwise : (notes notes' : Notes) (events : List Event) (stage : Stage) (budget : ℕ) (mode : Mode) → CourseIn mode budget notes events stage notes' → EndsIn IsOther stage
modes_end_otherwise notes notes' events stage budget mode h =
    mode_in IsOther (record { done = λ e. absurd (cc e); some_refused = λ e. absurd (cc e); memory = λ e. absurd (cc e); sheet_refused = λ e. absurd (cc e) }) (λ e. absurd (cc e)) mode budget notes notes' events stage h

module _ (words : List (List ℕ)) (notes : Notes) where
  -- the words fit nothing, and the usage line comes first
  record IsUnfit (events : List Event) (line : List ℕ) (notes' : Notes) : Type 0 where
    fit_nothing : FitNothing words
    none : events ≡ []
    line_is : line ≡ usage_text
    none_noted : notes' ≡ notes

  -- a stage that ends the run so is that of words that don't fit
  abbrev UnfitAt : List Event → Notes → Stage → Type 0
  UnfitAt events notes' (takes intake) = Unit {0}
  UnfitAt events notes' (needs line) = Unit {0}
  UnfitAt events notes' (tells piece) = Unit {0}
  UnfitAt events notes' (ends_with line status) = (status ≢ Usage) ⊎ IsUnfit events line notes'
  UnfitAt events notes' (ends status) = status ≢ Usage

  otherwise : (events : List Event) (notes' : Notes) (stage : Stage) → EndsIn IsOther stage → UnfitAt events notes' stage
  otherwise events notes' (takes intake) h = tt
  otherwise events notes' (needs line) h = tt
  otherwise events notes' (tells piece) h = tt
  otherwise events notes' (ends_with line status) h = inl h
  otherwise events notes' (ends status) h = h

  course_at : (events : List Event) (stage : Stage) (notes' : Notes) → Course words notes events stage notes' → UnfitAt events notes' stage
  course_at events stage notes' (without_fit none is) = inr (record { fit_nothing = none; none = is; line_is = refl; none_noted = refl })
  course_at events stage notes' (needs_memory some is) = tt
  course_at events stage notes' (as_asked request fits h) = otherwise events notes' stage (modes_end_otherwise notes notes' events stage request.budget request.mode h)

  comes_at : (events : List Event) (stage : Stage) (notes' : Notes) → Comes (Course words notes) events stage notes' → UnfitAt events notes' stage
  comes_at events stage notes' (on_course h) = course_at events stage notes' h
  comes_at events stage notes' (past_limit before intake event h passes is) = inl (λ e. absurd (cc e))
  comes_at events stage notes' (without_memory line h) = inl (λ e. absurd (cc e))

  -- what such a run did
  record IsUsageRun (events : List Event) (notes' : Notes) : Type 0 where
    fit_nothing : FitNothing words
    events_are : events ≡ told usage_text ∷ []
    none_noted : notes' ≡ notes

  told_alone : (events before : List Event) (line : List ℕ) (notes' : Notes) → events ≡ before ++ told line ∷ [] → IsUnfit before line notes' → IsUsageRun events notes'
  told_alone events before line notes' is unfit = record {
    fit_nothing = unfit.fit_nothing;
    events_are = is ∙ ap (λ (es : List Event). es ++ told line ∷ []) unfit.none ∙ ap (λ (l : List ℕ). told l ∷ []) unfit.line_is;
    none_noted = unfit.none_noted;
  }

  run_at : (events : List Event) (status : Status) (notes' : Notes) → Run (Course words notes) events status notes' → status ≡ Usage → IsUsageRun events notes'
  run_at events status notes' (ended h) e = absurd (comes_at events (ends status) notes' h e)
  run_at events status notes' (ended_with before line h is) e = elim (comes_at before (ends_with line status) notes' h) [
    | inl other ↦ absurd (other e)
    | inr unfit ↦ told_alone events before line notes' is unfit
  ]
  run_at events status notes' (read_failed before intake begun h can is) e = absurd (cc e)
  run_at events status notes' (read_failed_at_file before name h is) e = absurd (cc e)
  run_at events status notes' (write_failed before stage piece count h telling is) e = absurd (cc e)

-- nothing was read ahead where nothing was taken
no_spare : (most : ℕ) (events spare : List Event) → (HasTook events → ⊥) → IsSpare most events spare → spare ≡ []
no_spare most events spare fails nothing = refl
no_spare most events spare fails (ahead held few telling some) = absurd (fails some)

none_taken : HasTook (told usage_text ∷ []) → ⊥
none_taken (inl h) = h
none_taken (inr h) = h

pub usages : UsageIsOfWords
usages words status notes notes' before after runs e =
    let ran = runs.2 in
    let is = run_at words notes ran.events status notes' ran.run e in
    let none = no_spare runs.0 ran.events ran.spare (λ some. none_taken (subst HasTook is.events_are some)) ran.is_spare in
    let both : ran.events ++ ran.spare ≡ told usage_text ∷ [] = ap (λ (es : List Event). es ++ ran.spare) is.events_are ∙ ap (λ (es : List Event). told usage_text ∷ es) none in
    let happened = subst (λ (es : List Event). Happened es before after) both ran.happened in
    let does : Does (told usage_text) before after = subst (λ (o : Outside). Does (told usage_text) before o) (sym happened.2) happened.1 in
    record { fit_nothing = is.fit_nothing; told = does.1; else_same = does.0; none_noted = is.none_noted }

-- ---- where the words fit nothing

abbrev IsUsageAt : Stage → Type 0
IsUsageAt (ends_with line status) = status ≡ Usage
IsUsageAt stage = ⊥

module _ (words : List (List ℕ)) (notes : Notes) (none : FitNothing words) where
  usage_next : (events : List Event) (stage : Stage) (notes' : Notes) → Course words notes events stage notes' → IsUsageAt stage
  usage_next events stage notes' (without_fit fit is) = refl
  usage_next events stage notes' (needs_memory some is) = absurd (some none)
  usage_next events stage notes' (as_asked request fits h) = absurd (none request fits)

  usage_comes : (events : List Event) (stage : Stage) (notes' : Notes) → Comes (Course words notes) events stage notes' → IsUsageAt stage
  usage_comes events stage notes' (on_course h) = usage_next events stage notes' h
  usage_comes events stage notes' (past_limit before intake event h passes is) = absurd (usage_next before (takes intake) notes' h)
  usage_comes events stage notes' (without_memory line h) = absurd (usage_next events (needs line) notes' h)

  usage_ends : (events : List Event) (status : Status) (notes' : Notes) → Run (Course words notes) events status notes' → (status ≡ Usage) ⊎ (status ≡ WriteFault)
  usage_ends events status notes' (ended h) = absurd (usage_comes events (ends status) notes' h)
  usage_ends events status notes' (ended_with before line h is) = inl (usage_comes before (ends_with line status) notes' h)
  usage_ends events status notes' (read_failed before intake begun h can is) = absurd (usage_next before (takes intake) notes' h)
  usage_ends events status notes' (read_failed_at_file before name h is) = absurd (usage_next before (takes (sheet_file name)) notes' h)
  usage_ends events status notes' (write_failed before stage piece count h telling is) = inr refl

pub words_are_told : WordsAreTold
words_are_told words status notes notes' before after runs none = usage_ends words notes none runs.2.events status notes' runs.2.run
