-- What runs say by their status.
use Rattle.std.proofs.Common.{◌≡◌, ◌≢◌, ◌⊎◌, ℕ, Bool, true, false, List, [], ◌∷◌, ◌++◌, refl, sym, ◌∙◌, ap, subst, inl, inr, append_assoc}
use Rattle.std.specs.List.{list_any}
use Rattle.pc_checker.specs.declared.verdict.Verdict.{Verdict}
use Rattle.pc_checker.specs.declared.verdict.Verdict.TheVariants.{UseNotEntered, BadValues, UseNotHeld, RuleBroken, HasValue, SetInSet, BadAxiom, BadStep, WrongEnd, Accepted}
use Rattle.pc_words.specs.Words.{Request, FitsWords}
use Rattle.pc_refusals.specs.declared.status.Status.{Status}
use Rattle.pc_refusals.specs.declared.status.Status.TheVariants.{Done, SomeRefused, Usage, SheetRefused, ReadFault, WriteFault, Memory, TooLong, CertRefused}
use Rattle.pc_refusals.specs.Endings.{too_long_text}
use Rattle.pc_refusals.specs.Events.{Event, took_rest, gave, told, shelf_failed}
use Rattle.pc_refusals.specs.Stages.{Stage, takes, ends_with, ends, sheet_file}
use Rattle.pc_refusals.specs.Runs.{Comes, on_course, past_limit, without_memory, Run, ended, ended_with, read_failed, read_failed_at_file, write_failed}
use Rattle.pc_transcript.specs.Answer.{is_refused, is_no_memory}
use Rattle.pc_transcript.specs.Transcript.{Transcript, worse_of, status_of}
use Rattle.pc_judge.specs.declared.told.Told.{Told}
use Rattle.pc_judge.specs.declared.told.Told.TheVariants as is_told
use Rattle.pc_judge.specs.Judged.{IsJudged, judged_text, status_of_told}
use Rattle.pc_spreadsheet.specs.Allowed.{Notes}
use Rattle.pc_replay.specs.Course.{Course, without_fit, needs_memory, as_asked}
use Rattle.pc_run_laws.specs.Statuses.{AnswersAll, IsDone, answered, accepted, merged, HasRefused, HasWanting, IsSheetRefused, PassesItsLimit, FailsToTake, at_input, at_file, DoneIsSo, SomeAreRefused, SheetsAreRefused, LimitsArePassed, ReadsFail}
use Rattle.pc_run_laws.proofs.Ends.{EndsIn, mode_in}
use Rattle.pc_run_laws.proofs.Saying.{SaysLast, refuses, judges, merges_both, sums_up, mode_says}

-- ---- the statuses of lines

is_done : (no_memory refused : Bool) → worse_of no_memory refused ≡ Done → (no_memory ≡ false) × (refused ≡ false)
is_done true refused e = absurd (cc e)
is_done false true e = absurd (cc e)
is_done false false e = (refl, refl)

is_some : (no_memory refused : Bool) → worse_of no_memory refused ≡ SomeRefused → (no_memory ≡ false) × (refused ≡ true)
is_some true refused e = absurd (cc e)
is_some false true e = (refl, refl)
is_some false false e = absurd (cc e)

is_wanting : (no_memory refused : Bool) → worse_of no_memory refused ≡ Memory → no_memory ≡ true
is_wanting true refused e = refl
is_wanting false true e = absurd (cc e)
is_wanting false false e = absurd (cc e)

not_a_sheet : (no_memory refused : Bool) → worse_of no_memory refused ≢ SheetRefused
not_a_sheet true refused = λ e. absurd (cc e)
not_a_sheet false true = λ e. absurd (cc e)
not_a_sheet false false = λ e. absurd (cc e)

-- ---- the statuses of verdicts

verdict_done : (verdict : Verdict) → status_of_told (is_told.Verdict verdict) ≡ Done → is_told.Verdict verdict ≡ is_told.Verdict Accepted
verdict_done (UseNotEntered line) e = absurd (cc e)
verdict_done (BadValues line) e = absurd (cc e)
verdict_done (UseNotHeld line) e = absurd (cc e)
verdict_done (RuleBroken rule) e = absurd (cc e)
verdict_done (HasValue line) e = absurd (cc e)
verdict_done (SetInSet line) e = absurd (cc e)
verdict_done (BadAxiom line) e = absurd (cc e)
verdict_done (BadStep line) e = absurd (cc e)
verdict_done WrongEnd e = absurd (cc e)
verdict_done Accepted e = refl

told_done : (what : Told) → status_of_told what ≡ Done → what ≡ is_told.Verdict Accepted
told_done (is_told.Verdict verdict) e = verdict_done verdict e
told_done (is_told.Syntax line) e = absurd (cc e)
told_done (is_told.UnknownName line) e = absurd (cc e)

-- the statuses of verdicts are two
abbrev IsOfVerdict : Status → Type 0
IsOfVerdict status = (status ≡ Done) ⊎ (status ≡ CertRefused)

verdict_of : (verdict : Verdict) → IsOfVerdict (status_of_told (is_told.Verdict verdict))
verdict_of (UseNotEntered line) = inr refl
verdict_of (BadValues line) = inr refl
verdict_of (UseNotHeld line) = inr refl
verdict_of (RuleBroken rule) = inr refl
verdict_of (HasValue line) = inr refl
verdict_of (SetInSet line) = inr refl
verdict_of (BadAxiom line) = inr refl
verdict_of (BadStep line) = inr refl
verdict_of WrongEnd = inr refl
verdict_of Accepted = inl refl

told_of : (what : Told) → IsOfVerdict (status_of_told what)
told_of (is_told.Verdict verdict) = verdict_of verdict
told_of (is_told.Syntax line) = inr refl
told_of (is_told.UnknownName line) = inr refl

pub not_told : (what : Told) (status : Status) → status ≢ Done → status ≢ CertRefused → status_of_told what ≢ status
not_told what status done cert = λ e. elim (told_of what) [
  | inl is ↦ absurd (done (sym e ∙ is))
  | inr is ↦ absurd (cert (sym e ∙ is))
]

-- ---- the course's last piece

module _ (words : List (List ℕ)) (notes notes' : Notes) (request : Request) (fits : FitsWords words request) where
  done_lines : (events : List Event) (t : Transcript) → AnswersAll request.budget notes notes' events t request.mode → status_of t ≡ Done → IsDone words notes notes' events
  done_lines events t all e =
      let so = is_done (list_any (λ pair. is_no_memory pair.1) t) (list_any (λ pair. is_refused pair.1) t) e in
      answered request t fits all so.1 so.0

  done_last : (earlier events : List Event) (line : List ℕ) (status : Status) → events ≡ earlier ++ told line ∷ [] → SaysLast request.mode request.budget notes notes' earlier line status → status ≡ Done → IsDone words notes notes' events
  done_last earlier events line status is (refuses so refused) e = absurd (cc (sym so ∙ e))
  done_last earlier events line status is (judges file text certificate sheet what mode small reads few judged earlier_is line_is so same) e =
      let done = told_done what (sym so ∙ e) in
      accepted request file text certificate sheet fits mode small reads few (subst (λ (w : Told). IsJudged sheet certificate w) done judged)
      (is ∙ ap (λ (es : List Event). es ++ told line ∷ []) earlier_is ∙ ap (λ (l : List ℕ). gave file text ∷ took_rest certificate ∷ told l ∷ []) (line_is ∙ ap (λ (w : Told). judged_text sheet w) done)) same
  done_last earlier events line status is (merges_both file text other a b both mode small reads_a few reads_b merge earlier_is line_is so same) e =
      merged request file text other a b both fits mode small reads_a few reads_b merge
      (is ∙ ap (λ (es : List Event). es ++ told line ∷ []) earlier_is ∙ ap (λ (l : List ℕ). gave file text ∷ took_rest other ∷ told l ∷ []) line_is) same
  done_last earlier events line status is (sums_up t all so) e = done_lines events t (subst (λ (es : List Event). AnswersAll request.budget notes notes' es t request.mode) (sym is) all) (sym so ∙ e)

  some_lines : (events : List Event) (t : Transcript) → AnswersAll request.budget notes notes' events t request.mode → status_of t ≡ SomeRefused → HasRefused words notes notes' events
  some_lines events t all e =
      let so = is_some (list_any (λ pair. is_no_memory pair.1) t) (list_any (λ pair. is_refused pair.1) t) e in
      record { request = request; t = t; fits = fits; answered = all; some_refused = so.1; none_wanting = so.0 }

  some_last : (earlier events : List Event) (line : List ℕ) (status : Status) → events ≡ earlier ++ told line ∷ [] → SaysLast request.mode request.budget notes notes' earlier line status → status ≡ SomeRefused → HasRefused words notes notes' events
  some_last earlier events line status is (refuses so refused) e = absurd (cc (sym so ∙ e))
  some_last earlier events line status is (judges file text certificate sheet what mode small reads few judged earlier_is line_is so same) e =
      absurd (not_told what SomeRefused (λ e. absurd (cc e)) (λ e. absurd (cc e)) (sym so ∙ e))
  some_last earlier events line status is (merges_both file text other a b both mode small reads_a few reads_b merge earlier_is line_is so same) e = absurd (cc (sym so ∙ e))
  some_last earlier events line status is (sums_up t all so) e = some_lines events t (subst (λ (es : List Event). AnswersAll request.budget notes notes' es t request.mode) (sym is) all) (sym so ∙ e)

  pub wanting_lines : (events : List Event) (t : Transcript) → AnswersAll request.budget notes notes' events t request.mode → status_of t ≡ Memory → HasWanting words notes notes' events
  wanting_lines events t all e =
      record { request = request; t = t; fits = fits; answered = all; some_wanting = is_wanting (list_any (λ pair. is_no_memory pair.1) t) (list_any (λ pair. is_refused pair.1) t) e }

  pub wanting_last : (earlier events : List Event) (line : List ℕ) (status : Status) → events ≡ earlier ++ told line ∷ [] → SaysLast request.mode request.budget notes notes' earlier line status → status ≡ Memory → HasWanting words notes notes' events
  wanting_last earlier events line status is (refuses so refused) e = absurd (cc (sym so ∙ e))
  wanting_last earlier events line status is (judges file text certificate sheet what mode small reads few judged earlier_is line_is so same) e =
      absurd (not_told what Memory (λ e. absurd (cc e)) (λ e. absurd (cc e)) (sym so ∙ e))
  wanting_last earlier events line status is (merges_both file text other a b both mode small reads_a few reads_b merge earlier_is line_is so same) e = absurd (cc (sym so ∙ e))
  wanting_last earlier events line status is (sums_up t all so) e = wanting_lines events t (subst (λ (es : List Event). AnswersAll request.budget notes notes' es t request.mode) (sym is) all) (sym so ∙ e)

  sheet_lines : (events : List Event) (t : Transcript) → AnswersAll request.budget notes notes' events t request.mode → status_of t ≡ SheetRefused → IsSheetRefused words notes notes' events
  sheet_lines events t all e = absurd (not_a_sheet (list_any (λ pair. is_no_memory pair.1) t) (list_any (λ pair. is_refused pair.1) t) e)

  sheet_last : (earlier events : List Event) (line : List ℕ) (status : Status) → events ≡ earlier ++ told line ∷ [] → SaysLast request.mode request.budget notes notes' earlier line status → status ≡ SheetRefused → IsSheetRefused words notes notes' events
  sheet_last earlier events line status is (refuses so refused) e = record { request = request; fits = fits; earlier = earlier; line = line; refuses = refused; events_are = is }
  sheet_last earlier events line status is (judges file text certificate sheet what mode small reads few judged earlier_is line_is so same) e =
      absurd (not_told what SheetRefused (λ e. absurd (cc e)) (λ e. absurd (cc e)) (sym so ∙ e))
  sheet_last earlier events line status is (merges_both file text other a b both mode small reads_a few reads_b merge earlier_is line_is so same) e = absurd (cc (sym so ∙ e))
  sheet_last earlier events line status is (sums_up t all so) e = absurd (not_a_sheet (list_any (λ pair. is_no_memory pair.1) t) (list_any (λ pair. is_refused pair.1) t) (sym so ∙ e))

-- ---- runs that end on their course

-- in such a status a run ends on its course, where its words fit
record IsOfCourse (wanted : Status) : Type 0 where
  usage : wanted ≢ Usage
  read_fault : wanted ≢ ReadFault
  write_fault : wanted ≢ WriteFault
  memory : wanted ≢ Memory
  too_long : wanted ≢ TooLong

module _ (words : List (List ℕ)) (notes : Notes) (wanted : Status) (of_course : IsOfCourse wanted) (Is : Notes → List Event → Type 0)
    (of_lines : (notes' : Notes) (request : Request) → FitsWords words request → (events : List Event) (t : Transcript) → AnswersAll request.budget notes notes' events t request.mode → status_of t ≡ wanted → Is notes' events)
    (of_last : (notes' : Notes) (request : Request) → FitsWords words request → (earlier events : List Event) (line : List ℕ) (status : Status) → events ≡ earlier ++ told line ∷ [] → SaysLast request.mode request.budget notes notes' earlier line status → status ≡ wanted → Is notes' events) where
  course_ends : (events : List Event) (status : Status) (notes' : Notes) → Course words notes events (ends status) notes' → status ≡ wanted → Is notes' events
  course_ends events status notes' (as_asked request fits h) e =
      let so = mode_says request.mode request.budget notes notes' events (ends status) h in
      of_lines notes' request fits events so.0 so.1 (sym so.2 ∙ e)

  course_ends_with : (earlier events : List Event) (line : List ℕ) (status : Status) (notes' : Notes) → events ≡ earlier ++ told line ∷ [] → Course words notes earlier (ends_with line status) notes' → status ≡ wanted → Is notes' events
  course_ends_with earlier events line status notes' is (without_fit none none_yet) e = absurd (of_course.usage (sym e))
  course_ends_with earlier events line status notes' is (as_asked request fits h) e = of_last notes' request fits earlier events line status is (mode_says request.mode request.budget notes notes' earlier (ends_with line status) h) e

  last_piece : (earlier events : List Event) (line : List ℕ) (status : Status) (notes' : Notes) → events ≡ earlier ++ told line ∷ [] → Comes (Course words notes) earlier (ends_with line status) notes' → status ≡ wanted → Is notes' events
  last_piece earlier events line status notes' is (on_course h) e = course_ends_with earlier events line status notes' is h e
  last_piece earlier events line status notes' is (past_limit before intake event h passes before_is) e = absurd (of_course.too_long (sym e))
  last_piece earlier events line status notes' is (without_memory same h) e = absurd (of_course.memory (sym e))

  run_is : (events : List Event) (status : Status) (notes' : Notes) → Run (Course words notes) events status notes' → status ≡ wanted → Is notes' events
  run_is events status notes' (ended (on_course h)) e = course_ends events status notes' h e
  run_is events status notes' (ended_with before line h is) e = last_piece before events line status notes' is h e
  run_is events status notes' (read_failed before intake begun h can is) e = absurd (of_course.read_fault (sym e))
  run_is events status notes' (read_failed_at_file before name h is) e = absurd (of_course.read_fault (sym e))
  run_is events status notes' (write_failed before stage piece count h telling is) e = absurd (of_course.write_fault (sym e))

pub done : DoneIsSo
done words status notes notes' before after runs e =
    run_is words notes Done (record { usage = λ e. absurd (cc e); read_fault = λ e. absurd (cc e); write_fault = λ e. absurd (cc e); memory = λ e. absurd (cc e); too_long = λ e. absurd (cc e) }) (λ new events. IsDone words notes new events)
    (λ new request fits events t all same. done_lines words notes new request fits events t all same)
    (λ new request fits earlier events line status is says same. done_last words notes new request fits earlier events line status is says same)
    runs.2.events status notes' runs.2.run e

pub some_refused : SomeAreRefused
some_refused words status notes notes' before after runs e =
    run_is words notes SomeRefused (record { usage = λ e. absurd (cc e); read_fault = λ e. absurd (cc e); write_fault = λ e. absurd (cc e); memory = λ e. absurd (cc e); too_long = λ e. absurd (cc e) }) (λ new events. HasRefused words notes new events)
    (λ new request fits events t all same. some_lines words notes new request fits events t all same)
    (λ new request fits earlier events line status is says same. some_last words notes new request fits earlier events line status is says same)
    runs.2.events status notes' runs.2.run e

pub sheets_refused : SheetsAreRefused
sheets_refused words status notes notes' before after runs e =
    run_is words notes SheetRefused (record { usage = λ e. absurd (cc e); read_fault = λ e. absurd (cc e); write_fault = λ e. absurd (cc e); memory = λ e. absurd (cc e); too_long = λ e. absurd (cc e) }) (λ new events. IsSheetRefused words notes new events)
    (λ new request fits events t all same. sheet_lines words notes new request fits events t all same)
    (λ new request fits earlier events line status is says same. sheet_last words notes new request fits earlier events line status is says same)
    runs.2.events status notes' runs.2.run e

-- ---- runs that end early

module _ (words : List (List ℕ)) (notes : Notes) where
  -- the courses end in no such status
  module _ (other : Status) (usage : Usage ≢ other) (done : Done ≢ other) (some : SomeRefused ≢ other) (memory : Memory ≢ other) (sheet : SheetRefused ≢ other) (cert : CertRefused ≢ other) where
    pub course_in : (events : List Event) (stage : Stage) (notes' : Notes) → Course words notes events stage notes' → EndsIn (λ status. status ≢ other) stage
    course_in events stage notes' (without_fit none is) = usage
    course_in events stage notes' (needs_memory some is) = tt
    course_in events stage notes' (as_asked request fits h) =
        mode_in (λ status. status ≢ other) (record { done = done; some_refused = some; memory = memory; sheet_refused = sheet }) cert request.mode request.budget notes notes' events stage h

  not_long : (events : List Event) (stage : Stage) (notes' : Notes) → Course words notes events stage notes' → EndsIn (λ status. status ≢ TooLong) stage
  not_long events stage notes' h = course_in TooLong (λ e. absurd (cc e)) (λ e. absurd (cc e)) (λ e. absurd (cc e)) (λ e. absurd (cc e)) (λ e. absurd (cc e)) (λ e. absurd (cc e)) events stage notes' h

  not_read : (events : List Event) (stage : Stage) (notes' : Notes) → Course words notes events stage notes' → EndsIn (λ status. status ≢ ReadFault) stage
  not_read events stage notes' h = course_in ReadFault (λ e. absurd (cc e)) (λ e. absurd (cc e)) (λ e. absurd (cc e)) (λ e. absurd (cc e)) (λ e. absurd (cc e)) (λ e. absurd (cc e)) events stage notes' h

  long_last : (earlier events : List Event) (line : List ℕ) (status : Status) (notes' : Notes) → events ≡ earlier ++ told line ∷ [] → Comes (Course words notes) earlier (ends_with line status) notes' → status ≡ TooLong → PassesItsLimit words notes notes' events
  long_last earlier events line status notes' is (on_course h) e = absurd (not_long earlier (ends_with line status) notes' h e)
  long_last earlier events line status notes' is (past_limit before intake event (as_asked request fits h) passes before_is) e = record {
    request = request;
    fits = fits;
    earlier = before;
    intake = intake;
    event = event;
    comes = h;
    takes_in = (mode_says request.mode request.budget notes notes' before (takes intake) h).0;
    passes = passes;
    events_are = is ∙ ap (λ (es : List Event). es ++ told too_long_text ∷ []) before_is ∙ append_assoc before (event ∷ []) (told too_long_text ∷ []);
  }
  long_last earlier events line status notes' is (without_memory same h) e = absurd (cc e)

  run_long : (events : List Event) (status : Status) (notes' : Notes) → Run (Course words notes) events status notes' → status ≡ TooLong → PassesItsLimit words notes notes' events
  run_long events status notes' (ended (on_course h)) e = absurd (not_long events (ends status) notes' h e)
  run_long events status notes' (ended_with before line h is) e = long_last before events line status notes' is h e
  run_long events status notes' (read_failed before intake begun h can is) e = absurd (cc e)
  run_long events status notes' (read_failed_at_file before name h is) e = absurd (cc e)
  run_long events status notes' (write_failed before stage piece count h telling is) e = absurd (cc e)

  read_last : (earlier : List Event) (line : List ℕ) (status : Status) (notes' : Notes) → Comes (Course words notes) earlier (ends_with line status) notes' → status ≢ ReadFault
  read_last earlier line status notes' (on_course h) = not_read earlier (ends_with line status) notes' h
  read_last earlier line status notes' (past_limit before intake event h passes before_is) = λ e. absurd (cc e)
  read_last earlier line status notes' (without_memory same h) = λ e. absurd (cc e)

  run_reads : (events : List Event) (status : Status) (notes' : Notes) → Run (Course words notes) events status notes' → status ≡ ReadFault → FailsToTake words notes notes' events
  run_reads events status notes' (ended (on_course h)) e = absurd (not_read events (ends status) notes' h e)
  run_reads events status notes' (ended_with before line h is) e = absurd (read_last before line status notes' h e)
  run_reads events status notes' (read_failed before intake begun (as_asked request fits h) can is) e =
      at_input request before intake begun fits h (mode_says request.mode request.budget notes notes' before (takes intake) h).0 can is
  run_reads events status notes' (read_failed_at_file before name (as_asked request fits h) is) e =
      let so = mode_says request.mode request.budget notes notes' before (takes (sheet_file name)) h in
      at_file request name fits so.0 (is ∙ ap (λ (es : List Event). es ++ shelf_failed name ∷ []) so.1.0) so.1.1
  run_reads events status notes' (write_failed before stage piece count h telling is) e = absurd (cc e)

pub too_long : LimitsArePassed
too_long words status notes notes' before after runs e = run_long words notes runs.2.events status notes' runs.2.run e

pub reads_fail : ReadsFail
reads_fail words status notes notes' before after runs e = run_reads words notes runs.2.events status notes' runs.2.run e
