-- Runs end in `TooLong` exactly where what they took in passes a limit: for a course that stays within the limits.
use Rattle.std.proofs.Common.{◌≡◌, ◌≢◌, ℕ, List, [], ◌∷◌, ◌++◌, refl, sym, ◌∙◌, ap, subst, inl, inr, ◌⊎◌, drop, append_assoc}
use Rattle.pc_refusals.specs.declared.status.Status.{Status}
use Rattle.pc_refusals.specs.declared.status.Status.TheVariants.{ReadFault, WriteFault, TooLong}
use Rattle.pc_refusals.specs.Events.{Event, told}
use Rattle.pc_refusals.specs.Stages.{Intake, sheet_line, line_within, no_line_within, rest_within, sheet_file, Stage, takes, ends, ends_with, PassesLimit}
use Rattle.pc_refusals.specs.Runs.{Comes, on_course, past_limit, without_memory, Run, ended, ended_with, read_failed, read_failed_at_file, write_failed}
use Rattle.pc_run_laws.specs.Limits.{HasPassed, EndsTooLongExactly}

-- ---- lists of which one member is looked at

pub nothing_there : (earlier later : List Event) (event : Event) → [] ≡ earlier ++ event ∷ later → ⊥
nothing_there [] later event e = absurd (cc e)
nothing_there (x ∷ earlier) later event e = absurd (cc e)

pub first_is : (x y : Event) (xs ys : List Event) → x ∷ xs ≡ y ∷ ys → x ≡ y
first_is x y xs ys e = cc e

-- it is the last, or it stands before that
in_front : (before earlier later : List Event) (last event : Event) → before ++ last ∷ [] ≡ earlier ++ event ∷ later → ((rest : List Event) × (before ≡ earlier ++ event ∷ rest)) ⊎ (event ≡ last)
in_front [] [] later last event e = inr (sym (first_is last event [] later e))
in_front [] (x ∷ earlier) later last event e = absurd (nothing_there earlier later event (ap (drop 1) e))
in_front (x ∷ before) [] later last event e = inl (before, ap (λ (y : Event). y ∷ before) (first_is x event (before ++ last ∷ []) later e))
in_front (x ∷ before) (y ∷ earlier) later last event e = elim (in_front before earlier later last event (ap (drop 1) e)) [
  | inl w ↦ inl (w.0, ap (λ (es : List Event). x ∷ es) w.1 ∙ ap (λ (z : Event). z ∷ (earlier ++ event ∷ w.0)) (first_is x y (before ++ last ∷ []) (earlier ++ event ∷ later) e))
  | inr w ↦ inr w
]

-- what is told passes no limit
not_told : (intake : Intake) (line : List ℕ) → PassesLimit intake (told line) → ⊥
not_told (sheet_line text) line passes = passes
not_told (line_within limit) line passes = passes
not_told (no_line_within limit) line passes = passes
not_told (rest_within limit) line passes = passes
not_told (sheet_file name) line passes = passes

-- ---- courses

-- the course itself ends otherwise
abbrev pub EndsOtherwise : Stage → Type 0
EndsOtherwise (ends status) = status ≢ TooLong
EndsOtherwise (ends_with line status) = status ≢ TooLong
EndsOtherwise stage = Unit {0}

-- what was taken in on the course is within its limits, and the course ends otherwise
pub record StaysWithin {N : Type 0} (Course : List Event → Stage → N → Type 0) : Type 0 where
  pub within : (events earlier later : List Event) (event : Event) (intake : Intake) (stage : Stage) (n m : N) → Course events stage n → Course earlier (takes intake) m → events ≡ earlier ++ event ∷ later → PassesLimit intake event → ⊥
  pub otherwise : (events : List Event) (stage : Stage) (n : N) → Course events stage n → EndsOtherwise stage

module _ {N : Type 0} (Course : List Event → Stage → N → Type 0) (stays : StaysWithin Course) where
  -- what passed stands in what happened on the course
  on_course_none : (events : List Event) (stage : Stage) (n : N) → Course events stage n → HasPassed Course events → ⊥
  on_course_none events stage n course has = stays.within events has.earlier has.later has.event has.intake stage n has.notes course has.comes has.events_are has.passes

  -- nor is it the line that was told behind it
  before_line_none : (before : List Event) (stage : Stage) (line : List ℕ) (n : N) → Course before stage n → HasPassed Course (before ++ told line ∷ []) → ⊥
  before_line_none before stage line n course has = elim (in_front before has.earlier has.later (told line) has.event has.events_are) [
    | inl w ↦ stays.within before has.earlier w.0 has.event has.intake stage n has.notes course has.comes w.1 has.passes
    | inr w ↦ not_told has.intake line (subst (λ (e : Event). PassesLimit has.intake e) w has.passes)
  ]

  passed_at_line : (before : List Event) (line : List ℕ) (status : Status) (n : N) → Comes Course before (ends_with line status) n → status ≡ TooLong → HasPassed Course (before ++ told line ∷ [])
  passed_at_line before line status n (on_course course) is = absurd (stays.otherwise before (ends_with line status) n course is)
  passed_at_line before line status n (past_limit earlier intake event course passes before_is) is = record {
    earlier = earlier;
    intake = intake;
    notes = n;
    comes = course;
    event = event;
    passes = passes;
    later = told line ∷ [];
    events_are = ap (λ (es : List Event). es ++ told line ∷ []) before_is ∙ append_assoc earlier (event ∷ []) (told line ∷ []);
  }
  passed_at_line before line status n (without_memory line2 course) is = absurd (cc is)

  passed : (events : List Event) (status : Status) (n : N) → Run Course events status n → status ≡ TooLong → HasPassed Course events
  passed events status n (ended (on_course course)) is = absurd (stays.otherwise events (ends status) n course is)
  passed events status n (ended_with before line comes events_are) is = subst (λ (es : List Event). HasPassed Course es) (sym events_are) (passed_at_line before line status n comes is)
  passed events status n (read_failed before intake begun course can events_are) is = absurd (cc is)
  passed events status n (read_failed_at_file before name course events_are) is = absurd (cc is)
  passed events status n (write_failed before stage piece count comes tells events_are) is = absurd (cc is)

  long_at_line : (before : List Event) (line : List ℕ) (status : Status) (n : N) → Comes Course before (ends_with line status) n → HasPassed Course (before ++ told line ∷ []) → status ≡ TooLong
  long_at_line before line status n (on_course course) has = absurd (before_line_none before (ends_with line status) line n course has)
  long_at_line before line status n (past_limit earlier intake event course passes before_is) has = refl
  long_at_line before line status n (without_memory line2 course) has = absurd (before_line_none before _ line n course has)

  too_long : (events : List Event) (status : Status) (n : N) → Run Course events status n → HasPassed Course events → status ≢ ReadFault → status ≢ WriteFault → status ≡ TooLong
  too_long events status n (ended (on_course course)) has read write = absurd (on_course_none events (ends status) n course has)
  too_long events status n (ended_with before line comes events_are) has read write = long_at_line before line status n comes (subst (λ (es : List Event). HasPassed Course es) events_are has)
  too_long events status n (read_failed before intake begun course can events_are) has read write = absurd (read refl)
  too_long events status n (read_failed_at_file before name course events_are) has read write = absurd (read refl)
  too_long events status n (write_failed before stage piece count comes tells events_are) has read write = absurd (write refl)

  pub exactly : EndsTooLongExactly Course
  exactly events status n run = (λ is. (passed events status n run is, (λ e. absurd (cc (is, e))), (λ e. absurd (cc (is, e)))), λ has. too_long events status n run has.0 has.1 has.2)
