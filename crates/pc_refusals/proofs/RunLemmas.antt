-- Lemmas on runs.
use Rattle.std.proofs.Common.{◌≡◌, ◌≢◌, ℕ, List, [], ◌∷◌, ◌++◌, refl, sym, subst, inl, inr, Option, append_assoc, ◌∙◌, ap, take}
use Rattle.std.specs.Io.KnownBytes.{Appends}
use Rattle.pc_port.specs.Port.{Rose, AppendsFront}
use Rattle.pc_refusals.specs.declared.status.Status.{Status}
use Rattle.pc_refusals.specs.declared.status.Status.TheVariants.{WriteFault}
use Rattle.pc_refusals.specs.Endings.{TellsAtEnd}
use Rattle.pc_refusals.specs.Events.{Outside, Streams, Event, told, output_failed, Happened, streams, around}
use Rattle.pc_refusals.specs.Stages.{Stage, ends_with}
use Rattle.pc_refusals.specs.Runs.{EndsTelling, Tells, goes_on, ends_so, Comes, on_course, past_limit, without_memory, Run, ended, ended_with, read_failed, read_failed_at_file, write_failed}
use Rattle.pc_refusals.proofs.EventLemmas.{happened-append, told_does, write_fails_does}

-- ---- a run of one course is one of another, after what came before

module _ {N M : Type 0} (Course : List Event → Stage → N → Type 0) (Other : List Event → Stage → M → Type 0) (first : List Event) (f : N → M) (more : (events : List Event) (stage : Stage) (notes : N) → Course events stage notes → Other (first ++ events) stage (f notes)) where
  push : (events before last : List Event) → events ≡ before ++ last → first ++ events ≡ (first ++ before) ++ last
  push events before last is = ap (λ (es : List Event). first ++ es) is ∙ sym (append_assoc first before last)

  pub comes-more : (events : List Event) (stage : Stage) (notes : N) → Comes Course events stage notes → Comes Other (first ++ events) stage (f notes)
  comes-more events stage notes (on_course course) = on_course (more events stage notes course)
  comes-more events stage notes (past_limit before intake event course passes is) = past_limit (first ++ before) intake event (more before _ notes course) passes (push events before (event ∷ []) is)
  comes-more events stage notes (without_memory line course) = without_memory line (more events _ notes course)

  pub run-more : (events : List Event) (status : Status) (notes : N) → Run Course events status notes → Run Other (first ++ events) status (f notes)
  run-more events status notes (ended comes) = ended (comes-more events _ notes comes)
  run-more events status notes (ended_with before line comes is) = ended_with (first ++ before) line (comes-more before _ notes comes) (push events before (told line ∷ []) is)
  run-more events status notes (read_failed before intake begun course can is) = read_failed (first ++ before) intake begun (more before _ notes course) can (push events before _ is)
  run-more events status notes (read_failed_at_file before name course is) = read_failed_at_file (first ++ before) name (more before _ notes course) (push events before _ is)
  run-more events status notes (write_failed before stage piece count comes tells is) = write_failed (first ++ before) stage piece count (comes-more before stage notes comes) tells (push events before _ is)

-- ---- at the line that ends a run

-- the line is told, and the run ends so; or a front of it was, and a write failed
pub record TellsLast {N : Type 0} (Course : List Event → Stage → N → Type 0) (before : List Event) (result : Status) (notes : N) (old new : Streams) : Type 0 where
  pub last : List Event
  pub run : Run Course (before ++ last) result notes
  pub ends : EndsTelling last
  pub happened : (o : Outside) → Happened last (around o old) (around o new)

pub tells_last : {N : Type 0} (Course : List Event → Stage → N → Type 0) (before : List Event) (status result : Status) (line : List ℕ) (notes : N) (l : Option (List ℕ)) (n : ℕ) (g g' : Option (List ℕ)) (m m' : ℕ)
    → Comes Course before (ends_with line status) notes → TellsAtEnd status line result g g' → status ≢ WriteFault → (result ≡ WriteFault → Rose m m') → (result ≢ WriteFault → m' ≡ m) → TellsLast Course before result notes (streams l n g m) (streams l n g' m')
tells_last Course before status result line notes l n g g' m m' comes tells other rose kept = elim tells [
  | inl w ↦ record {
    last = told line ∷ [];
    ends = tt;
    run = subst (λ (s : Status). Run Course (before ++ told line ∷ []) s notes) (sym w.0) (ended_with before line comes refl);
    happened = λ o. (around o (streams l n g' m'), told_does o l n g g' m m' line (kept (λ e. other (sym w.0 ∙ e))) w.1, refl);
  }
  | inr w ↦ record {
    last = told (take w.1.count line) ∷ output_failed ∷ [];
    ends = tt;
    run = subst (λ (s : Status). Run Course (before ++ told (take w.1.count line) ∷ output_failed ∷ []) s notes) (sym w.0) (write_failed before (ends_with line status) line w.1.count comes (ends_so status) refl);
    happened = λ o. (around o (streams l n g' m), told_does o l n g g' m m (take w.1.count line) refl w.1.front, (around o (streams l n g' m'), write_fails_does o l n g' m m' (rose w.0), refl));
  }
]
