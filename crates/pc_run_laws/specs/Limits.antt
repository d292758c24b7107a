-- That a run ends in `TooLong` exactly where what it took in passes a limit, whatever its course.
use Rattle.std.specs.Prelude.{◌≡◌, ◌≢◌, ◌↔◌, List, ◌∷◌, ◌++◌}
use Rattle.pc_refusals.specs.declared.status.Status.{Status}
use Rattle.pc_refusals.specs.declared.status.Status.TheVariants.{ReadFault, WriteFault, TooLong}
use Rattle.pc_refusals.specs.Events.{Event}
use Rattle.pc_refusals.specs.Stages.{Intake, Stage, takes, PassesLimit}
use Rattle.pc_refusals.specs.Runs.{Run}

-- where something was to be taken in by the course, what came passes the limit of that
pub record HasPassed {N : Type 0} (Course : List Event → Stage → N → Type 0) (events : List Event) : Type 0 where
  pub earlier : List Event
  pub intake : Intake
  pub notes : N
  pub comes : Course earlier (takes intake) notes
  pub event : Event
  pub passes : PassesLimit intake event
  pub later : List Event
  pub events_are : events ≡ earlier ++ event ∷ later

-- A run of this course ends in `TooLong` exactly where it took in what passes a limit and no device failed.
abbrev pub EndsTooLongExactly : {N : Type 0} → (List Event → Stage → N → Type 0) → Type 0
EndsTooLongExactly {N = N} Course = (events : List Event) (status : Status) (notes : N) → Run Course events status notes → status ≡ TooLong ↔ HasPassed Course events × (status ≢ ReadFault) × (status ≢ WriteFault)
