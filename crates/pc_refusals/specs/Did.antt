-- What a run has done on the input and the output, in the middle and at its end.
use Rattle.std.specs.Prelude.{◌≢◌, ℕ, List, ◌++◌}
use Rattle.std.specs.declared.option.Option.{Option}
use Rattle.pc_refusals.specs.declared.status.Status.{Status}
use Rattle.pc_refusals.specs.declared.status.Status.TheVariants.{ReadFault, WriteFault}
use Rattle.pc_refusals.specs.Endings.{TellsAtEnd}
use Rattle.pc_refusals.specs.Events.{Outside, Event, Happened, Streams, around}
use Rattle.pc_refusals.specs.Stages.{Stage, ends_with}
use Rattle.pc_refusals.specs.Runs.{Comes, Run}

-- the rest of a course, behind these events
abbrev pub After : {N : Type 0} → (List Event → Stage → N → Type 0) → List Event → (List Event → Stage → N → Type 0)
After Course first events stage notes = Course (first ++ events) stage notes

-- a run came to a line that ends it, and this was told
pub record Ends {N : Type 0} (Course : List Event → Stage → N → Type 0) (events : List Event) (result : Status) (notes : N) (sink sink' : Option (List ℕ)) : Type 0 where
  pub status : Status
  pub line : List ℕ
  pub comes : Comes Course events (ends_with line status) notes
  pub no_write : status ≢ WriteFault
  pub no_read : status ≢ ReadFault
  pub told : TellsAtEnd status line result sink sink'

-- a run took the input and the output from here to there, whatever the shelf, and read nothing ahead
pub record Did {N : Type 0} (Course : List Event → Stage → N → Type 0) (status : Status) (notes : N) (before after : Streams) : Type 0 where
  pub events : List Event
  pub run : Run Course events status notes
  pub happened : (o : Outside) → Happened events (around o before) (around o after)
