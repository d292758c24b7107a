-- What is narrowed down.
use Rattle.std.specs.Prelude.{ℕ, ◌<◌, ◌^◌, List, [], Option, None, Some, All, Contains, length, min}
use Rattle.pc_log.specs.Lines.{LogLine}
use Rattle.pc_log.specs.declared.log.StepId.{StepId}
use Rattle.pc_sheet.specs.declared.ids.Entry.{Entry}
use Rattle.pc_ask.specs.Asking.{IsDeniedAt}
use Rattle.pc_ask.specs.declared.narrowing.Choosing.{Choosing}
use Rattle.pc_ask.specs.declared.narrowing.Narrowed.{Narrowed}
use Rattle.pc_ask.specs.declared.narrowing.Witness.{Witness}
use Rattle.pc_ask.specs.inside.Narrowing.{left_of, IsWitness, LacksWitness, IsNarrowed, WitnessSays}
use Rattle.pc_ask.specs.inside.Parts.{IsAskable, IsTask}
use Rattle.pc_ask.specs.inside.Ways.{most_tried}
use Rattle.pc_repairs.specs.inside.Joining.{IsSized, joined_by}
use Rattle.pc_sheet.specs.declared.ids.ValueId.{ValueId}

-- an assignment for each way to choose one maximal set of each part
abbrev pub ways_of : Choosing → List (List ValueId)
ways_of c = joined_by c.fitting.now c.parts.now

-- how many of them are gone over
abbrev pub tried_of : Choosing → ℕ
tried_of c = min (length (ways_of c)) most_tried

-- an asked book is searched, and these are few entries on cells of the part that has what is asked; the parts are of the assignment's cells
pub record IsChoosing (c : Choosing) : Type 0 where
  pub sized : All (IsSized (length c.fitting.now)) c.parts.now
  pub task : IsTask c.task.book.now c.task.ground.now
  pub askable : All (IsAskable c.task.book.now) c.entries.now
  pub few : length c.entries.now < 2 ^ 48

abbrev pub AreAmong : Choosing → List Entry → Type 0
AreAmong c kept = All (Contains c.entries.now) kept

-- of one assignment: whether it is a witness, and the line that derives it
abbrev pub OneSays : Choosing → ℕ → List Entry → List ValueId → List LogLine → Option StepId → Type 0
OneSays c k kept a log None = ¬ IsWitness c.task.book.now c.entries.now (ways_of c) k kept a
OneSays c k kept a log (Some line) =
    IsWitness c.task.book.now c.entries.now (ways_of c) k kept a × IsDeniedAt c.task.book.now (left_of c.entries.now k kept a) log line

abbrev pub SomeSays : Choosing → ℕ → List Entry → List LogLine → Option Witness → Type 0
SomeSays c k kept log o = WitnessSays c.task.book.now c.entries.now (ways_of c) k kept log o

abbrev pub IsNarrowedTo : Choosing → ℕ → List LogLine → Narrowed → Type 0
IsNarrowedTo c k log n = IsNarrowed c.task.book.now c.entries.now (ways_of c) k n.kept.items log n.witness

-- nothing is a witness with all of the entries that it has
abbrev pub HasNone : Choosing → Type 0
HasNone c = LacksWitness c.task.book.now c.entries.now (ways_of c) (length c.entries.now) []
