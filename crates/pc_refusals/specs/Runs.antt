-- What runs are, whatever their courses. A course says, of devices that obey and where memory is there, what happens, what comes next and what
-- is noted. Each way in which a run may end early is said here, once for all courses.
use Rattle.std.specs.Prelude.{◌≡◌, ℕ, ◌≤◌, ◌⊎◌, List, [], ◌∷◌, ◌++◌, length, take}
use Rattle.pc_refusals.specs.declared.status.Status.{Status}
use Rattle.pc_refusals.specs.declared.status.Status.TheVariants.{ReadFault, WriteFault, Memory, TooLong}
use Rattle.pc_refusals.specs.Endings.{too_long_text}
use Rattle.pc_refusals.specs.Events.{Outside, Event, took, took_rest, told, input_failed, shelf_failed, output_failed, Happened}
use Rattle.pc_refusals.specs.Stages.{Intake, sheet_file, Stage, takes, needs, tells, ends_with, ends, CanBegin, PassesLimit}

-- the run tells this piece next
pub data Tells (piece : List ℕ) : Stage → Type 0 where
  goes_on : Tells piece (tells piece)
  ends_so : (status : Status) → Tells piece (ends_with piece status)

abbrev pub IsTook : Event → Type 0
IsTook (took bytes) = Unit {0}
IsTook (took_rest bytes) = Unit {0}
IsTook event = ⊥

-- some of the input was taken
abbrev pub HasTook : List Event → Type 0
HasTook [] = ⊥
HasTook (event ∷ events) = IsTook event ⊎ HasTook events

-- the last event, or the one before these
abbrev pub last_or : Event → List Event → Event
last_or event [] = event
last_or event (next ∷ events) = last_or next events

abbrev pub IsOutput : Event → Type 0
IsOutput (told piece) = Unit {0}
IsOutput output_failed = Unit {0}
IsOutput event = ⊥

-- the last event is of the output
abbrev pub EndsTelling : List Event → Type 0
EndsTelling events = IsOutput (last_or (took []) events)

-- Read of the input and not used is nothing; or, where some of it was taken and what came last was to tell something, at most so much.
pub data IsSpare (most : ℕ) (events : List Event) : List Event → Type 0 where
  nothing : IsSpare most events []
  ahead : (held : List ℕ) → length held ≤ most → EndsTelling events → HasTook events → IsSpare most events (took held ∷ [])

module _ {N : Type 0} (Course : List Event → Stage → N → Type 0) where
  -- A run comes as far as its course; or to the line that ends it, where a limit is passed, or memory wanted where it is needed.
  pub data Comes (events : List Event) : Stage → N → Type 0 where
    on_course : {stage : Stage} {notes : N} → Course events stage notes → Comes events stage notes
    past_limit : {notes : N} (before : List Event) (intake : Intake) (event : Event) → Course before (takes intake) notes → PassesLimit intake event → events ≡ before ++ event ∷ [] → Comes events (ends_with too_long_text TooLong) notes
    without_memory : {notes : N} (line : List ℕ) → Course events (needs line) notes → Comes events (ends_with line Memory) notes

  -- It ends where its course ends, or by its last piece; or a device fails, and nothing follows: a read, which leaves the start of what was to
  -- be taken in, the shelf, or a write, which leaves a front of its piece.
  pub data Run (events : List Event) : Status → N → Type 0 where
    ended : {status : Status} {notes : N} → Comes events (ends status) notes → Run events status notes
    ended_with : {status : Status} {notes : N} (before : List Event) (line : List ℕ) → Comes before (ends_with line status) notes → events ≡ before ++ told line ∷ [] → Run events status notes
    read_failed : {notes : N} (before : List Event) (intake : Intake) (begun : List ℕ) → Course before (takes intake) notes → CanBegin intake begun → events ≡ before ++ took begun ∷ input_failed ∷ [] → Run events ReadFault notes
    read_failed_at_file : {notes : N} (before : List Event) (name : List ℕ) → Course before (takes (sheet_file name)) notes → events ≡ before ++ shelf_failed name ∷ [] → Run events ReadFault notes
    write_failed : {notes : N} (before : List Event) (stage : Stage) (piece : List ℕ) (count : ℕ) → Comes before stage notes → Tells piece stage → events ≡ before ++ told (take count piece) ∷ output_failed ∷ [] → Run events WriteFault notes

  -- a run with this status and these notes took the outside from here to there, reading ahead at most so much
  pub record Ran (most : ℕ) (status : Status) (notes : N) (before after : Outside) : Type 0 where
    pub events : List Event
    pub run : Run events status notes
    pub spare : List Event
    pub is_spare : IsSpare most events spare
    pub happened : Happened (events ++ spare) before after
