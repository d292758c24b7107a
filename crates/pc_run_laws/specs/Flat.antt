-- What events come to, taken together.
use Rattle.std.specs.Prelude.{ℕ, List, []}
use Rattle.std.specs.List.{flat_map}
use Rattle.std.specs.Io.KnownBytes.{Consumes, Appends}
use Rattle.pc_refusals.specs.Events.{Outside, Event, took, took_rest, told, Happened}

abbrev pub taken_of : Event → List ℕ
taken_of (took bytes) = bytes
taken_of (took_rest bytes) = bytes
taken_of event = []

abbrev pub told_of : Event → List ℕ
told_of (told piece) = piece
told_of event = []

-- all that was taken, and all that was told
abbrev pub taken_in : List Event → List ℕ
taken_in events = flat_map taken_of events

abbrev pub told_in : List Event → List ℕ
told_in events = flat_map told_of events

-- what was taken has left the input, and what was told stands at the end of the output
pub record EventsAddUp : Type 0 where
  pub taken : (events : List Event) (a b : Outside) → Happened events a b → Consumes a.input b.input (taken_in events)
  pub told : (events : List Event) (a b : Outside) → Happened events a b → Appends a.output b.output (told_in events)
