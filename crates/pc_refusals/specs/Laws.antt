-- Laws over events and runs.
use Rattle.std.specs.Prelude.{◌≡◌, List, [], ◌++◌}
use Rattle.pc_refusals.specs.Events.{Outside, Event, Happened}

-- what happens one after another happens together
abbrev pub EventsJoin : Type 0
EventsJoin = (xs ys : List Event) (a b c : Outside) → Happened xs a b → Happened ys b c → Happened (xs ++ ys) a c
