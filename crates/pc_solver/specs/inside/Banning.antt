-- The values by which literals are banned, as a search holds them.
use denote.Ref.{Bor}
use Rattle.std.specs.Prelude.{◌≡◌, Bool, List, [], Option, None, Some, IsSome, ◌⊎◌, Contains}
use Rattle.pc_lits.specs.declared.literal.Var.{Var}
use Rattle.pc_lits.specs.declared.values.Values.{Values}
use Rattle.pc_propagate.specs.declared.trail.TrailEntry.{TrailEntry}
use Rattle.pc_propagate.specs.Entries.{HasValue}
use Rattle.pc_solver.specs.Banned.{banned_sign}

-- where there are none, nothing is banned
abbrev pub values_in : Option (Bor Values) → List (Option Bool)
values_in None = []
values_in (Some values) = values.now

-- the variable has neither a value nor a banned literal
abbrev pub IsOpen : List (Option Bool) → List TrailEntry → Var → Type 0
IsOpen banned entries v = (¬ HasValue entries v) × (banned_sign banned v ≡ None)

-- it has one of both
abbrev pub IsSetBy : List (Option Bool) → List TrailEntry → Var → Type 0
IsSetBy banned entries v = HasValue entries v ⊎ IsSome (banned_sign banned v)

-- each own variable has
abbrev pub AreSet : List Var → List (Option Bool) → List TrailEntry → Type 0
AreSet own banned entries = (v : Var) → Contains own v → IsSetBy banned entries v
