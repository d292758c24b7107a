-- Rules by their names.
use Rattle.std.specs.Prelude.{◌≡◌, ◌≢◌, ℕ, ◌<◌, List, All, length, slice_index_or}
use Rattle.pc_sheet.specs.Sheet.{NamedStatement}

-- no rule of that name stands
abbrev pub IsNewName : List NamedStatement → List ℕ → Type 0
IsNewName rules name = All (λ r. r.name ≢ name) rules

-- the rule of that name stands at that place
abbrev pub IsRuleAt : List NamedStatement → List ℕ → ℕ → Type 0
IsRuleAt rules name k = (k < length rules) × ((d : NamedStatement) → (slice_index_or rules k d).name ≡ name)
