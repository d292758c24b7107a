-- How many maximal sets a sheet has: few enough for a certificate of them, or more.
use Rattle.std.specs.Prelude.{ℕ, ◌<◌, ◌≤◌, List, length}
use Rattle.pc_sheet.specs.Sheet.{Sheet}
use Rattle.pc_sheet.specs.MaximalSets.{ListsExactly, IsMaximalSet}
use Rattle.pc_sheet.specs.declared.ids.Entry.{Entry}

-- the most maximal sets of which certificates are made
abbrev pub most_sets : ℕ
most_sets = 64

-- exactly the maximal sets of the sheet, each once
abbrev pub AreMaximalSets : Sheet → List (List Entry) → Type 0
AreMaximalSets sheet sets = ListsExactly (List Entry) (IsMaximalSet sheet) sets

abbrev pub HasFewSets : Sheet → Type 0
HasFewSets sheet = (sets : List (List Entry)) × AreMaximalSets sheet sets × (length sets ≤ most_sets)

abbrev pub HasManySets : Sheet → Type 0
HasManySets sheet = (sets : List (List Entry)) × AreMaximalSets sheet sets × (most_sets < length sets)
