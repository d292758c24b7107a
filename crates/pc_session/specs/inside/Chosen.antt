-- Which parts of a sheet have entries, as marks.
use Rattle.std.specs.Prelude.{◌≡◌, ℕ, ◌+◌, Bool, cond, List, [], ◌∷◌, map}
use Rattle.pc_sheet.specs.Sheet.{Sheet}
use Rattle.pc_parts.specs.Components.{parts_of}
use Rattle.pc_parts.specs.Unions.{has_entries}

-- the places of the marks, where the first of them has that number
abbrev pub places_from : ℕ → List Bool → List ℕ
places_from k [] = []
places_from k (mark ∷ marks) = cond mark (k ∷ places_from (k + 1) marks) (places_from (k + 1) marks)

abbrev pub places_of : List Bool → List ℕ
places_of marks = places_from 0 marks

-- each part is marked where an entry is on its cells
abbrev pub AreChosen : Sheet → List Bool → Type 0
AreChosen sheet marks = marks ≡ map (has_entries sheet) (parts_of sheet)
