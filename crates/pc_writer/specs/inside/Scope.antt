-- The enclosing variables as the code holds them.
use Rattle.std.specs.Prelude.{ℕ, List, map}
use Rattle.pc_sheet.specs.WellSorted.{Variables}
use Rattle.pc_sheet.specs.declared.ids.SortId.{SortId}
use Rattle.pc_writer.specs.declared.scope.Variable.{Variable}

-- a variable by its name's text and its sort
abbrev pub variable_of : Variable → List ℕ × SortId
variable_of v = (v.name.now, v.sort)

abbrev pub variables_of : List Variable → Variables
variables_of vs = map variable_of vs
