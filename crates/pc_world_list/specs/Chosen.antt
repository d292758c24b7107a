-- The parts of a sheet that have entries.
use Rattle.std.specs.Prelude.{List}
use Rattle.pc_sheet.specs.Sheet.{Sheet}
use Rattle.pc_parts.specs.Parts.{Part}
use Rattle.pc_parts.specs.Components.{parts_of}
use Rattle.pc_parts.specs.Unions.{parts_with_entries}

-- those of the sheet's parts that have an entry on their cells, in the order of the parts
abbrev pub chosen_parts : Sheet → List Part
chosen_parts sheet = parts_with_entries sheet (parts_of sheet)
