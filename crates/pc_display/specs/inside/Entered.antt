-- What is asked of a cell's entries where their values are written.
use Rattle.std.specs.Prelude.{◌<◌, List, All}
use Rattle.pc_sheet.specs.Sheet.{Universe}
use Rattle.pc_sheet.specs.Sizes.{size_of}
use Rattle.pc_sheet.specs.declared.ids.SortId.{SortId}
use Rattle.pc_sheet.specs.declared.ids.Entry.{Entry}

-- each has a value of that sort
abbrev pub HaveValuesOf : Universe → SortId → List Entry → Type 0
HaveValuesOf u s es = All (λ e. e.value.0 < size_of u s) es
