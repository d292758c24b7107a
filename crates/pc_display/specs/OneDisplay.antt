-- That a sheet has one display of each form.
use Rattle.std.specs.Prelude.{◌≡◌, ℕ, List}
use Rattle.pc_sheet.specs.Sheet.{Sheet}
use Rattle.pc_sheet.specs.WellFormed.{IsWellFormed}
use Rattle.pc_display.specs.Show.{IsShown}
use Rattle.pc_display.specs.Grid.{IsGrid}
use Rattle.pc_display.specs.Json.{IsJson}

-- a well-formed sheet has a text of that form, and no other one
abbrev pub HasOneText : (Sheet → List ℕ → Type 0) → Type 0
HasOneText Is = (sheet : Sheet) → IsWellFormed sheet → (text : List ℕ) × Is sheet text × ((other : List ℕ) → Is sheet other → other ≡ text)

pub record SheetHasOneDisplay : Type 0 where
  pub shown : HasOneText IsShown
  pub grid : HasOneText IsGrid
  pub json : HasOneText IsJson
