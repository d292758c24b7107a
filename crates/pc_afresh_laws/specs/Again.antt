-- From which texts a run can start with a given sheet.
use Rattle.std.specs.Prelude.{◌≡◌, ℕ, List}
use Rattle.pc_sheet.specs.Sheet.{Sheet}
use Rattle.pc_spreadsheet.specs.Tasks.{State, Starts}

-- With any budget a run starts from the text, with this sheet and no other.
pub record StartsAgain (text : List ℕ) (sheet : Sheet) : Type 0 where
  pub starts : (budget : ℕ) → Starts budget text (record { sheet = sheet; budget = budget })
  pub only : (budget : ℕ) (state : State) → Starts budget text state → state.sheet ≡ sheet
