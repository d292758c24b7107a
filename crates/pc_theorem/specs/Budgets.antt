-- Where a budget is too little for what a line asks, and so may be spent. What is enough is never spent: `enough_is_never_spent` and
-- `enough_is_never_spent_whole` (`pc_enough_laws`), and for a formula `entries_say_what_is_enough` (`pc_run_laws`).
use Rattle.std.specs.Prelude.{ℕ, ◌+◌, ◌*◌, ◌^◌, ◌<◌, List, length, Option}
use Rattle.pc_sheet.specs.Sheet.{Sheet, Statement}
use Rattle.pc_sheet.specs.MaximalSets.{ListsExactly, IsMaximalSet}
use Rattle.pc_sheet.specs.declared.ids.CellId.{CellId}
use Rattle.pc_sheet.specs.declared.ids.Entry.{Entry}
use Rattle.pc_syntax.specs.Tree.{Asked}
use Rattle.pc_syntax.specs.Command.{IsCommandReading, asks}
use Rattle.pc_ground.specs.Variables.{variable_count}
use Rattle.pc_enough_laws.specs.Enough.{enough_for_all}
use Rattle.pc_run_laws.specs.Asking.{enough_to_ask}
use Rattle.pc_spreadsheet.specs.Tasks.{State}
use Rattle.pc_spreadsheet.specs.Allowed.{NeedsSearch, NeedsProof, NeedsAnswer}

-- enough for a certificate of so many maximal sets, by the sheet's pairs and nodes
abbrev pub enough_to_prove : Sheet → ℕ → ℕ
enough_to_prove sheet sets = variable_count sheet * (3 ^ (variable_count sheet + 1) + (sets + 1))

-- The line asks for what needs a search: for an edit, for a certificate of the maximal sets, or whether a formula is implied. And the budget is
-- less than is enough for it.
pub data HasTooLittle (state : State) (line : List ℕ) : Type 0 where
  to_edit : (a : Asked) (cell : Option CellId) (made : Sheet) → IsCommandReading line (asks a) → NeedsSearch state.sheet a cell made → state.budget < enough_for_all made → HasTooLittle state line
  to_prove : (a : Asked) → IsCommandReading line (asks a) → NeedsProof state.sheet a → ((sets : List (List Entry)) → ListsExactly (List Entry) (IsMaximalSet state.sheet) sets → state.budget < enough_to_prove state.sheet (length sets)) → HasTooLittle state line
  to_ask : (a : Asked) (f : Statement) → IsCommandReading line (asks a) → NeedsAnswer state.sheet a f → state.budget < enough_to_ask state.sheet f (length state.sheet.entries) → HasTooLittle state line
