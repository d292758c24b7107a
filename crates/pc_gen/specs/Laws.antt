-- The laws of the generated sheet and its text.
use Rattle.std.specs.Prelude.{◌≡◌, ℕ, ◌+◌, ◌*◌, ◌≤◌}
use Rattle.pc_gen.specs.Text.{generated_text}
use Rattle.pc_sheet.specs.Weight.{weight}
use Rattle.pc_sheet.specs.WellFormed.{IsWellFormed}
use Rattle.pc_writer.specs.SheetText.{sheet_text}
use Rattle.pc_sortcheck.specs.Declaring.{ReadsAs}
use Rattle.pc_gen.specs.Sheet.{generated_sheet}

-- of each number of blocks that may be asked for, it is a book
abbrev pub GeneratedSheetsAreWellFormed : Type 0
GeneratedSheetsAreWellFormed = (n : ℕ) → 1 ≤ n → n ≤ 256 → IsWellFormed (generated_sheet n)

-- its axioms have 130 literals a block and four more
abbrev pub GeneratedSheetsWeigh : Type 0
GeneratedSheetsWeigh = (n : ℕ) → 1 ≤ n → weight (generated_sheet n) ≡ 130 * n + 4

-- the generated text is its canonical one
abbrev pub GeneratedTextsAreCanonical : Type 0
GeneratedTextsAreCanonical = (n : ℕ) → 1 ≤ n → generated_text n ≡ sheet_text (generated_sheet n)

-- and reads as this book
abbrev pub GeneratedTextsReadBack : Type 0
GeneratedTextsReadBack = (n : ℕ) → 1 ≤ n → n ≤ 256 → ReadsAs (generated_text n) (generated_sheet n)
