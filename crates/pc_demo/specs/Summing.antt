-- The command lines of a demonstration, and the lines that sum a sheet up.
use Rattle.std.specs.Prelude.{◌≡◌, ℕ, List, ◌++◌, codes, decimal, map}
use Rattle.pc_gen.specs.Text.{up_to}
use Rattle.pc_sheet.specs.Sheet.{Sheet}
use Rattle.pc_spreadsheet.specs.Summary.{IsSummary}
use Rattle.pc_spreadsheet.specs.declared.summary.Summary.{Summary}

-- ---- the command lines

-- clears the block's first cell
abbrev pub clear_line : ℕ → List ℕ
clear_line block = codes "clear x(" ++ (decimal block ++ codes ", 1)")

-- of each block, in order
abbrev pub clear_lines : ℕ → List (List ℕ)
clear_lines blocks = map clear_line (up_to blocks)

-- ---- the lines that sum up

-- a word, and the numbers behind it
abbrev pub summary_text : List ℕ → Summary → List ℕ
summary_text word s =
    word
    ++ ((codes " cells " ++ decimal s.cells)
    ++ ((codes " entries " ++ decimal s.entries)
    ++ ((codes " conflicts " ++ decimal s.conflicts)
    ++ ((codes " implied " ++ decimal s.implied)
    ++ codes "\n"))))

-- the text sums the sheet up behind the word
abbrev pub SumsUp : List ℕ → Sheet → List ℕ → Type 0
SumsUp word sheet text = (s : Summary) × IsSummary sheet s × (text ≡ summary_text word s)
