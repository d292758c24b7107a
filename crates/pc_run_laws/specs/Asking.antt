-- How many entries and sets a formula reads, and what is enough to answer it whatever it reads.
use Rattle.std.specs.Prelude.{◌≡◌, ℕ, ◌+◌, ◌*◌, ◌^◌, ◌≤◌, length}
use Rattle.pc_sheet.specs.Sheet.{Sheet, Statement}
use Rattle.pc_sheet.specs.WellFormed.{IsWellFormed}
use Rattle.pc_accept.specs.Asked.{asked}
use Rattle.pc_ask.specs.Asking.{AreReadSizes}
use Rattle.pc_ground.specs.Variables.{variable_count}
use Rattle.pc_run_laws.specs.Enough.{IsEnoughToAsk}

-- The parts that the formula reads have so many entries and sets, and these numbers alone: no more entries than the sheet, and no more sets than
-- there are choices of these entries.
pub record HasReadSizes (sheet : Sheet) (f : Statement) : Type 0 where
  pub entries : ℕ
  pub sets : ℕ
  pub are : AreReadSizes sheet f entries sets
  pub only : (n m : ℕ) → AreReadSizes sheet f n m → (n ≡ entries) × (m ≡ sets)
  pub few_entries : entries ≤ length sheet.entries
  pub few_sets : sets ≤ 2 ^ entries

-- so it is of each formula that may be asked in a well-formed sheet
abbrev pub ReadSizesExist : Type 0
ReadSizesExist = (sheet : Sheet) (f : Statement) → IsWellFormed sheet → IsWellFormed (asked sheet f) → HasReadSizes sheet f

-- by the number of entries
abbrev pub enough_to_ask : Sheet → Statement → ℕ → ℕ
enough_to_ask sheet f entries = variable_count (asked sheet f) * (3 ^ variable_count (asked sheet f) + (2 ^ entries * (entries + 2) + 1))

-- That is enough by the entries that the formula reads, and so by all entries of the sheet.
pub record EnoughByEntries : Type 0 where
  pub by_read : (sheet : Sheet) (f : Statement) (budget entries sets : ℕ) → IsWellFormed sheet → IsWellFormed (asked sheet f) → AreReadSizes sheet f entries sets
      → enough_to_ask sheet f entries ≤ budget → IsEnoughToAsk sheet f budget
  pub by_all : (sheet : Sheet) (f : Statement) (budget : ℕ) → IsWellFormed sheet → IsWellFormed (asked sheet f) → enough_to_ask sheet f (length sheet.entries) ≤ budget → IsEnoughToAsk sheet f budget
