-- A session as its callers see it.
use Rattle.std.specs.Prelude.{◌≡◌, ℕ, List, Option}
use Rattle.pc_sheet.specs.Sheet.{Sheet}
use Rattle.pc_sheet.specs.declared.ids.CellId.{CellId}
use Rattle.pc_lits.specs.declared.tally.Tally.{Tally}
use Rattle.pc_components.specs.View.{Kept}
use Rattle.pc_cache.specs.Rows.{TargetRow}
use Rattle.pc_theory.specs.Spendings.{IsSpendingOf, LearnsWithin}
use Rattle.pc_theory.specs.declared.spending.Spending.{Spending}

-- what was spent, and the limit
pub record Counts : Type 0 where
  pub placed : ℕ
  pub learned : ℕ
  pub calls : ℕ
  pub limit : ℕ

abbrev pub counts_of : Tally → Counts
counts_of t = record { placed = t.placed; learned = t.learned; calls = t.calls; limit = t.limit }

abbrev pub none_spent : ℕ → Counts
none_spent limit = record { placed = 0; learned = 0; calls = 0; limit = limit }

-- The sheet, the budget, the tally of the last accepted edit or load, the parts, a row for each target, the bytes that the lines count for
-- in which the derivations are kept, and those of the lines on which no row rests.
pub record SessionView : Type 0 where
  pub sheet : Sheet
  pub budget : ℕ
  pub tally : Counts
  pub components : Kept
  pub rows : List TargetRow
  pub bytes : ℕ
  pub spare : ℕ

-- the tally is that of a spending on the touched parts, within the limit and within what a search learns
abbrev pub IsTallyOf : Sheet → Option CellId → ℕ → Counts → Type 0
IsTallyOf sheet touched limit counts = (s : Spending) × IsSpendingOf sheet touched s × (s.tally.limit ≡ limit) × LearnsWithin s.tally × (counts_of s.tally ≡ counts)
