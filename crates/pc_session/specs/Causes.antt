-- Why a load or an edit is refused.
use Rattle.std.specs.Prelude.{◌≡◌, ℕ, ◌<◌, ◌≤◌, Bool, List, None, Some}
use Rattle.pc_sheet.specs.Limits.{most_weight}
use Rattle.pc_sheet.specs.Sheet.{Sheet}
use Rattle.pc_sheet.specs.Weight.{weight}
use Rattle.pc_sheet.specs.MaximalSets.{AreRulesConsistent}
use Rattle.pc_sheet.specs.declared.ids.CellId.{CellId}
use Rattle.pc_sheet.specs.declared.ids.Entry.{Entry}
use Rattle.pc_justify_laws.specs.Edits.{HasNone}
use Rattle.pc_theory.specs.Spendings.{IsLawful}
use Rattle.pc_session.specs.declared.refused.LoadRefused.{LoadRefused}
use Rattle.pc_session.specs.declared.refused.LoadRefused.TheVariants as load
use Rattle.pc_session.specs.declared.refused.EditRefused.{EditRefused}
use Rattle.pc_session.specs.declared.refused.EditRefused.TheVariants as edit

-- of the sheet that is loaded, within that budget
abbrev pub IsLoadCause : Sheet → ℕ → LoadRefused → Type 0
IsLoadCause sheet budget load.TooLarge = most_weight < weight sheet
IsLoadCause sheet budget (load.Inconsistent refutation) = (weight sheet ≤ most_weight) × (refutation ≡ sheet) × (¬ AreRulesConsistent sheet)
IsLoadCause sheet budget (load.Spent book spending) = (weight sheet ≤ most_weight) × (book ≡ sheet) × IsLawful sheet None budget spending
IsLoadCause sheet budget load.Memory = Unit {0}

-- of an edit of a cell's entry that would make this sheet; no other answer comes
abbrev pub IsEntryCause : Sheet → CellId → ℕ → EditRefused → Type 0
IsEntryCause sheet cell budget (edit.Spent book spending) = (book ≡ sheet) × IsLawful sheet (Some cell) budget spending
IsEntryCause sheet cell budget edit.Memory = Unit {0}
IsEntryCause sheet cell budget edit.NoEntry = ⊥
IsEntryCause sheet cell budget edit.DuplicateRule = ⊥
IsEntryCause sheet cell budget edit.NoRule = ⊥
IsEntryCause sheet cell budget edit.TooLarge = ⊥
IsEntryCause sheet cell budget (edit.Inconsistent refutation) = ⊥

-- of taking entries of the cell away, which makes that sheet: there are none such, or the search spends too much
abbrev pub IsRemovalCause : (Entry → Bool) → List Entry → Sheet → CellId → ℕ → EditRefused → Type 0
IsRemovalCause gone es made cell budget edit.NoEntry = HasNone gone es
IsRemovalCause gone es made cell budget edit.DuplicateRule = ⊥
IsRemovalCause gone es made cell budget edit.NoRule = ⊥
IsRemovalCause gone es made cell budget edit.TooLarge = ⊥
IsRemovalCause gone es made cell budget (edit.Inconsistent refutation) = ⊥
IsRemovalCause gone es made cell budget (edit.Spent book spending) = (book ≡ made) × IsLawful made (Some cell) budget spending
IsRemovalCause gone es made cell budget edit.Memory = Unit {0}
