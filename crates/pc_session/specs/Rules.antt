-- Why a rule isn't added or dropped.
use Rattle.std.specs.Prelude.{◌≡◌, ℕ, ◌<◌, ◌≤◌, List, None}
use Rattle.pc_sheet.specs.Limits.{most_weight}
use Rattle.pc_sheet.specs.Sheet.{Sheet, NamedStatement, with_rule}
use Rattle.pc_sheet.specs.Weight.{weight}
use Rattle.pc_sheet.specs.MaximalSets.{AreRulesConsistent}
use Rattle.pc_books.specs.Edits.{without_rule}
use Rattle.pc_theory.specs.Spendings.{IsLawful}
use Rattle.pc_books.specs.RuleNames.{IsNewName, IsRuleAt}
use Rattle.pc_session.specs.declared.refused.EditRefused.{EditRefused}
use Rattle.pc_session.specs.declared.refused.EditRefused.TheVariants as edit

-- the rule of that name is gone
abbrev pub IsDropped : Sheet → List ℕ → Sheet → Type 0
IsDropped sheet name dropped = (k : ℕ) × IsRuleAt sheet.rules name k × (dropped ≡ without_rule sheet k)

-- of an edit of a rule that would make this sheet
abbrev pub IsRuleCause : Sheet → ℕ → EditRefused → Type 0
IsRuleCause sheet budget edit.NoEntry = ⊥
IsRuleCause sheet budget edit.DuplicateRule = ⊥
IsRuleCause sheet budget edit.NoRule = ⊥
IsRuleCause sheet budget edit.TooLarge = most_weight < weight sheet
IsRuleCause sheet budget (edit.Inconsistent refutation) = (weight sheet ≤ most_weight) × (refutation ≡ sheet) × (¬ AreRulesConsistent sheet)
IsRuleCause sheet budget (edit.Spent book spending) = (weight sheet ≤ most_weight) × (book ≡ sheet) × IsLawful sheet None budget spending
IsRuleCause sheet budget edit.Memory = Unit {0}

-- of a rule that would be added
abbrev pub IsAddCause : Sheet → NamedStatement → ℕ → EditRefused → Type 0
IsAddCause sheet rule budget edit.NoEntry = ⊥
IsAddCause sheet rule budget edit.DuplicateRule = ¬ IsNewName sheet.rules rule.name
IsAddCause sheet rule budget edit.NoRule = ⊥
IsAddCause sheet rule budget edit.TooLarge = IsNewName sheet.rules rule.name × (most_weight < weight (with_rule sheet rule))
IsAddCause sheet rule budget (edit.Inconsistent refutation) =
    IsNewName sheet.rules rule.name × (weight (with_rule sheet rule) ≤ most_weight) × (refutation ≡ with_rule sheet rule) × (¬ AreRulesConsistent (with_rule sheet rule))
IsAddCause sheet rule budget (edit.Spent book spending) =
    IsNewName sheet.rules rule.name × (weight (with_rule sheet rule) ≤ most_weight) × (book ≡ with_rule sheet rule) × IsLawful (with_rule sheet rule) None budget spending
IsAddCause sheet rule budget edit.Memory = Unit {0}

-- of dropping the rule of that name: none stands, or its removal spends too much
abbrev pub IsDropCause : Sheet → List ℕ → ℕ → EditRefused → Type 0
IsDropCause sheet name budget edit.NoEntry = ⊥
IsDropCause sheet name budget edit.DuplicateRule = ⊥
IsDropCause sheet name budget edit.NoRule = IsNewName sheet.rules name
IsDropCause sheet name budget edit.TooLarge = ⊥
IsDropCause sheet name budget (edit.Inconsistent refutation) = ⊥
IsDropCause sheet name budget (edit.Spent book spending) = (k : ℕ) × IsRuleAt sheet.rules name k × (book ≡ without_rule sheet k) × IsLawful (without_rule sheet k) None budget spending
IsDropCause sheet name budget edit.Memory = Unit {0}
