-- What holds when a sheet has been loaded.
use Rattle.std.specs.Prelude.{◌≡◌, ℕ, ◌≤◌, [], List, None}
use Rattle.pc_sheet.specs.Limits.{most_weight}
use Rattle.pc_sheet.specs.Sheet.{Sheet}
use Rattle.pc_sheet.specs.MaximalSets.{AreRulesConsistent}
use Rattle.pc_sheet.specs.Weight.{weight}
use Rattle.pc_books.specs.Edits.{without_rule}
use Rattle.pc_session.specs.Answers.{Steps}
use Rattle.pc_session.specs.Arena.{IsWithinSpent}
use Rattle.pc_books.specs.RuleNames.{IsRuleAt}
use Rattle.pc_session.specs.inside.Chosen.{AreChosen}
use Rattle.pc_session.specs.inside.States.{IsState}
use Rattle.pc_session.specs.Views.{counts_of, IsTallyOf}
use Rattle.pc_session.specs.declared.state.State.{State}

-- it isn't too large, its rules are consistent, all that is kept of it is right, and so much was spent within the limit on its parts
pub record IsLoaded (sheet : Sheet) (limit : ℕ) (s : State) : Type 0 where
  pub book : s.book ≡ sheet
  pub state : IsState s
  pub chosen : AreChosen s.book s.chosen
  pub light : weight sheet ≤ most_weight
  pub consistent : AreRulesConsistent sheet
  pub spends : IsTallyOf sheet None limit (counts_of s.tally)
  pub steps : Steps [] s.cache.rows (counts_of s.tally)
  pub bytes : IsWithinSpent sheet None s.theory.components (counts_of s.tally) 0 s.cache.bytes

-- the sheet without the rule of that name has been loaded
abbrev pub IsDroppedTo : Sheet → List ℕ → ℕ → State → Type 0
IsDroppedTo sheet name limit s = (k : ℕ) × IsRuleAt sheet.rules name k × IsLoaded (without_rule sheet k) limit s
