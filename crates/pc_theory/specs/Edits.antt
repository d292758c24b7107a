-- What the search of one part spends.
use Rattle.std.specs.Prelude.{◌≡◌, ℕ, [], Option}
use Rattle.pc_sheet.specs.Sheet.{Sheet}
use Rattle.pc_sheet.specs.declared.ids.CellId.{CellId}
use Rattle.pc_parts.specs.Parts.{Part}
use Rattle.pc_components.specs.View.{Kept}
use Rattle.pc_theory.specs.Theories.{rules_alone, IsPartNumbered}
use Rattle.pc_theory.specs.Spendings.{IsTouched, IsSpentOn, LearnsWithin}
use Rattle.pc_theory.specs.declared.spending.PartSpending.{PartSpending}

-- nothing is spent on the part of that number
pub record IsBlankOn (part : ℕ) (place : PartSpending) : Type 0 where
  pub number : place.part ≡ part
  pub none_placed : place.tally.placed ≡ 0
  pub none_learned : place.tally.learned ≡ 0
  pub no_calls : place.tally.calls ≡ 0
  pub no_logs : place.logs.items ≡ []

-- whatever is touched, if the part of that number is, this was spent on it, within what a search learns
abbrev pub IsSpentAlone : Sheet → Kept → ℕ → PartSpending → Type 0
IsSpentAlone sheet kept number place = (touched : Option CellId) (p : Part) → IsPartNumbered (rules_alone sheet) number p → IsTouched touched p → IsSpentOn sheet touched kept place × LearnsWithin place.tally
