-- Lawful and unlawful spendings on a whole small sheet.
use Rattle.std.specs.Prelude.{◌≡◌, List, [], ◌∷◌}
use Rattle.pc_lits.specs.declared.tally.Tally.{Tally}
use Rattle.pc_log.specs.Lines.{LogLine}
use Rattle.pc_laws.specs.Examples.{equal_cells}
use Rattle.pc_theory.specs.WholeSpendings.{IsWholeSpending, IsSpentWhole}
use Rattle.pc_worked_laws.specs.Logs.{good_log, with_hint_missing, with_large_block, with_tautology, with_clause_twice}
use Rattle.pc_worked_laws.specs.Spendings.{Has}

-- The cells a and b are equal, which gives the sheet five variables.
pub record WorkedWholeSpendings : Type 0 where
  pub lawful : (t : Tally) → Has t 5 1 2 → t.limit ≡ 5 → IsSpentWhole equal_cells (good_log ∷ []) t
  -- with two logs, of which one has learned nothing
  pub of_two_logs : (t : Tally) → Has t 5 1 2 → t.limit ≡ 5 → IsSpentWhole equal_cells (good_log ∷ [] ∷ []) t
  -- the limit isn't reached
  pub five_of_six : (t : Tally) → Has t 5 1 2 → t.limit ≡ 6 → ¬ IsSpentWhole equal_cells (good_log ∷ []) t
  -- one clause and two calls allow fifteen literals, and no more
  pub too_many_placed : (t : Tally) → Has t 16 1 2 → ¬ IsWholeSpending equal_cells (good_log ∷ []) t
  -- a clause that was learned stands in no log
  pub learned_in_no_log : (t : Tally) → Has t 5 1 2 → ¬ IsWholeSpending equal_cells [] t
  -- two calls of whole searches have two logs, and no lawful spending has four
  pub four_logs : (t : Tally) (log : List LogLine) → ¬ IsWholeSpending equal_cells (log ∷ log ∷ log ∷ log ∷ []) t
  pub step_not_good : (t : Tally) → ¬ IsWholeSpending equal_cells (with_hint_missing ∷ []) t
  pub block_of_no_set : (t : Tally) → ¬ IsWholeSpending equal_cells (with_large_block ∷ []) t
  pub tautology_learned : (t : Tally) → ¬ IsWholeSpending equal_cells (with_tautology ∷ []) t
  pub learned_twice : (t : Tally) → ¬ IsWholeSpending equal_cells (with_clause_twice ∷ []) t
