-- Lawful and unlawful spendings of small sheets. A spending is of a type of the code, so its parts are said by equations.
use Rattle.std.specs.Prelude.{◌≡◌, ℕ, List, [], ◌∷◌, Some, None, length}
use Rattle.pc_lits.specs.declared.tally.Tally.{Tally}
use Rattle.pc_log.specs.Lines.{LogLine, AxiomLine}
use Rattle.pc_laws.specs.Examples.{equal_cells, two_pairs}
use Rattle.pc_solver.specs.Spending.{marked}
use Rattle.pc_theory.specs.Spendings.{IsLawful}
use Rattle.pc_theory.specs.declared.spending.PartSpending.{PartSpending}
use Rattle.pc_theory.specs.declared.spending.Spending.{Spending}
use Rattle.pc_worked_laws.specs.Logs.{good_log, with_hint_missing, with_tautology, with_axiom_learned, with_clause_twice, with_large_block}

-- the counts of a tally
pub record Has (t : Tally) (placed learned calls : ℕ) : Type 0 where
  pub placed_is : t.placed ≡ placed
  pub learned_is : t.learned ≡ learned
  pub calls_is : t.calls ≡ calls

-- so much on the part of that number, with no log
pub record HasNoLog (p : PartSpending) (part placed calls : ℕ) : Type 0 where
  pub number : p.part ≡ part
  pub counts : Has p.tally placed 0 calls
  pub no_logs : p.logs.items ≡ []

-- a spending on one part alone, with that limit
pub record IsOfOnePart (s : Spending) (limit part placed calls : ℕ) : Type 0 where
  pub only : PartSpending
  pub parts : s.parts.items ≡ only ∷ []
  pub spent : HasNoLog only part placed calls
  pub counts : Has s.tally placed 0 calls
  pub limit_is : s.tally.limit ≡ limit

-- The cells a and b are equal, which is one part.
pub record WorkedSpendings : Type 0 where
  -- the limit isn't reached
  pub four_of_five : (s : Spending) → IsOfOnePart s 5 0 4 1 → ¬ IsLawful equal_cells None 5 s
  -- another limit
  pub of_another_limit : (s : Spending) → IsOfOnePart s 4 0 4 1 → ¬ IsLawful equal_cells None 5 s
  -- there is no second part
  pub no_such_part : (s : Spending) → IsOfOnePart s 5 1 5 1 → ¬ IsLawful equal_cells None 5 s
  -- two sets, eight targets and two entries allow 2 * 9 * 4 + 2 calls, and no more
  pub too_many_calls : (s : Spending) → IsOfOnePart s 5 0 5 75 → ¬ IsLawful equal_cells None 5 s
  -- of two pairs, each a part, an edit of the last cell touches the second
  pub of_another_cell : (s : Spending) → IsOfOnePart s 5 0 5 1 → ¬ IsLawful two_pairs.sheet (Some (record { 0 = 3 })) 5 s
  -- a clause that was learned stands in no log
  pub learned_in_no_log : (s : Spending) (p : PartSpending) → s.parts.items ≡ p ∷ [] → p.logs.items ≡ [] → p.tally.learned ≡ 1 → ¬ IsLawful equal_cells None 5 s
  -- no part stands twice
  pub twice : (s : Spending) (p q : PartSpending) → s.parts.items ≡ p ∷ q ∷ [] → HasNoLog p 0 2 1 → HasNoLog q 0 3 1 → ¬ IsLawful equal_cells None 5 s

-- ---- spendings with a log

-- five literals placed by two calls on the first part alone, up to the limit, with that log
pub record IsOfLog (s : Spending) (log : List LogLine) : Type 0 where
  pub only : PartSpending
  pub parts : s.parts.items ≡ only ∷ []
  pub number : only.part ≡ 0
  pub spent : Has only.tally 5 (marked log) 2
  pub logs_are : only.logs.items ≡ log ∷ []
  pub counts : Has s.tally 5 (marked log) 2
  pub limit_is : s.tally.limit ≡ 5

pub record WorkedLogSpendings : Type 0 where
  pub lawful : (s : Spending) → IsOfLog s good_log → IsLawful equal_cells None 5 s
  -- by an edit of the second cell, which is of the first part too
  pub by_an_edit : (s : Spending) → IsOfLog s good_log → IsLawful equal_cells (Some (record { 0 = 1 })) 5 s
  pub step_not_good : (s : Spending) → IsOfLog s with_hint_missing → ¬ IsLawful equal_cells None 5 s
  -- of two pairs, each a part, the second one's rule has the clause of number 13
  pub axiom_of_another_part : (s : Spending) → IsOfLog s (AxiomLine 13 ∷ []) → ¬ IsLawful two_pairs.sheet None 5 s
  pub block_of_no_set : (s : Spending) → IsOfLog s with_large_block → ¬ IsLawful equal_cells None 5 s
  pub tautology_learned : (s : Spending) → IsOfLog s with_tautology → ¬ IsLawful equal_cells None 5 s
  pub learned_twice : (s : Spending) → IsOfLog s with_clause_twice → ¬ IsLawful equal_cells None 5 s
  pub axiom_learned : (s : Spending) → IsOfLog s with_axiom_learned → ¬ IsLawful equal_cells None 5 s
  -- the parts have another sum
  pub another_sum_learned : (s : Spending) (p : PartSpending) → s.parts.items ≡ p ∷ [] → p.tally.learned ≡ 1 → s.tally.learned ≡ 2 → ¬ IsLawful equal_cells None 5 s
  pub another_sum_of_calls : (s : Spending) (p q : PartSpending) → s.parts.items ≡ p ∷ q ∷ [] → p.tally.calls ≡ 1 → q.tally.calls ≡ 1 → s.tally.calls ≡ 1 → ¬ IsLawful two_pairs.sheet None 5 s
  -- three solvers have three logs
  pub four_logs : (s : Spending) (p : PartSpending) → s.parts.items ≡ p ∷ [] → length p.logs.items ≡ 4 → ¬ IsLawful equal_cells None 5 s
