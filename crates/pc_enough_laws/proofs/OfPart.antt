-- What is spent on a part is less than enough.
use Rattle.std.proofs.Common.{◌≡◌, ℕ, suc, ◌+◌, ◌*◌, ◌-◌, ◌^◌, ◌<◌, ◌≤◌, List, map, length, get_or, sum_by, All, Option, arith, []}
use Rattle.std.proofs.Math.Nat.{pow-suc, one-le-pow}
use Rattle.std.proofs.lemmas.Nat.{mul-le}
use Rattle.std.proofs.lemmas.List.Sums.{sum_by-le}
use Rattle.pc_lits.specs.declared.literal.Var.{Var}
use Rattle.pc_sheet.specs.Sheet.{Sheet}
use Rattle.pc_sheet.specs.Entailment.{cell_sizes}
use Rattle.pc_sheet.specs.WellFormed.{IsWellFormed}
use Rattle.pc_sheet.specs.declared.ids.CellId.{CellId}
use Rattle.pc_ground.specs.Ground.{clauses}
use Rattle.pc_parts.specs.Parts.{Part}
use Rattle.pc_parts.specs.Components.{parts_of}
use Rattle.pc_parts.specs.PartSheets.{sheet_of}
use Rattle.pc_components.specs.PartAxioms.{AreAxiomsOf, AreVariablesOf}
use Rattle.pc_components.specs.View.{Kept, AreComponentsOf, variable_number}
use Rattle.pc_enough_laws.specs.Amounts.{enough_of}
use Rattle.pc_problem.specs.Laws.{problem_of}
use Rattle.pc_solver.specs.Spending.{marked}
use Rattle.pc_theory.specs.Spendings.{IsPartSpending, IsSpentOn, placed_of}
use Rattle.pc_theory.specs.Targets.{target_count}
use Rattle.pc_theory.specs.Theories.{rules_alone}
use Rattle.pc_theory.specs.declared.spending.PartSpending.{PartSpending}
use Rattle.pc_theory.proofs.Lists.{zip_at, at_contained}
use Rattle.pc_theory.proofs.OfRules.{axioms_here, variables_here}
use Rattle.pc_enough_laws.specs.Enough.{amounts_of}
use Rattle.pc_enough_laws.specs.Laws.{PartsSpendLess}
use Rattle.pc_enough_laws.proofs.Given.{HasGiven, part_has}
use Rattle.pc_enough_laws.proofs.Learning.{logs_learn_few}
use Rattle.pc_enough_laws.proofs.Sets.{sets_few}

module _ (sheet : Sheet) (formed : IsWellFormed sheet) (part : Part) (used : List ℕ) (own : List Var) (given : HasGiven sheet used own) (s : PartSpending) (spent : IsPartSpending sheet part used own s) where
  pub few_learned : s.tally.learned < 3 ^ (length own + 1)
  few_learned =
      let three = 3 ^ length own in
      let some : 1 ≤ three = one-le-pow (length own) 3 (omega arith) in
      let each : All (λ log. marked log ≤ three - 1) s.logs.items = λ k d l.
      let log = get_or s.logs.items k d in
      let good = spent.logs k d l in
      let less : marked log < three = logs_learn_few (problem_of sheet used own []) given.0 given.1 given.2 good.blocks log good.lawful in
      omega (arith, less) in
      let total : sum_by marked s.logs.items ≤ length s.logs.items * (three - 1) = sum_by-le marked (three - 1) s.logs.items each in
      let most : length s.logs.items * (three - 1) ≤ 3 * (three - 1) = mul-le (length s.logs.items) (three - 1) 3 (three - 1) spent.few_logs (omega arith) in
      let next : length own + 1 ≡ suc (length own) = omega arith in
      let power : 3 ^ (length own + 1) ≡ three * 3 = rw next (pow-suc 3 (length own)) in
      omega (arith, some, total, most, power, spent.learned)

  few_calls : s.tally.calls ≤ 2 ^ length (sheet_of sheet part).entries * (target_count (cell_sizes sheet.universe) part.cells + 1) * (length (sheet_of sheet part).entries + 2) + 2
  few_calls =
      let n = length (sheet_of sheet part).entries in
      let t = target_count (cell_sizes sheet.universe) part.cells in
      let sets = sets_few sheet formed part in
      let product : length sets.0 * (t + 1) * (n + 2) ≤ 2 ^ n * (t + 1) * (n + 2) = mul-le (length sets.0 * (t + 1)) (n + 2) (2 ^ n * (t + 1)) (n + 2) (mul-le (length sets.0) (t + 1) (2 ^ n) (t + 1) sets.2 (omega arith)) (omega arith) in
      omega (arith, product, spent.few_calls sets.0 sets.1)

  pub spends_less : placed_of s < enough_of (amounts_of sheet part own)
  spends_less =
      let v = length own in
      let some : 1 ≤ v = let h = given.2.over given.3 given.4 in omega (arith, h.1) in
      let x = s.tally.learned + s.tally.calls in
      let all = 3 ^ (v + 1) + 2 ^ length (sheet_of sheet part).entries * (target_count (cell_sizes sheet.universe) part.cells + 1) * (length (sheet_of sheet part).entries + 2) + 2 in
      let below : x + 1 ≤ all = omega (arith, few_learned, few_calls) in
      let product : v * (x + 1) ≤ v * all = mul-le v (x + 1) v all (omega arith) below in
      let split : v * (x + 1) ≡ v * x + v = omega arith in
      omega (arith, some, product, split, spent.placed)

-- ---- the part that a number names

module _ (sheet : Sheet) (touched : Option CellId) (kept : Kept) (are : AreComponentsOf (rules_alone sheet) kept) (s : PartSpending) (on : IsSpentOn sheet touched kept s) where
  its_axioms : AreAxiomsOf sheet on.part on.used
  its_axioms = axioms_here sheet on.part on.used (zip_at (AreAxiomsOf (rules_alone sheet)) (parts_of (rules_alone sheet)) kept.axioms s.part on.part on.used are.axioms on.numbered on.used_are)

  its_variables : AreVariablesOf (clauses sheet) on.used (map variable_number on.own)
  its_variables =
      variables_here sheet on.used (map variable_number on.own)
      (zip_at (λ us os. AreVariablesOf (clauses (rules_alone sheet)) us (map variable_number os)) kept.axioms kept.variables s.part on.used on.own are.variables on.used_are on.own_are)

  pub given_on : IsWellFormed sheet → HasGiven sheet on.used on.own
  given_on formed = part_has sheet formed on.part (at_contained (parts_of (rules_alone sheet)) s.part on.part on.numbered) on.used on.own its_axioms its_variables

pub parts_spend_less : PartsSpendLess
parts_spend_less sheet formed touched kept are s on = spends_less sheet formed on.part on.used on.own (given_on sheet touched kept are s on formed) s on.spent
