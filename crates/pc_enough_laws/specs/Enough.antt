-- What is enough for a sheet, and for some of its parts.
use Rattle.std.specs.Prelude.{◌≡◌, ℕ, ◌+◌, ◌*◌, ◌^◌, ◌≤◌, Bool, true, cond, List, [], ◌∷◌, length, map, sum, sum_by, Option, None, Some}
use Rattle.pc_lits.specs.declared.literal.Var.{Var}
use Rattle.pc_lits.specs.declared.tally.Tally.{Tally}
use Rattle.pc_sheet.specs.Sheet.{Sheet}
use Rattle.pc_sheet.specs.Entailment.{cell_sizes}
use Rattle.pc_sheet.specs.MaximalSets.{ListsExactly}
use Rattle.pc_sheet.specs.declared.ids.CellId.{CellId}
use Rattle.pc_sheet.specs.declared.ids.Entry.{Entry}
use Rattle.pc_ground.specs.Variables.{variable_count}
use Rattle.pc_parts.specs.Parts.{Part}
use Rattle.pc_parts.specs.Components.{parts_of}
use Rattle.pc_parts.specs.PartSheets.{sheet_of, is_among}
use Rattle.pc_components.specs.View.{Kept}
use Rattle.pc_enough_laws.specs.Amounts.{Amounts, enough, enough_of}
use Rattle.pc_theory.specs.Spendings.{IsSetOf}
use Rattle.pc_theory.specs.Targets.{target_count}
use Rattle.pc_theory.specs.Theories.{rules_alone}

-- of a part with these variables
abbrev pub amounts_of : Sheet → Part → List Var → Amounts
amounts_of sheet part own = record {
  variables = length own;
  entries = length (sheet_of sheet part).entries;
  targets = target_count (cell_sizes sheet.universe) part.cells;
}

-- the part has the cell; where there is none, any part
abbrev pub is_touched : Option CellId → Part → Bool
is_touched None part = true
is_touched (Some c) part = is_among part.cells c.0

-- of those of the parts that are touched, where each has these variables
abbrev pub touched_amounts : Sheet → Option CellId → List Part → List (List Var) → List Amounts
touched_amounts sheet touched [] owns = []
touched_amounts sheet touched (part ∷ parts) [] = []
touched_amounts sheet touched (part ∷ parts) (own ∷ owns) =
    cond (is_touched touched part) (amounts_of sheet part own ∷ touched_amounts sheet touched parts owns) (touched_amounts sheet touched parts owns)

-- for an edit of the cell, or for a load, that makes this sheet, whose parts are kept so
abbrev pub enough_for : Sheet → Option CellId → Kept → ℕ
enough_for sheet touched kept = sum_by enough_of (touched_amounts sheet touched (parts_of (rules_alone sheet)) kept.variables)

-- for the whole sheet: its pairs and nodes, its entries, and two targets for each pair
abbrev pub enough_for_all : Sheet → ℕ
enough_for_all sheet = enough (variable_count sheet) (length sheet.entries) (2 * sum (cell_sizes sheet.universe))

-- ---- what a tally may say

-- of the costs of all parts, those of the touched ones together
abbrev pub sum_of_touched : Option CellId → List Part → List ℕ → ℕ
sum_of_touched touched [] costs = 0
sum_of_touched touched (part ∷ parts) [] = 0
sum_of_touched touched (part ∷ parts) (cost ∷ costs) = cond (is_touched touched part) cost 0 + sum_of_touched touched parts costs

-- three logs over these variables have fewer learned clauses
abbrev pub most_learned : List Var → ℕ
most_learned own = 3 ^ (length own + 1)

-- as many calls as the part's maximal sets, its targets and its entries allow
abbrev pub IsMostCalls : Sheet → Part → ℕ → Type 0
IsMostCalls sheet part most = (sets : List (List Entry)) × ListsExactly (List Entry) (IsSetOf sheet part) sets
    × (most ≡ length sets * (target_count (cell_sizes sheet.universe) part.cells + 1) * (length (sheet_of sheet part).entries + 2) + 2)

-- the counts, where the parts have at most so many calls each
pub record AreBounded (sheet : Sheet) (touched : Option CellId) (kept : Kept) (most_calls : List ℕ) (tally : Tally) : Type 0 where
  pub placed : tally.placed ≤ variable_count sheet * (tally.learned + tally.calls)
  pub learned : tally.learned ≤ sum_of_touched touched (parts_of (rules_alone sheet)) (map most_learned kept.variables)
  pub calls : tally.calls ≤ sum_of_touched touched (parts_of (rules_alone sheet)) most_calls
