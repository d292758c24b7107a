use Rattle.std.proofs.Common.{[]}
use Rattle.pc_elaborate.proofs.Unique.{names_are_unique}
use Rattle.pc_elaborate.proofs.Values.{sort_outcome, value_outcome, values_outcome, cell_outcome}
use Rattle.pc_elaborate.proofs.FormulaLaws.{no_scope, formula_outcome}
use Rattle.pc_elaborate.proofs.law.trees_have_one_outcome.Goals as goal

pub returns : goal.returns
returns c = λ u h.
    let unique = names_are_unique u h.different in
    record {
      names = unique;
      sorts = sort_outcome u unique;
      values = value_outcome u unique;
      rows = values_outcome u unique;
      cells = cell_outcome u unique;
      formulas = formula_outcome u unique [] (no_scope u);
    }
