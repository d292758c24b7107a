use Rattle.std.proofs.Common.{List, ℕ, map, sym, subst}
use Rattle.pc_formula.specs.Tree.{value_of}
use Rattle.pc_formula.specs.Front.{Reads}
use Rattle.pc_formula.specs.Value.{DerivesCell}
use Rattle.pc_formula.proofs.ValueForms.{cell_reads}
use Rattle.pc_formula.proofs.values.read_cell.Goals as goal

pub returns-clause-ok : goal.returns-clause-ok
returns-clause-ok c =
    subst (λ (n : List ℕ). Reads DerivesCell 1 c.args.words.now (record { name = n; args = map value_of c.in_ok-args.args.items }) c.value_arguments.new.words) (sym c.in_ok-name.ensures)
    (cell_reads _ _ _ _ _ c.in-Some.ensures.0 c.in_ok-args.ensures.ok)
