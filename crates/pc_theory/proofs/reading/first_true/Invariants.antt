use Rattle.std.proofs.Common.{◌≡◌, ◌<◌, false}
use Rattle.pc_sheet.specs.declared.ids.ValueId.{ValueId}
use Rattle.pc_components.specs.Pairs.{pair_var}
use Rattle.pc_solver.specs.Answers.{truth_in}
use Rattle.pc_theory.proofs.reading.first_true.Given as goal

abbrev pub invariant-loop-number : goal.invariant-loop-number
invariant-loop-number l = (x : ValueId) → x.0 < l.number → truth_in l.solver.trues (pair_var l.ground.sizes l.cell x) ≡ false
