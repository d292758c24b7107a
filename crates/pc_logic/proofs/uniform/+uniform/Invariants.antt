use Rattle.std.proofs.Common.{ℕ, ◌<◌, get_or}
use Rattle.pc_sheet.specs.Views.{statement_of}
use Rattle.pc_sheet.specs.declared.formula.Formula.{Formula}
use Rattle.pc_logic.specs.inside.Uniform.{IsUniform}
use Rattle.pc_logic.proofs.uniform.+uniform.Given as goal

abbrev pub invariant-are_uniform-loop-part : goal.invariant-are_uniform-loop-part
invariant-are_uniform-loop-part l = (k : ℕ) (d : Formula) → k < l.part-index → IsUniform (statement_of (get_or l.parts k d))
