use Rattle.std.proofs.Common.{ℕ, ◌<◌, get_or}
use Rattle.pc_sheet.specs.Views.{item_of}
use Rattle.pc_sheet.specs.declared.formula.Term.{Term}
use Rattle.pc_logic.specs.inside.Uniform.{IsConstantItem}
use Rattle.pc_logic.proofs.uniform.are_constant.Given as goal

abbrev pub invariant-loop-term : goal.invariant-loop-term
invariant-loop-term l = (k : ℕ) (d : Term) → k < l.term-index → IsConstantItem (item_of (get_or l.terms k d))
