use Rattle.std.proofs.Common.{ℕ, ◌<◌, get_or}
use Rattle.pc_name.specs.declared.sign.Sign.{Sign}
use Rattle.pc_sheet.specs.Views.{item_of}
use Rattle.pc_sheet.specs.declared.formula.Term.{Term}
use Rattle.pc_logic.specs.inside.Uniform.{IsFixed}
use Rattle.pc_logic.proofs.uniform.all_fixed.Given as goal

abbrev pub invariant-loop-term : goal.invariant-loop-term
invariant-loop-term l = (k : ℕ) (d : Sign × Term) → k < l.term-index → IsFixed (item_of (get_or l.items k d).1)
