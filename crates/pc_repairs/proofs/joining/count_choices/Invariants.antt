use Rattle.std.proofs.Common.{◌≡◌, ℕ, ◌*◌, drop, map}
use Rattle.pc_sheet.specs.Sizes.{product}
use Rattle.pc_repairs.specs.inside.Joining.{IsCapped, many_sets}
use Rattle.pc_repairs.proofs.joining.count_choices.Given as goal

abbrev pub invariant-loop-part : goal.invariant-loop-part
invariant-loop-part l = (total : ℕ) × IsCapped l.count total × (total * product (map many_sets (drop l.part-index l.parts)) ≡ product (map many_sets l.parts))
