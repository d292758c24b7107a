use Rattle.std.proofs.Common.{◌≡◌, ◌++◌, drop, map}
use Rattle.std.specs.Option.{option_map}
use Rattle.pc_accept.specs.Rows.{clause_of}
use Rattle.pc_ground.specs.RowView.{part_of}
use Rattle.pc_ground.proofs.counting.push_row.Given as goal

abbrev pub invariant-loop-part : goal.invariant-loop-part
invariant-loop-part l = option_map (λ ls. l.clause.items ++ ls) (clause_of (map part_of (drop l.part-index l.row))) ≡ clause_of (map part_of l.row)
