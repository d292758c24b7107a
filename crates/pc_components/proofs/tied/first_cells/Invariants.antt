use Rattle.std.proofs.Common.{◌≡◌, ◌++◌, drop, map}
use Rattle.pc_components.specs.View.{number_of}
use Rattle.pc_components.specs.inside.Tied.{first_by}
use Rattle.pc_components.proofs.tied.first_cells.Given as goal

abbrev pub invariant-loop-number : goal.invariant-loop-number
invariant-loop-number l = l.firsts.items ++ map (first_by (map (map number_of) l.rows)) (drop l.number-index l.numbers) ≡ map (first_by (map (map number_of) l.rows)) l.numbers
