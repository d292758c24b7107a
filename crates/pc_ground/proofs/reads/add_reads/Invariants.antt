use Rattle.std.proofs.Common.{◌≡◌, ◌++◌, drop, map}
use Rattle.pc_sheet.specs.Reads.{number_of_cell}
use Rattle.pc_ground.proofs.reads.add_reads.Given as goal

abbrev pub invariant-loop-read : goal.invariant-loop-read
invariant-loop-read l = l.cells.items ++ map number_of_cell (drop l.read-index l.reads) ≡ l.fn.cells.items ++ map number_of_cell l.reads
