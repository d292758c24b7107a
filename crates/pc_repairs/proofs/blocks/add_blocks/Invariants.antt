use Rattle.std.proofs.Common.{◌≡◌, [], take}
use Rattle.pc_solver.specs.Solver.{HasLog}
use Rattle.pc_repairs.specs.Blocks.{blocks_for}
use Rattle.pc_repairs.specs.Searches.{whole_problem}
use Rattle.pc_repairs.proofs.blocks.add_blocks.Given as goal

abbrev pub invariant-loop-place : goal.invariant-loop-place
invariant-loop-place l = record {
  problem : l.solver.problem ≡ whole_problem l.task.book.now;
  blocks : l.solver.blocks ≡ take l.place (blocks_for l.task.book.now l.sets);
  has : HasLog l.solver [];
}
