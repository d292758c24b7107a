use Rattle.std.proofs.Common.{◌≡◌, [], All, map, take}
use Rattle.pc_sheet.specs.Entailment.{IsAssignment}
use Rattle.pc_ground.specs.Variables.{variable_count}
use Rattle.pc_solver.specs.Spending.{SpendsIn}
use Rattle.pc_world_list.specs.Worlds.{set_of}
use Rattle.pc_repairs.specs.inside.Asking.{IsAsked, IsLackingWorld}
use Rattle.pc_repairs.proofs.unimplied.add_all.Given as goal

abbrev pub invariant-loop-place : goal.invariant-loop-place
invariant-loop-place l = record {
  asked : IsAsked l.task.book.now [] l.search.solver l.log;
  shown : IsAssignment l.task.book.now.universe l.search.shown;
  spends : SpendsIn (variable_count l.task.book.now) l.place l.initial.tally l.tally l.initial.log l.log;
  found : map set_of l.search.found ≡ take l.place (map set_of l.sets);
  all : All (IsLackingWorld l.task.book.now l.target) l.search.found;
}
