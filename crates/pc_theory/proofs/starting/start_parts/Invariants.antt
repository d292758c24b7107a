use Rattle.std.proofs.Common.{◌≡◌, ◌≤◌, length}
use Rattle.pc_theory.specs.inside.Starting.{AreStarted}
use Rattle.pc_theory.proofs.starting.start_parts.Given as goal

abbrev pub invariant-loop-number : goal.invariant-loop-number
invariant-loop-number l = record {
  many : length l.parts.items ≡ l._number;
  trails : l.trails ≡ l.task.ground.now.variables;
  within : l.spent ≤ l.task.budget;
  started : AreStarted l.task.book.now l.task.components.now l.spent l.base l.parts.items l.solvers.items;
}
