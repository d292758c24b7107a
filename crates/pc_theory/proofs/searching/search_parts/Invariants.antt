use Rattle.std.proofs.Common.{◌≡◌, ◌+◌, ◌<◌, ◌≤◌, ℕ, length, get_or, sum_by, take}
use Rattle.pc_cache.specs.Patches.{patch_bytes}
use Rattle.pc_solver.specs.Solver.{SuspendedView}
use Rattle.pc_theory.specs.KeptBytes.{part_bytes}
use Rattle.pc_theory.specs.inside.Searching.{AreSearched}
use Rattle.pc_theory.specs.inside.Starting.{IsStarted}
use Rattle.pc_theory.specs.declared.spending.PartSpending.{PartSpending}
use Rattle.pc_theory.proofs.searching.search_parts.Given as goal

abbrev pub invariant-loop-number : goal.invariant-loop-number
invariant-loop-number l = record {
  within : l.spent ≤ l.fitted.task.budget;
  many : length l.parts.items ≡ length l.fitted.task.components.now.cells;
  trails : l.trails ≡ l.fitted.task.ground.now.variables;
  solvers : l.number + length l.solvers.items ≡ length l.parts.items;
  searched : AreSearched l.fitted.task.book.now l.fitted.task.components.now l.number l.worlds.items l.patch.rows l.spent l.parts.items;
  bytes : patch_bytes l.patch ≤ patch_bytes l.initial.patch + sum_by (part_bytes l.fitted.task.components.now) (take l.number l.parts.items);
  later : (k : ℕ) (d : PartSpending) (e : SuspendedView) → k < length l.solvers.items → IsStarted l.fitted.task.book.now l.fitted.task.components.now (get_or l.parts.items (l.number + k) d) (get_or l.solvers.items k e);
}
