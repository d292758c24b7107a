use Rattle.std.proofs.Common.{ℕ, ◌≡◌, ◌<◌, ◌≤◌, List, Some, slice_get}
use Rattle.pc_sheet.specs.declared.ids.ValueId.{ValueId}
use Rattle.pc_solver.specs.Spending.{GoesOnFor}
use Rattle.pc_ask.specs.inside.Choices.{ways_of, tried_of}
use Rattle.pc_ask.specs.inside.Narrowing.{IsWitness}
use Rattle.pc_ask.proofs.narrowing.find_witness.Given as goal

abbrev pub invariant-loop-way : goal.invariant-loop-way
invariant-loop-way l = record {
  within : l.way ≤ tried_of l.choosing;
  goes_on : GoesOnFor l.way l.initial.solver l.solver l.initial.tally l.tally l.initial.log l.log;
  none : (i : ℕ) (a : List ValueId) → i < l.way → slice_get (ways_of l.choosing) i ≡ Some a → ¬ IsWitness l.choosing.task.book.now l.choosing.entries.now (ways_of l.choosing) l.count l.kept a;
}
