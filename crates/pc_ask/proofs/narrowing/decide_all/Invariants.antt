use Rattle.std.proofs.Common.{◌≤◌, ◌*◌, ◌-◌, length}
use Rattle.pc_solver.specs.Spending.{GoesOnFor}
use Rattle.pc_ask.specs.inside.Choices.{IsNarrowedTo, tried_of}
use Rattle.pc_ask.proofs.narrowing.decide_all.Given as goal

abbrev pub invariant-loop-place : goal.invariant-loop-place
invariant-loop-place l = record {
  within : l.place ≤ length l.choosing.entries.now;
  goes_on : GoesOnFor (tried_of l.choosing * (length l.choosing.entries.now - l.place)) l.initial.solver l.solver l.initial.tally l.tally l.initial.log l.log;
  narrowed : IsNarrowedTo l.choosing l.place l.log l.narrowed;
}
