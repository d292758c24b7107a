use Rattle.std.proofs.Common.{◌≡◌}
use Rattle.pc_propagate.proofs.GoneLemmas.{AreGone}
use Rattle.pc_propagate.proofs.watched.Watched.clear.Given as goal

abbrev pub invariant-loop-number : goal.invariant-loop-number
invariant-loop-number l = record {
  same : l.self-inside.bodies ≡ l.initial.self-inside.bodies;
  gone : AreGone l.initial.self-inside.bodies l.initial.self-inside.lists l.self-inside.lists l.number;
}
