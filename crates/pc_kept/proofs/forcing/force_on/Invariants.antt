use Rattle.std.proofs.Common.{◌≡◌, length}
use Rattle.pc_kept.specs.inside.Checks.{AreRight}
use Rattle.pc_kept.proofs.forcing.force_on.Given as goal

abbrev pub invariant-loop-i : goal.invariant-loop-i
invariant-loop-i l = record {
  right : AreRight l.store l.kept l.fn.values → AreRight l.store l.kept l.values;
  room : length l.values ≡ length l.fn.values;
}
