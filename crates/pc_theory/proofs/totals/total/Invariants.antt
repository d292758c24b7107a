use Rattle.std.proofs.Common.{◌≡◌, sum_by, take}
use Rattle.pc_theory.specs.Spendings.{learned_of, calls_of}
use Rattle.pc_theory.proofs.totals.total.Given as goal

abbrev pub invariant-loop-part : goal.invariant-loop-part
invariant-loop-part l = record {
  learned : l.learned ≡ sum_by learned_of (take l.part-index l.fn.parts.items);
  calls : l.calls ≡ sum_by calls_of (take l.part-index l.fn.parts.items);
}
