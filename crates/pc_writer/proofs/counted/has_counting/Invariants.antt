use Rattle.std.proofs.Common.{◌≡◌, false, take}
use Rattle.std.specs.List.{list_any}
use Rattle.pc_writer.proofs.CountedLemmas.{rule_counts}
use Rattle.pc_writer.proofs.counted.has_counting.Given as goal

abbrev pub invariant-loop-rule : goal.invariant-loop-rule
invariant-loop-rule l = list_any rule_counts (take l.rule-index l.rule-items) ≡ false
