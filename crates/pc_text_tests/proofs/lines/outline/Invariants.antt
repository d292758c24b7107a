use Rattle.std.proofs.Common.{◌≡◌}
use Rattle.pc_text_tests.proofs.lines.outline.Given as goal

abbrev pub invariant-loop : goal.invariant-loop
invariant-loop g l = l.reader.longest ≡ l.limit
