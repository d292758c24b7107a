use Rattle.std.proofs.Common.{map, take}
use Rattle.pc_accept.specs.Axioms.{negated_entry}
use Rattle.pc_checker.specs.Drafts.{AreWritten}
use Rattle.pc_checker.proofs.axiom.write_reads.Given as goal

abbrev pub invariant-loop-read : goal.invariant-loop-read
invariant-loop-read l = AreWritten l.fn.draft l.draft (map negated_entry (take l.read-index l.reads))
