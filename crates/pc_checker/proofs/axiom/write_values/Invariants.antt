use Rattle.pc_accept.specs.Axioms.{each_below}
use Rattle.pc_accept.specs.Literals.{pair, positive}
use Rattle.pc_checker.specs.Drafts.{AreWritten}
use Rattle.pc_checker.proofs.axiom.write_values.Given as goal

abbrev pub invariant-loop-value : goal.invariant-loop-value
invariant-loop-value l = AreWritten l.fn.draft l.draft (each_below l.value (λ v. positive (pair l.cell (record { 0 = v }))))
