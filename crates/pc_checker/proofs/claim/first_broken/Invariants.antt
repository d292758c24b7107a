use Rattle.std.proofs.Common.{◌≢◌, ℕ, ◌<◌, Some}
use Rattle.pc_sheet.specs.Entailment.{RuleHolds}
use Rattle.pc_checker.proofs.claim.first_broken.Given as goal

abbrev pub invariant-loop-rule : goal.invariant-loop-rule
invariant-loop-rule l = (k : ℕ) → k < l.rule → l.left_out ≢ Some k → RuleHolds l.book l.values k
