use Rattle.std.proofs.Common.{subst, sym}
use Rattle.pc_sheet.specs.WellFormed.{AreWellFormedRules}
use Rattle.pc_logic.proofs.NodeLemmas.{all_rules_bounded}
use Rattle.pc_logic.proofs.ShallowLemmas.{shallow_of}
use Rattle.pc_logic.proofs.evaluation.bounded_rules.Goals as goal

pub returns-clause-shallow : goal.returns-clause-shallow
returns-clause-shallow c = shallow_of _ c.rules.result.now (subst (AreWellFormedRules _) (sym c.rules.ensures) c.well_formed-2.ensures.rules)

pub returns-clause-bounded : goal.returns-clause-bounded
returns-clause-bounded c = all_rules_bounded _ c.rules.result.now (subst (AreWellFormedRules _) (sym c.rules.ensures) c.well_formed-2.ensures.rules)
