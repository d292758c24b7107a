use Rattle.pc_worked_laws.proofs.WorldsHold.{worlds}
use Rattle.pc_worked_laws.proofs.WithoutHolds.{without}
use Rattle.pc_worked_laws.proofs.worked.worlds_are_worked.Goals as goal

pub returns-clause-exact : goal.returns-clause-exact
returns-clause-exact c = worlds

pub returns-clause-without : goal.returns-clause-without
returns-clause-without c = without
