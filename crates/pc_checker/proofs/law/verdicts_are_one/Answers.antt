use Rattle.pc_checker.proofs.OneVerdict.{verdicts_are_one}
use Rattle.pc_checker.proofs.law.verdicts_are_one.Goals as goal

pub returns : goal.returns
returns c = verdicts_are_one
