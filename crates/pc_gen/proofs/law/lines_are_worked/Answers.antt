use Rattle.std.proofs.Common.{refl}
use Rattle.std.specs.Fmt.{digits}
use Rattle.pc_gen.proofs.law.lines_are_worked.Goals as goal

pub returns : goal.returns
unfolding digits
returns c = refl
