use Rattle.std.proofs.Common.{refl}
use Rattle.pc_cert.proofs.Images.{none_some}
use Rattle.pc_cert.proofs.derived.set_clause.Goals as goal

pub returns-in_default : goal.returns-in_default
returns-in_default c = λ k e below. none_some k ((c.in_default.ensures k).1 (e, below))

pub returns : goal.returns
returns c = let is = (c.in-Some.ensures c.in-Some.place).0 refl in (c.in-Some.place, refl, is.0, is.1)
