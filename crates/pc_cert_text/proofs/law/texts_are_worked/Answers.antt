use Rattle.std.proofs.Common.{refl}
use Rattle.std.specs.Fmt.{digits}
use Rattle.pc_cert_text.proofs.law.texts_are_worked.Goals as goal

pub returns : goal.returns
unfolding digits
returns c = record { implied = refl; every_axiom = refl; arguments = refl; refuted = refl; sets = refl; denied = refl; against_rule = refl }
