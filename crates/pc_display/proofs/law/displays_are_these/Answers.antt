use Rattle.std.proofs.Common.{refl}
use Rattle.std.specs.Fmt.{digits}
use Rattle.pc_display.proofs.law.displays_are_these.Goals as goal

pub returns : goal.returns
unfolding digits
returns c = record { always = refl; clashing = refl; without_rules = refl; views = refl; one_view = refl; no_view = refl; two_of_them = refl; arguments = refl }
