use Rattle.std.proofs.Common.{refl}
use Rattle.std.specs.Fmt.{digits}
use Rattle.unicode_width.proofs.Computing.{unicode_width}
use Rattle.pc_display.proofs.law.grids_are_these.Goals as goal

pub returns : goal.returns
unfolding digits unicode_width
returns c = record { always = refl; clashing = refl; without_rules = refl; views = refl; one_view = refl; no_view = refl; arguments = refl; wide = refl }
