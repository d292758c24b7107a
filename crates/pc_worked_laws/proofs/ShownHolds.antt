-- Displays, computed.
use Rattle.std.proofs.Common.{refl}
use Rattle.std.specs.Fmt.{digits}
use Rattle.unicode_width.proofs.Computing.{unicode_width}
use Rattle.serde_json.proofs.OnLiterals.{serde_json_on_literals}
use Rattle.pc_worked_laws.specs.Shown.{WorkedNewerViews}

pub worked_newer_views : WorkedNewerViews
unfolding digits unicode_width serde_json_on_literals
worked_newer_views = record { shown = refl; in_table = refl; in_json = refl }
