use Rattle.std.proofs.Common.{arith}
use Rattle.pc_display.proofs.Widths.{first_separator, later_separator}
use Rattle.pc_display.proofs.columns.separator_columns.Goals as goal

pub returns-then-place-eq0-clause-exact : goal.returns-then-place-eq0-clause-exact
returns-then-place-eq0-clause-exact c = first_separator c.args.place (omega arith)

pub returns-else-place-eq0-clause-exact : goal.returns-else-place-eq0-clause-exact
returns-else-place-eq0-clause-exact c = later_separator c.args.place (omega arith)
