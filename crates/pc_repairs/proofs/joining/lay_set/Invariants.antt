use Rattle.std.proofs.Common.{◌≡◌, ◌++◌, take}
use Rattle.pc_repairs.specs.inside.Joining.{all_laid}
use Rattle.pc_repairs.proofs.joining.lay_set.Given as goal

abbrev pub invariant-loop-values : goal.invariant-loop-values
invariant-loop-values l = l.laid.items ≡ l.initial.laid.items ++ all_laid (take l.values-index l.all) l.cells l.own
