use Rattle.std.proofs.Common.{◌∷◌, []}
use Rattle.pc_parts.specs.Components.{renamed}
use Rattle.pc_components.proofs.TiedRight.{IsFront}
use Rattle.pc_components.proofs.tied.rename.Given as goal

abbrev pub invariant-loop-cell : goal.invariant-loop-cell
invariant-loop-cell l = IsFront (renamed (l.first ∷ l.second ∷ [])) l.cell l.fn.labels.items l.labels.items
