use Rattle.std.proofs.Common.{◌<◌, ℕ}
use Rattle.pc_kept.specs.inside.Signs.{IsUnnamedAt}
use Rattle.pc_kept.proofs.unnamed.all_unnamed.Given as goal

abbrev pub invariant-loop-x : goal.invariant-loop-x
invariant-loop-x l = (y : ℕ) → y < l.x → IsUnnamedAt l.names l.polarity.yes l.polarity.no l.polarity.banned y
