use Rattle.std.proofs.Common.{◌≡◌, drop}
use Rattle.pc_components.specs.inside.Marks.{all_marked}
use Rattle.pc_components.proofs.marks.mark_all.Given as goal

abbrev pub invariant-loop-place : goal.invariant-loop-place
invariant-loop-place l = all_marked (drop l.place-index l.places) l.marks.items ≡ all_marked l.places l.fn.marks.items
