use Rattle.std.proofs.Common.{◌≡◌, ◌++◌, drop}
use Rattle.pc_components.specs.inside.Marks.{places_marked}
use Rattle.pc_components.proofs.marks.marked_places.Given as goal

abbrev pub invariant-loop-place : goal.invariant-loop-place
invariant-loop-place l = l.places.items ++ places_marked l.place (drop l.place l.marks) ≡ places_marked 0 l.marks
