use Rattle.std.proofs.Common.{◌≡◌, map, take}
use Rattle.pc_checker.specs.inside.Alike.{place_said}
use Rattle.pc_checker.proofs.alike.places_of.Given as goal

abbrev pub invariant-loop-said : goal.invariant-loop-said
invariant-loop-said l = l.places.items ≡ map place_said (take l.said-index l.uses)
