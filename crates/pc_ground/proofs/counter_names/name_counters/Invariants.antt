use Rattle.std.proofs.Common.{◌≡◌, [], map}
use Rattle.std.specs.List.{flat_map, range_with_len}
use Rattle.pc_ground.specs.Ground.{counter_axioms}
use Rattle.pc_ground.specs.Naming.{name_of, named}
use Rattle.pc_ground.proofs.counter_names.name_counters.Given as goal

abbrev pub invariant-loop-i : goal.invariant-loop-i
invariant-loop-i l =
    l.names ≡ named l.fn.names [] (map name_of (flat_map (λ x. flat_map (counter_axioms l.path.rule l.path.steps.items l.values l.threshold x) (range_with_len 0 l.threshold)) (range_with_len 0 l.i)))
