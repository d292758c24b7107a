use Rattle.std.proofs.Common.{◌≡◌, [], map, take}
use Rattle.pc_accept.specs.Axioms.{axiom_node}
use Rattle.pc_ground.specs.Naming.{named}
use Rattle.pc_ground.proofs.counter_names.name_numbers.Given as goal

abbrev pub invariant-loop-number : goal.invariant-loop-number
invariant-loop-number l = l.names ≡ named l.fn.names [] (map (axiom_node l.path.rule l.path.steps.items) (take l.number-index l.numbers))
