use Rattle.std.proofs.Common.{◌≡◌, ◌+◌, [], ◌∷◌, ◌++◌}
use Rattle.pc_accept.specs.Literals.{node}
use Rattle.pc_accept.specs.Axioms.{each_below}
use Rattle.pc_ground.specs.Naming.{named}
use Rattle.pc_ground.proofs.counter_names.name_counter_nodes.Given as goal

abbrev pub invariant-loop-q : goal.invariant-loop-q
invariant-loop-q l = l.names ≡ named l.fn.names (each_below l.q (λ q. node l.path.rule (l.path.steps.items ++ (l.values + q) ∷ []))) []
