use Rattle.std.proofs.Common.{◌∷◌, map, take}
use Rattle.pc_accept.specs.Axioms.{child_of}
use Rattle.pc_accept.specs.Literals.{node}
use Rattle.pc_checker.specs.Drafts.{AreWritten}
use Rattle.pc_checker.proofs.axiom.write_parts.Given as goal

abbrev pub invariant-loop-child : goal.invariant-loop-child
invariant-loop-child l =
    AreWritten l.fn.draft l.draft ((record { what = node l.parent.rule l.parent.steps.items; sign = l.own }) ∷ map (λ c. record { what = child_of l.parent.rule l.parent.steps.items c.0; sign = c.1 }) (take l.child-index l.children))
