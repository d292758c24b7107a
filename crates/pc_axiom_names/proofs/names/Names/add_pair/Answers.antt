use Rattle.pc_axiom_names.proofs.Longer.{pair_within}
use Rattle.pc_axiom_names.proofs.Rising.{pair_rises}
use Rattle.pc_axiom_names.proofs.names.Names.add_pair.Goals as goal

pub invariant_of-self-2 : goal.invariant_of-self-2
invariant_of-self-2 c = rw c.in_ok-push.ensures.items (pair_within _ _ _ _ _ _ c.self.invariant.0, pair_rises c.self.inside.variables.items c.self.inside.axioms.items c.args.cell c.args.value c.self.invariant.1)
