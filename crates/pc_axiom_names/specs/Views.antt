-- The axioms that names stand for.
use Rattle.pc_accept.specs.Axioms.{Axiom, axiom_some, axiom_one, axiom_rule, axiom_node, axiom_atom}
use Rattle.pc_axiom_names.specs.declared.axiom_name.AxiomName.{AxiomName}
use Rattle.pc_axiom_names.specs.declared.axiom_name.AxiomName.TheVariants.{Any, One, Rule, Node, Atom}

abbrev pub axiom_of : AxiomName → Axiom
axiom_of (Any c) = axiom_some c
axiom_of (One c v w) = axiom_one c v w
axiom_of (Rule r) = axiom_rule r
axiom_of (Node p i) = axiom_node p.rule p.steps.items i
axiom_of (Atom p reads) = axiom_atom p.rule p.steps.items reads.items
